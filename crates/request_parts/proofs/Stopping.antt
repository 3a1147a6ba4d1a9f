-- A request that stops, or that puts a text.
use Rattle.std.proofs.Common.{ℕ, ◌≡◌, List, Ok, Err, Option, inl, inr, refl}
use Rattle.bddl_model.specs.declared.fault.ReadFault.{ReadFault}
use Rattle.bddl_model.specs.Tokens.{Lexeme}
use Rattle.bddl_model.specs.Outcome.{End, done, TextThen}
use Rattle.io_edge.specs.Ends.{put_failed}
use Rattle.io_edge.specs.Outside.{Counts, with_bytes, WithFront}
use Rattle.io_edge.specs.declared.sink.SinkEnd.{SinkEnd}
use Rattle.io_edge.specs.declared.sink.SinkEnd.TheVariants as sink
use Rattle.request_parts.specs.Stops.{stop_of_sink}
use Rattle.request_parts.specs.Ends.{Nothing, StopsAt, Writes, closed, is_write_fault}
use Rattle.request_parts.specs.declared.refusal.Close.{Close}
use Rattle.request_parts.specs.declared.refusal.Close.TheVariants as close
use Rattle.request_parts.specs.declared.refusal.Stop.{Stop}
use Rattle.request_parts.specs.declared.refusal.Stop.TheVariants as stop

-- what stops in some way stops in more
pub stops_in : {R : Type 0} (told : R → End) (ends more : End → Type 0) (s : Stop R) → ((end : End) → ends end → more end) → StopsAt told ends s → StopsAt told more s
stops_in told ends more (stop.Refused r) wider h = wider (told r) h
stops_in told ends more stop.WriteFault wider h = h
stops_in told ends more stop.NoMemory wider h = h

pub stops_writing : {R : Type 0} (told : R → End) (ends : End → Type 0) (s : Stop R) (old : Option (List ℕ)) → StopsAt told ends s → Writes told ends old old (Err s)
stops_writing told ends (stop.Refused r) old h = (refl, h)
stops_writing told ends stop.WriteFault old h = absurd h
stops_writing told ends stop.NoMemory old h = inl refl

module _ {R : Type 0} (told : R → End) (ends : End → Type 0) (c : Close) (text : List ℕ) (out : ends (closed c text)) (old new : Option (List ℕ)) where
  pub closed_is_written : new ≡ with_bytes old text → Writes told ends old new (Ok c)
  closed_is_written w = (text, out, w)

  pub closed_is_cut : (end : SinkEnd) → WithFront old new text → Writes told ends old new (Err (stop_of_sink end))
  closed_is_cut sink.Failed w = inr (closed c text, out, w)
  closed_is_cut sink.NoMemory w = inr (closed c text, out, w)

module _ {R : Type 0} (told : R → End) (ends : End → Type 0) (text : List ℕ) (out : ends (done text)) (old new : Option (List ℕ)) where
  pub text_is_written : new ≡ with_bytes old text → Writes told ends old new (Ok close.Done)
  text_is_written = closed_is_written told ends close.Done text out old new

  pub text_is_cut : (end : SinkEnd) → WithFront old new text → Writes told ends old new (Err (stop_of_sink end))
  text_is_cut = closed_is_cut told ends close.Done text out old new

-- nothing was written
pub stops_cut : {R : Type 0} (told : R → End) (ends : End → Type 0) (old new : Option (List ℕ)) (end : SinkEnd) → new ≡ old → Writes told ends old new (Err (stop_of_sink end))
stops_cut told ends old new sink.Failed same = inl same
stops_cut told ends old new sink.NoMemory same = inl same

-- a text that goes on with nothing stops in any case
pub text_then : {A : Type 0} (grammar : List Lexeme → A → Type 0) (note : List ℕ → ReadFault → List ℕ) (bytes : List ℕ) (next : A → End → Type 0) (end : End) → TextThen grammar note bytes Nothing end → TextThen grammar note bytes next end
text_then grammar note bytes next end (inl h) = inl h
text_then grammar note bytes next end (inr h) = absurd h.2

pub write_is_counted : (T U R : Type 0) (old new : ℕ) (end : SinkEnd) → Counts old new (put_failed {T = T} (Err end)) → Counts old new (is_write_fault {T = U} {R = R} (Err (stop_of_sink end)))
write_is_counted T U R old new sink.Failed h = h
write_is_counted T U R old new sink.NoMemory h = h
