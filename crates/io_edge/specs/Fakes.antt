-- What the fakes in memory hold, and what a call makes of it.
use Rattle.std.specs.Prelude.{ℕ, ◌==◌, ◌≤◌, ◌+◌, ◌||◌, All, if◌then◌else◌, Bool, is_none, List, [], ◌∷◌, ◌++◌, take, map, refl, Option, None, Some, Vec, Result, Ok, Err}
use Rattle.std.specs.declared.alloc.Global.{Global}
use Rattle.std.specs.FinMap.{from_entries, code, get}
use Rattle.std.specs.Coded.{Coded, code_by, coded×, coded_ℕ, coded_list}
use Rattle.std.specs.List.{list_any}
use Rattle.bddl_model.specs.Files.{Files}
use Rattle.io_edge.specs.Outside.{next_count, count_after}
use Rattle.io_edge.specs.declared.sink.SinkEnd.{SinkEnd}
use Rattle.io_edge.specs.declared.sink.SinkEnd.TheVariants as sink_end

-- a shelf: its files, the calls so far, those that are to fail, and the faults so far
pub record StoredFiles : Type 0 where
  pub files : Files
  pub calls : ℕ
  pub failing : List ℕ
  pub faults : ℕ

-- a name and its bytes, each without where it lies in memory
abbrev pub entry_of : Vec ℕ Global × Vec ℕ Global → List ℕ × List ℕ
entry_of e = (e.0.items, e.1.items)

abbrev pub files_of : List (Vec ℕ Global × Vec ℕ Global) → Files
files_of es = from_entries (map entry_of es)

abbrev pub stored_files_code : Coded StoredFiles
stored_files_code =
    code_by (Files × (ℕ × (List ℕ × ℕ))) (coded× (code (coded_list coded_ℕ) (coded_list coded_ℕ)) (coded× coded_ℕ (coded× (coded_list coded_ℕ) coded_ℕ))) (λ s. (s.files, (s.calls, (s.failing, s.faults)))) (λ p. record { files = p.0; calls = p.1.0; failing = p.1.1.0; faults = p.1.1.1 }) (λ _. refl)

-- no call that is to fail is still to come
abbrev pub IsCalm : StoredFiles → Type 0
IsCalm shelf = All (λ call. call ≤ shelf.calls) shelf.failing

-- the next call is one that is to fail
abbrev pub next_is_named : StoredFiles → Bool
next_is_named shelf = list_any (λ call. call == shelf.calls + 1) shelf.failing

-- the next read fails: its call is one that is to fail, or its file isn't held
abbrev pub read_fails : StoredFiles → List ℕ → Bool
read_fails shelf name = next_is_named shelf || is_none (get shelf.files name)

-- the shelf behind a read, which failed or not
abbrev pub after_read : StoredFiles → Bool → StoredFiles
after_read shelf failed =
    record shelf { calls = next_count shelf.calls; faults = count_after shelf.faults failed }

-- a sink: its bytes, the calls so far, those that are to fail with what each keeps, the newest first,
-- and the faults so far
pub record SinkState : Type 0 where
  pub written : List ℕ
  pub calls : ℕ
  pub failing : List (ℕ × ℕ)
  pub faults : ℕ

-- what is kept of the piece of a call that fails, by the last that was said of it
abbrev pub kept_of : List (ℕ × ℕ) → ℕ → Option ℕ
kept_of [] call = None
kept_of (f ∷ fs) call = if f.0 == call then Some f.1 else kept_of fs call

-- how much the next call keeps, if it is to fail
abbrev pub next_kept : SinkState → Option ℕ
next_kept sink = kept_of sink.failing (sink.calls + 1)

-- the bytes that a sink takes of a piece
abbrev pub kept_bytes : Option ℕ → List ℕ → List ℕ
kept_bytes None piece = piece
kept_bytes (Some kept) piece = take kept piece

-- the sink behind a write
abbrev pub after_put : SinkState → List ℕ → Result Unit SinkEnd → SinkState
after_put sink piece (Ok u) =
    record sink { written = sink.written ++ piece; calls = next_count sink.calls }
after_put sink piece (Err sink_end.Failed) =
    record sink {
      written = sink.written ++ kept_bytes (next_kept sink) piece;
      calls = next_count sink.calls;
      faults = next_count sink.faults;
    }
after_put sink piece (Err sink_end.NoMemory) = record sink { calls = next_count sink.calls }
