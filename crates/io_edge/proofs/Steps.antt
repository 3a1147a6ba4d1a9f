-- Texts that go to a sink, or into a buffer, one behind the other.
use Rattle.std.proofs.Common.{ℕ, ◌≡◌, ◌+◌, List, [], ◌++◌, take, drop, Option, Result, Ok, Err, sym, ap, subst, ◌∙◌, append_assoc, append-nil, take-add, take-append-drop}
use Rattle.std.specs.Prelude.{IsErr}
use Rattle.io_edge.specs.Outside.{WithFront}
use Rattle.io_edge.specs.Puts.{Puts, Adds}
use Rattle.io_edge.specs.declared.sink.SinkEnd.{SinkEnd}
use Rattle.io_edge.specs.declared.sink.SinkEnd.TheVariants.{Failed}
use Rattle.io_edge.proofs.Fronts.{with_bytes_none, written_more, front_then, front_first}

-- a text was put, and the next one comes to what it comes to
pub puts_then :
    (a b : List ℕ) (old mid new : Option (List ℕ)) (r : Result Unit SinkEnd)
    → Puts a old mid (Ok tt) → Puts b mid new r → Puts (a ++ b) old new r
puts_then a b old mid new (Ok u) p q = written_more old mid new a b p q
puts_then a b old mid new (Err e) p q = front_then a b old mid new p q

-- the first text was refused
pub puts_stops :
    (a b : List ℕ) (old new : Option (List ℕ)) (r : Result Unit SinkEnd)
    → IsErr r → WithFront old new a → Puts (a ++ b) old new r
puts_stops a b old new (Ok u) stopped p = cc
puts_stops a b old new (Err e) stopped p = front_first a b old new p

pub adds_nothing : (old : Option (List ℕ)) (held : List ℕ) → Adds [] old held old held (Ok tt)
adds_nothing old held = ([], sym (with_bytes_none old), sym (append-nil held))

-- a text was taken in, and the next one comes to what it comes to
pub adds_then :
    (a b : List ℕ) (old mid new : Option (List ℕ)) (held_old held_mid held_new : List ℕ) (r : Result Unit SinkEnd)
    → Adds a old held_old mid held_mid (Ok tt)
    → Adds b mid held_mid new held_new r
    → Adds (a ++ b) old held_old new held_new r
adds_then a b old mid new held_old held_mid held_new (Ok u) p q =
    (p.0 ++ q.0, written_more old mid new p.0 q.0 p.1 q.1, append_assoc p.0 q.0 held_new ∙ ap (λ l. p.0 ++ l) q.2 ∙ regrouped) where
      regrouped : p.0 ++ (held_mid ++ b) ≡ held_old ++ (a ++ b)
      regrouped = sym (append_assoc p.0 held_mid b) ∙ ap (λ l. l ++ b) p.2 ∙ append_assoc held_old a b
adds_then a b old mid new held_old held_mid held_new (Err e) p q =
    (subst (λ t. WithFront old new t) regrouped (front_then p.0 (held_mid ++ b) old mid new p.1 q.0), q.1) where
      regrouped : p.0 ++ (held_mid ++ b) ≡ held_old ++ (a ++ b)
      regrouped = sym (append_assoc p.0 held_mid b) ∙ ap (λ l. l ++ b) p.2 ∙ append_assoc held_old a b

-- the first text was refused
pub adds_stops :
    (a b : List ℕ) (old new : Option (List ℕ)) (held_old held_new : List ℕ) (r : Result Unit SinkEnd)
    → IsErr r → WithFront old new (held_old ++ a) × (held_new ≡ []) → Adds (a ++ b) old held_old new held_new r
adds_stops a b old new held_old held_new (Ok u) stopped p = cc
adds_stops a b old new held_old held_new (Err e) stopped p =
    (subst (λ t. WithFront old new t) (append_assoc held_old a b) (front_first (held_old ++ a) b old new p.0), p.1)

-- a text that went into an empty buffer, and then what was held is put
pub adds_finish :
    (text : List ℕ) (old mid new : Option (List ℕ)) (held : List ℕ) (r : Result Unit SinkEnd)
    → Adds text old [] mid held (Ok tt) → Puts held mid new r → Puts text old new r
adds_finish text old mid new held r p q =
    subst (λ t. Puts t old new r) p.2 (puts_then p.0 held old mid new r p.1 q)

-- a text up to a place in it, and a run from there
module _ (text : List ℕ) (at n : ℕ) (old mid new : Option (List ℕ)) (r : Result Unit SinkEnd) where
  pub puts_run : Puts (take at text) old mid (Ok tt) → Puts (take n (drop at text)) mid new r → Puts (take (at + n) text) old new r
  puts_run p q =
      subst (λ t. Puts t old new r) (sym (take-add at n text)) (puts_then (take at text) (take n (drop at text)) old mid new r p q)

  pub adds_run :
      (held_old held_mid held_new : List ℕ)
      → Adds (take at text) old held_old mid held_mid (Ok tt)
      → Adds (take n (drop at text)) mid held_mid new held_new r
      → Adds (take (at + n) text) old held_old new held_new r
  adds_run held_old held_mid held_new p q =
      subst (λ t. Adds t old held_old new held_new r) (sym (take-add at n text))
      (adds_then (take at text) (take n (drop at text)) old mid new held_old held_mid held_new r p q)

-- the run behind a place was refused
module _ (text : List ℕ) (at n : ℕ) (old mid new : Option (List ℕ)) (r : Result Unit SinkEnd) (stopped : IsErr r) where
  pub puts_run_stops : Puts (take at text) old mid (Ok tt) → WithFront mid new (take n (drop at text)) → Puts text old new r
  puts_run_stops p q =
      subst (λ t. Puts t old new r) (take-append-drop (at + n) text)
      (puts_stops (take (at + n) text) (drop (at + n) text) old new r stopped (puts_run text at n old mid new (Err Failed) p q))

  pub adds_run_stops :
      (held_old held_mid held_new : List ℕ)
      → Adds (take at text) old held_old mid held_mid (Ok tt)
      → WithFront mid new (held_mid ++ take n (drop at text)) × (held_new ≡ [])
      → Adds text old held_old new held_new r
  adds_run_stops held_old held_mid held_new p q =
      subst (λ t. Adds t old held_old new held_new r) (take-append-drop (at + n) text)
      (adds_stops (take (at + n) text) (drop (at + n) text) old new held_old held_new r stopped
      (adds_run text at n old mid new (Err Failed) held_old held_mid held_new p q))
