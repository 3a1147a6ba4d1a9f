-- A text goes to a sink, whole or up to a refusal.
use Rattle.std.specs.Prelude.{ℕ, ◌≡◌, List, [], ◌++◌, Option, Result, Ok, Err}
use Rattle.io_edge.specs.Outside.{with_bytes, WithFront}
use Rattle.io_edge.specs.declared.sink.SinkEnd.{SinkEnd}

abbrev pub Puts : List ℕ → Option (List ℕ) → Option (List ℕ) → Result Unit SinkEnd → Type 0
Puts text old new (Ok u) = new ≡ with_bytes old text
Puts text old new (Err e) = WithFront old new text

-- A text goes into a buffer: what was held and the text are what is gone to the sink and what is held.
-- A refusal leaves the buffer empty.
abbrev pub Adds :
    List ℕ → Option (List ℕ) → List ℕ → Option (List ℕ) → List ℕ → Result Unit SinkEnd → Type 0
Adds text old held_old new held_new (Ok u) =
    (gone : List ℕ) × (new ≡ with_bytes old gone) × (gone ++ held_new ≡ held_old ++ text)
Adds text old held_old new held_new (Err e) = WithFront old new (held_old ++ text) × (held_new ≡ [])
