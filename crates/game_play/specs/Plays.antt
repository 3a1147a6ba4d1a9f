-- What a play did.
use Rattle.std.specs.Prelude.{ℕ, Bool, true, false, ◌≡◌, ◌≤◌, List, Option, Result, Ok, Err}
use Rattle.io_edge.specs.Outside.{with_bytes, WithFront}
use Rattle.bddl_model.specs.declared.memory.NoMemory.{NoMemory}
use Rattle.bddl_model.specs.declared.play.Played.{Played}
use Rattle.bddl_model.specs.declared.play.Played.TheVariants.{Reached, Gone, WriteFault}
use Rattle.bddl_model.specs.Play.{Told}

-- memory was wanting
abbrev pub IsWanting : Result Played NoMemory → Type 0
IsWanting (Ok end) = ⊥
IsWanting (Err e) = Unit {0}

-- the play ended so, and its transcript was written: whole, or a front of it where a write was refused
abbrev pub EndsSo : Told → Option (List ℕ) → Option (List ℕ) → Played → Type 0
EndsSo t old new WriteFault = WithFront old new t.text
EndsSo t old new end = (t.end ≡ end) × (new ≡ with_bytes old t.text)

abbrev pub PlaysOut : Told → Option (List ℕ) → Option (List ℕ) → Result Played NoMemory → Type 0
PlaysOut t old new (Ok end) = EndsSo t old new end
PlaysOut t old new (Err e) = WithFront old new t.text

-- a goal that was reached is one within the depth
abbrev pub IsWithin : ℕ → Played → Type 0
IsWithin depth (Reached plies) = plies ≤ depth
IsWithin depth _ = Unit {0}

-- the goal was reached within the depth, or a write was refused before
abbrev pub ReachesOrCut : ℕ → Played → Type 0
ReachesOrCut depth (Reached plies) = plies ≤ depth
ReachesOrCut depth WriteFault = Unit {0}
ReachesOrCut depth _ = ⊥

abbrev pub ends_gone : Result Played NoMemory → Bool
ends_gone (Ok Gone) = true
ends_gone _ = false

abbrev pub ends_cut : Result Played NoMemory → Bool
ends_cut (Ok WriteFault) = true
ends_cut _ = false
