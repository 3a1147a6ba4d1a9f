-- What the opponents of a call answered, and what it leaves of them.
use Rattle.std.specs.Prelude.{ℕ, ◌≡◌, ◌<◌, ◌⊎◌, Bool, true, false, List, [], ◌∷◌, Option, None, Some, Result, Ok, Err, IsTrue, slice_get}
use Rattle.bddl_model.specs.declared.command.Command.{Command}
use Rattle.bddl_model.specs.declared.command.Command.TheVariants.{Play}
use Rattle.bddl_model.specs.Request.{Request}
use Rattle.io_edge.specs.Outside.{Counts}
use Rattle.request_parts.specs.declared.refusal.Close.{Close}
use Rattle.request_parts.specs.declared.refusal.Close.TheVariants.{Gone, BadReply}
use Rattle.request_parts.specs.declared.refusal.Stop.{Stop}
use Rattle.request_parts.specs.declared.refusal.Stop.TheVariants.{Refused}

-- White's replies in a play against the opponent of this number: what it had answered when the call ended, or what it
-- told before that it would answer. Without a play they may be any.
abbrev pub AreReplies : {O : Type 0} → (O → List ℕ) → (O → Option (List ℕ)) → Option ℕ → List O → List O → List ℕ → Type 0
AreReplies said left None old new replies = Unit {0}
AreReplies {O} said left (Some who) old new replies =
    ((o : O) × (slice_get new who ≡ Some o) × (said o ≡ replies)) ⊎ ((o : O) × (slice_get old who ≡ Some o) × (left o ≡ Some replies))

-- only the opponent of this number may be another than before
abbrev pub ChangesOnly : {O : Type 0} → Option ℕ → List O → List O → Type 0
ChangesOnly {O} who old new = (k : ℕ) → (who ≡ Some k → ⊥) → slice_get new k ≡ slice_get old k

-- a play began with the number of its request
abbrev pub Begins : {O : Type 0} → (O → ℕ) → Command → List ℕ → List O → Type 0
Begins {O} began Play (who ∷ number ∷ []) new = (o : O) × (slice_get new who ≡ Some o) × (began o ≡ number)
Begins began c numbers new = Unit {0}

abbrev pub HasBegun : {O : Type 0} → (O → ℕ) → Option Request → List O → Type 0
HasBegun began None new = Unit {0}
HasBegun began (Some r) new = Begins began r.command r.numbers new

-- the count of the opponent of this number tells whether a reply was missed; without a play none is
abbrev pub CountsAt : {O : Type 0} → (O → ℕ) → Option ℕ → List O → List O → Bool → Type 0
CountsAt count None old new missed = missed ≡ false
CountsAt {O} count (Some who) old new missed = (a b : O) × (slice_get old who ≡ Some a) × (slice_get new who ≡ Some b) × Counts (count a) (count b) missed

-- the count of the opponent of this number is higher than before
abbrev pub Rises : {O : Type 0} → (O → ℕ) → Option ℕ → List O → List O → Type 0
Rises count None old new = ⊥
Rises {O} count (Some who) old new = (a b : O) × (slice_get old who ≡ Some a) × (slice_get new who ≡ Some b) × (count a < count b)

-- a missed reply is counted, and nothing else is
abbrev pub IsCounted : {O : Type 0} → (O → ℕ) → Option ℕ → List O → List O → Bool → Type 0
IsCounted count who old new missed = (missed ≡ true → CountsAt count who old new true) × (Rises count who old new → missed ≡ true)

-- the opponent of this number is steady, if there is a play
abbrev pub IsSteadyAt : {O : Type 0} → (O → Bool) → Option ℕ → List O → Type 0
IsSteadyAt steady None old = Unit {0}
IsSteadyAt {O} steady (Some who) old = (o : O) × (slice_get old who ≡ Some o) × IsTrue (steady o)

-- ---- what a request ended with

-- no reply came
abbrev pub is_missed : {R : Type 0} → Result Close (Stop R) → Bool
is_missed (Ok Gone) = true
is_missed r = false

-- no play ended early
abbrev pub GoesThrough : Close → Type 0
GoesThrough Gone = ⊥
GoesThrough (BadReply number count) = ⊥
GoesThrough c = Unit {0}

abbrev pub is_refused : {R : Type 0} → Result Close (Stop R) → Bool
is_refused (Err (Refused r)) = true
is_refused r = false
