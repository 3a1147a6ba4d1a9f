-- What a reply does to the meanings of an opponent.
use Rattle.std.specs.Prelude.{ℕ, Bool, true, false, ◌≡◌, ◌<◌, List, [], ◌∷◌, ◌++◌, Option, None, Some}
use Rattle.game_play.specs.declared.opponent.Reply.{Reply}
use Rattle.game_play.specs.declared.opponent.Reply.TheVariants.{Choice, Gone}

abbrev pub is_gone : Reply → Bool
is_gone (Choice n) = false
is_gone Gone = true

abbrev pub said_after : Reply → List ℕ → List ℕ
said_after (Choice n) said = said ++ n ∷ []
said_after Gone said = said

-- where the numbers to come are told, the first is answered and the others are left, and with none the opponent is gone
abbrev pub Follows : Option (List ℕ) → Option (List ℕ) → Reply → Type 0
Follows None new reply = new ≡ None
Follows (Some []) new reply = (reply ≡ Gone) × (new ≡ Some [])
Follows (Some (n ∷ ns)) new reply = (reply ≡ Choice n) × (new ≡ Some ns)

-- the number of one of so many moves was answered
abbrev pub IsShown : Reply → ℕ → Type 0
IsShown (Choice n) count = n < count
IsShown Gone count = ⊥
