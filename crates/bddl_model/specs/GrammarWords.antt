-- The words that a grammar is written in: texts of tokens of a type W, each with a value.
use Rattle.std.specs.Prelude.{◌≡◌, List, [], ◌∷◌, ◌++◌, Option, Some, ◌⊎◌}

-- nothing, for this value
abbrev pub done : {W A : Type 0} → A → List W → A → Type 0
done v ts x = (ts ≡ []) × (x ≡ v)

-- nothing more
abbrev pub ended : {W : Type 0} → List W → Unit {0} → Type 0
ended = done tt

-- one token, which means x
abbrev pub one : {W A : Type 0} → (W → Option A) → List W → A → Type 0
one {W} {A} meaning ts x = (t : W) × (ts ≡ t ∷ []) × (meaning t ≡ Some x)

-- a text, and behind it one that may depend on its value
abbrev pub follow : {W A B : Type 0} → (List W → A → Type 0) → (A → List W → B → Type 0) → List W → B → Type 0
follow {W} {A} {B} P Q ts y = (x : A) × (a b : List W) × (ts ≡ a ++ b) × P a x × Q x b y

infixl 10 ◌>>=◌
abbrev pub ◌>>=◌ : {W A B : Type 0} → (List W → A → Type 0) → (A → List W → B → Type 0) → List W → B → Type 0
P >>= Q = follow P Q

-- none or more texts
abbrev pub many : {W A : Type 0} → (List W → A → Type 0) → List W → List A → Type 0
many {W} {A} P ts [] = ts ≡ []
many {W} {A} P ts (x ∷ xs) = (a b : List W) × (ts ≡ a ++ b) × P a x × many P b xs

-- a text that begins with such a token, or nothing, for this value
abbrev pub optional : {W A B : Type 0} → (W → Option B) → (B → List W → A → Type 0) → A → List W → A → Type 0
optional sign Q v ts x = follow (one sign) Q ts x ⊎ done v ts x

-- what begins some text
abbrev pub Begins : {W A : Type 0} → (List W → A → Type 0) → List W → Type 0
Begins {W} {A} P front = (rest : List W) × (x : A) × P (front ++ rest) x
