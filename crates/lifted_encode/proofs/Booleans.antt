-- Laws of conjunction, disjunction and negation.
use Rattle.std.proofs.Common.{◌≡◌, Bool, true, false, not, ◌&&◌, ◌||◌, refl}

pub and_true : (b : Bool) → (b && true) ≡ b
and_true true = refl
and_true false = refl

pub or_true : (b : Bool) → (b || true) ≡ true
or_true true = refl
or_true false = refl

pub or_false : (b : Bool) → (b || false) ≡ b
or_false true = refl
or_false false = refl

pub not_not : (b : Bool) → not (not b) ≡ b
not_not true = refl
not_not false = refl

pub and_associates : (x y z : Bool) → ((x && y) && z) ≡ (x && (y && z))
and_associates true y z = refl
and_associates false y z = refl

pub or_associates : (x y z : Bool) → ((x || y) || z) ≡ (x || (y || z))
or_associates true y z = refl
or_associates false y z = refl
