-- The value of a test under quantifiers.
use Rattle.std.proofs.Common.{◌≡◌, Bool, true, false, List, [], ◌∷◌, refl, ap₂, ◌∙◌}
use Rattle.bddl_model.specs.declared.formula.Quant.{Quant}
use Rattle.bddl_model.specs.declared.formula.Quant.TheVariants.{Exists, All}
use Rattle.bddl_model.specs.declared.formula.Bound.{Bound}
use Rattle.bddl_model.specs.Truth.{Assignment, assign, join, value}

pub join_same : (q : Quant) (b : Bool) → join q b b ≡ b
join_same Exists true = refl
join_same Exists false = refl
join_same All true = refl
join_same All false = refl

-- a test that always answers the same has that value, whatever the quantifiers
pub value_settled : (t : Bool) (matrix : Assignment → Bool) → ((a : Assignment) → matrix a ≡ t) → (prefix : List Bound) (a : Assignment) → value prefix matrix a ≡ t
value_settled t matrix always [] a = always a
value_settled t matrix always (b ∷ rest) a =
    ap₂ (join b.quant) (value_settled t matrix always rest (assign b.var.0 true a)) (value_settled t matrix always rest (assign b.var.0 false a)) ∙ join_same b.quant t
