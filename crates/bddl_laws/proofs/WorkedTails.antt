-- Tails and bounds of small forms, as the definitions compute them.
use Rattle.std.proofs.Common.{◌≡◌, ℕ, true, false, List, [], ◌∷◌, refl}
use Rattle.bddl_model.specs.declared.formula.Quant.{Quant}
use Rattle.bddl_model.specs.declared.formula.Quant.TheVariants.{Exists, All}
use Rattle.bddl_model.specs.declared.formula.Bound.{Bound}
use Rattle.bddl_model.specs.declared.formula.Lit.{Lit}
use Rattle.bddl_model.specs.Truth.{Formula}
use Rattle.bddl_model.specs.Tail.{tail_length}
use Rattle.bddl_model.specs.Bounds.{steps_bound, bound}

abbrev quantified : Quant → ℕ → Bound
quantified q v = record { quant = q; var = record { 0 = v } }

abbrev plus : ℕ → Lit
plus v = record { var = record { 0 = v }; negated = false }

abbrev minus : ℕ → Lit
minus v = record { var = record { 0 = v }; negated = true }

abbrev form : List Bound → List (List Lit) → Formula
form prefix clauses = record { prefix = prefix; clauses = clauses }

-- variable 3 is true, and 4 holds where 1 does and 2 doesn't
abbrev one_gate : List (List Lit)
one_gate = (plus 3 ∷ []) ∷ (minus 4 ∷ plus 1 ∷ []) ∷ (minus 4 ∷ minus 2 ∷ []) ∷ (plus 4 ∷ minus 1 ∷ plus 2 ∷ []) ∷ (plus 4 ∷ []) ∷ []

abbrev gate_behind_inputs : Formula
gate_behind_inputs = form (quantified Exists 1 ∷ quantified All 2 ∷ quantified Exists 3 ∷ quantified Exists 4 ∷ []) one_gate

a_gate_and_the_variable_that_is_true : tail_length gate_behind_inputs ≡ 2
unfolding tail_length
a_gate_and_the_variable_that_is_true = refl

bound_of_a_gate_behind_inputs : bound gate_behind_inputs ≡ 40
unfolding tail_length bound steps_bound
bound_of_a_gate_behind_inputs = refl

literals_in_any_order : tail_length (form (quantified Exists 1 ∷ quantified Exists 2 ∷ quantified Exists 3 ∷ quantified Exists 4 ∷ []) ((plus 2 ∷ minus 1 ∷ plus 4 ∷ []) ∷ (minus 2 ∷ minus 4 ∷ []) ∷ (plus 1 ∷ minus 4 ∷ []) ∷ (plus 3 ∷ []) ∷ [])) ≡ 2
unfolding tail_length
literals_in_any_order = refl

no_clauses_make_no_tail : tail_length (form (quantified Exists 1 ∷ []) []) ≡ 0
unfolding tail_length
no_clauses_make_no_tail = refl

a_universal_variable_is_no_gate : tail_length (form (quantified Exists 1 ∷ quantified All 2 ∷ quantified Exists 3 ∷ quantified All 4 ∷ []) one_gate) ≡ 0
unfolding tail_length
a_universal_variable_is_no_gate = refl

-- variable 2 stands behind the variable that it would define
operands_stand_before : tail_length (form (quantified Exists 1 ∷ quantified Exists 3 ∷ quantified Exists 4 ∷ quantified Exists 2 ∷ []) one_gate) ≡ 0
unfolding tail_length
operands_stand_before = refl

one_variable_is_a_tail : tail_length (form (quantified Exists 1 ∷ quantified Exists 2 ∷ quantified Exists 4 ∷ []) ((plus 4 ∷ []) ∷ [])) ≡ 1
unfolding tail_length
one_variable_is_a_tail = refl

-- a clause with a literal more is another one
a_longer_clause_defines_nothing : tail_length (form (quantified Exists 1 ∷ quantified Exists 2 ∷ quantified Exists 3 ∷ quantified Exists 4 ∷ []) ((plus 3 ∷ []) ∷ (minus 4 ∷ plus 1 ∷ []) ∷ (minus 4 ∷ minus 2 ∷ []) ∷ (plus 4 ∷ minus 1 ∷ plus 2 ∷ minus 3 ∷ []) ∷ [])) ≡ 0
unfolding tail_length
a_longer_clause_defines_nothing = refl
