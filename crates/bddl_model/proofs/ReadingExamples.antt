-- Small formula texts, and what reading makes of them.
use Rattle.std.proofs.Common.{◌≡◌, ℕ, List, [], ◌∷◌, refl}
use Rattle.std.specs.Prelude.{true, false, pos, negsuc, codes, Ok, Err, Result}
use Rattle.bddl_model.specs.declared.formula.Lit.{Lit}
use Rattle.bddl_model.specs.declared.formula.Bound.{Bound}
use Rattle.bddl_model.specs.declared.formula.Quant.{Quant}
use Rattle.bddl_model.specs.declared.formula.Quant.TheVariants.{Exists, All}
use Rattle.bddl_model.specs.declared.fault.QFault.{QFault}
use Rattle.bddl_model.specs.declared.fault.QFault.TheVariants.{NoProblemLine, BadWord, OutOfRange, BoundTwice, AfterMatrix, EndsEarly, TooManyVariables, CountDiffers}
use Rattle.bddl_model.specs.FormulaReading.{FormulaRead, reading}

abbrev bound : Quant → ℕ → Bound
bound q v = record { quant = q; var = record { 0 = v } }

abbrev plus : ℕ → Lit
plus v = record { var = record { 0 = v }; negated = false }

abbrev minus : ℕ → Lit
minus v = record { var = record { 0 = v }; negated = true }

abbrev read : ℕ → ℕ → List Bound → List (List Lit) → Result FormulaRead QFault
read variables said prefix clauses = Ok (record { variables = variables; clauses = said; form = record { prefix = prefix; clauses = clauses } })

-- ---- forms

sets_of_one_quantifier_are_one_block : reading (codes "p cnf 3 1\ne 2 0\ne 0 e 1\n0 a 3 0\n-3 1 0\n") ≡ read 3 1 (bound Exists 2 ∷ bound Exists 1 ∷ bound All 3 ∷ []) ((minus 3 ∷ plus 1 ∷ []) ∷ [])
sets_of_one_quantifier_are_one_block = refl

free_variables_come_first : reading (codes "p cnf 4 1\na 2 0\n4 2 -3 0\n") ≡ read 4 1 (bound Exists 3 ∷ bound Exists 4 ∷ bound All 2 ∷ []) ((plus 4 ∷ plus 2 ∷ minus 3 ∷ []) ∷ [])
free_variables_come_first = refl

doubles_and_opposites_go : reading (codes "p cnf 2 3\n1 2 1 0\n1 2 -1 0 0") ≡ read 2 3 (bound Exists 1 ∷ bound Exists 2 ∷ []) ((plus 1 ∷ plus 2 ∷ []) ∷ [] ∷ [])
doubles_and_opposites_go = refl

a_variable_of_a_clause_left_out_is_bound : reading (codes "p cnf 1 1\n1 -1 0\n") ≡ read 1 1 (bound Exists 1 ∷ []) []
a_variable_of_a_clause_left_out_is_bound = refl

the_last_block_may_be_universal : reading (codes "p cnf 2 0\nc no clause\na 2 0") ≡ read 2 0 (bound All 2 ∷ []) []
the_last_block_may_be_universal = refl

leading_zeros_are_read : reading (codes "p cnf 01 000000001\n-001 00 ") ≡ read 1 1 (bound Exists 1 ∷ []) ((minus 1 ∷ []) ∷ [])
leading_zeros_are_read = refl

-- ---- faults

no_text : reading [] ≡ Err (NoProblemLine 1)
no_text = refl

comments_alone : reading (codes "c p cnf 0 0\n") ≡ Err (NoProblemLine 2)
comments_alone = refl

a_comment_needs_its_line_s_first_word : reading (codes "p cnf 1 0\n1\r c") ≡ Err (BadWord 2)
a_comment_needs_its_line_s_first_word = refl

a_carriage_return_is_before_no_comment : reading (codes "\rc p cnf 0 0") ≡ Err (NoProblemLine 1)
a_carriage_return_is_before_no_comment = refl

too_many_variables : reading (codes "p cnf 16777216 0") ≡ Err (TooManyVariables 1 16777216)
too_many_variables = refl

ten_digits : reading (codes "p cnf 1 1000000000") ≡ Err (BadWord 1)
ten_digits = refl

a_negative_variable_of_a_set : reading (codes "p cnf 1 0\na -1 0") ≡ Err (BadWord 2)
a_negative_variable_of_a_set = refl

a_negative_zero : reading (codes "p cnf 1 1\n\n1 -0") ≡ Err (BadWord 3)
a_negative_zero = refl

bound_twice : reading (codes "p cnf 2 0\ne 1 1 0") ≡ Err (BoundTwice 2 1)
bound_twice = refl

a_variable_out_of_range : reading (codes "p cnf 1 0\ne 2 0") ≡ Err (OutOfRange 2 (pos 2))
a_variable_out_of_range = refl

a_literal_out_of_range : reading (codes "p cnf 1 1\n-2 0") ≡ Err (OutOfRange 2 (negsuc 1))
a_literal_out_of_range = refl

a_set_after_a_clause : reading (codes "p cnf 1 1\n1 0\na 1 0") ≡ Err (AfterMatrix 3)
a_set_after_a_clause = refl

a_quantifier_in_a_clause : reading (codes "p cnf 1 1\n1 a") ≡ Err (BadWord 2)
a_quantifier_in_a_clause = refl

an_end_in_a_clause : reading (codes "p cnf 1 1\n1\n") ≡ Err (EndsEarly 3)
an_end_in_a_clause = refl

an_end_in_the_problem_line : reading (codes "p cnf 1") ≡ Err (EndsEarly 1)
an_end_in_the_problem_line = refl

another_count : reading (codes "p cnf 1 2\ne 1 0\n1 0") ≡ Err (CountDiffers 2 1)
another_count = refl
