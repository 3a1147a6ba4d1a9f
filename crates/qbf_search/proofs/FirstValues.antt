-- What settles a form is its value, with the values of its first block.
use Rattle.std.proofs.Common.{◌≡◌, ℕ, zero, suc, ◌≤◌, Bool, true, false, List, [], ◌∷◌, length, map, take, drop, if◌then◌else◌, refl, sym, ap, ◌∙◌, subst, arith, eqb-true}
use Rattle.std.specs.Prelude.{◌==◌}
use Rattle.std.proofs.lemmas.Bool.{or_from}
use Rattle.std.proofs.lemmas.List.{length-map, length-take-le}
use Rattle.bddl_model.specs.declared.formula.Quant.{Quant}
use Rattle.bddl_model.specs.declared.formula.Bound.{Bound}
use Rattle.bddl_model.specs.Truth.{Assignment, Formula, assign, value, clauses_true, no_values}
use Rattle.bddl_model.specs.FormulaText.{same_quant}
use Rattle.bddl_model.specs.Fine.{first_block, with_first, value_under}
use Rattle.bddl_model.proofs.Assignments.{binds, SameOutside, value_same, eqb_turned}
use Rattle.bddl_model.specs.Verdicts.{IsValue}
use Rattle.qbf_search.specs.Standing.{Settles}

-- ---- the values of the first variables

abbrev pub first_values : ℕ → List Bound → Assignment → List Bool
first_values k prefix a = map (λ b. a b.var.0) (take k prefix)

none_first : (prefix : List Bound) (a : Assignment) → with_first prefix [] a ≡ a
none_first [] a = refl
none_first (x ∷ rest) a = refl

same_own : (x : Bound) (p : List Bound) (a c : Assignment) → SameOutside (x ∷ p) c a → SameOutside p (assign x.var.0 (a x.var.0) c) a
same_own x p a c same w out = at (w == x.var.0) refl
  where
    at : (t : Bool) → (w == x.var.0) ≡ t → assign x.var.0 (a x.var.0) c w ≡ a w
    at true e = rw e (ap a (sym (eqb-true w x.var.0 e)))
    at false e = rw e (same w (or_from (x.var.0 == w) (binds p w) (eqb_turned w x.var.0 e) out))

same_behind_first : (p : List Bound) (k : ℕ) (a c : Assignment) → SameOutside p c a → SameOutside (drop k p) (with_first p (first_values k p a) c) a
same_behind_first p zero a c same = subst (λ (b : Assignment). SameOutside p b a) (sym (none_first p c)) same
same_behind_first [] (suc k) a c same = same
same_behind_first (x ∷ p) (suc k) a c same = same_behind_first p k a (assign x.var.0 (a x.var.0) c) (same_own x p a c same)

pub first_block_within : (q : Quant) (p : List Bound) → first_block q p ≤ length p
first_block_within q [] = omega arith
first_block_within q (x ∷ p) = at (same_quant x.quant q) (first_block_within q p)
  where
    at : (t : Bool) → first_block q p ≤ length p → (if t then suc (first_block q p) else 0) ≤ suc (length p)
    at true le = omega arith
    at false le = omega arith

pub settled_value : (f : Formula) (q : Quant) (a : Assignment) (b : Bool) (first : List Bool) → Settles f a b → first ≡ first_values (first_block q f.prefix) f.prefix a → IsValue f q b first
settled_value f q a b first settles is = record {
  form = value_same f.prefix (clauses_true f.clauses) no_values a (λ w out. sym (settles.outside w out)) ∙ settles.each 0;
  block = ap length is ∙ many;
  rest =
      ap (λ vs. value_under f.prefix (clauses_true f.clauses) vs no_values) is
      ∙ ap (λ n. value (drop n f.prefix) (clauses_true f.clauses) (with_first f.prefix (first_values (first_block q f.prefix) f.prefix a) no_values)) many
      ∙ value_same (drop (first_block q f.prefix) f.prefix) (clauses_true f.clauses) (with_first f.prefix (first_values (first_block q f.prefix) f.prefix a) no_values) a
      (same_behind_first f.prefix (first_block q f.prefix) a no_values (λ w out. sym (settles.outside w out)))
      ∙ settles.each (first_block q f.prefix);
}
  where
    many : length (first_values (first_block q f.prefix) f.prefix a) ≡ first_block q f.prefix
    many = length-map (take (first_block q f.prefix) f.prefix) (λ (x : Bound). a x.var.0) ∙ length-take-le (first_block q f.prefix) f.prefix (first_block_within q f.prefix)
