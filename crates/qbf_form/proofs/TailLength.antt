-- The length that the marks give is that of the form's tail.
use Rattle.std.proofs.Common.{◌≡◌, ℕ, Bool, true, ◌&&◌, ◌||◌, List, [], ◌∷◌, ◌++◌, inl, inr, refl, sym, ap, ap₂, subst, ◌∙◌}
use Rattle.std.specs.Prelude.{nat_lt}
use Rattle.std.proofs.lemmas.Bool.{cases_Bool, and_left, or_left}
use Rattle.bddl_model.specs.declared.formula.Bound.{Bound}
use Rattle.bddl_model.specs.declared.formula.Lit.{Lit}
use Rattle.bddl_model.specs.Truth.{Formula, negation}
use Rattle.bddl_model.specs.Forms.{has_number, prefix_variables, AllApart, AllFitPrefix, IsForm}
use Rattle.bddl_model.specs.Circuit.{positive}
use Rattle.bddl_model.specs.Tail.{has_clause, tail_length}
use Rattle.bddl_model.proofs.Assignments.{eqb_turned}
use Rattle.bddl_model.proofs.NumberLists.{has_append}
use Rattle.qbf_form.specs.Places.{place_in}
use Rattle.qbf_form.specs.declared.pairs.Pair.{Pair}
use Rattle.qbf_form.specs.Pairs.{pair_of, pairs_of, has_pair}
use Rattle.qbf_form.specs.TailMarks.{has_unit, is_operand, has_definition, longest_from}
use Rattle.qbf_form.proofs.GateClauses.{operand, gate_is_defined}
use Rattle.qbf_form.proofs.LongestTail.{GatesAre, walk_is_tail}
use Rattle.qbf_form.proofs.PairClauses.{pairs_are}
use Rattle.qbf_form.proofs.Places.{front_apart, stands_before}
use Rattle.qbf_form.proofs.SameClauses.{unit_is}

units_are : (bounds : List Bound) (cs : List (List Lit)) (v : ℕ) → AllFitPrefix bounds cs → has_clause cs (positive v ∷ []) ≡ has_unit cs v
units_are bounds [] v fit = refl
units_are bounds (c ∷ cs) v fit = ap₂ (λ x y. x || y) (unit_is c v fit.0.1) (units_are bounds cs v fit.1)

operand_is : (f : Formula) (pairs : Pair → Bool) (front : List ℕ) (g : ℕ) (back : List ℕ) → IsForm f → ((pair : Pair) → pairs pair ≡ has_pair (pairs_of f.clauses) pair) → front ++ g ∷ back ≡ prefix_variables f.prefix
    → (x : Lit) → has_number (prefix_variables f.prefix) x.var.0 ≡ true → is_operand (place_in (prefix_variables f.prefix)) pairs (positive g) x ≡ operand f.clauses front g x
operand_is f pairs front g back form held split x bound = ap (λ b. b && pairs (pair_of (negation (positive g)) (negation x))) before ∙ elim (cases_Bool (has_number front x.var.0)) [
  | inl in_front ↦ ap (λ b. has_number front x.var.0 && b)
      (held (pair_of (negation (positive g)) (negation x))
      ∙ sym (pairs_are f.prefix f.clauses (negation (positive g)) (negation x) form.clauses (eqb_turned x.var.0 g (front_apart front g back x.var.0 apart in_front))))
  | inr behind ↦ and_left (has_number front x.var.0) (pairs (pair_of (negation (positive g)) (negation x))) behind ∙ sym (and_left (has_number front x.var.0) (has_clause f.clauses (negation (positive g) ∷ negation x ∷ [])) behind)
]
  where
    apart : AllApart (front ++ g ∷ back)
    apart = subst (λ vs. AllApart vs) (sym split) form.apart

    before : nat_lt (place_in (prefix_variables f.prefix) x.var.0) (place_in (prefix_variables f.prefix) g) ≡ has_number front x.var.0
    before = subst (λ vs. nat_lt (place_in vs x.var.0) (place_in vs g) ≡ has_number front x.var.0) split (stands_before 1 front g back x.var.0 apart (subst (λ vs. has_number vs x.var.0 ≡ true) (sym split) bound))

gates_are : (f : Formula) (pairs : Pair → Bool) → IsForm f → ((pair : Pair) → pairs pair ≡ has_pair (pairs_of f.clauses) pair)
    → GatesAre f.clauses (prefix_variables f.prefix) (has_definition (place_in (prefix_variables f.prefix)) pairs f.clauses)
gates_are f pairs form held front g back split = gate_is_defined f.prefix f.clauses (place_in (prefix_variables f.prefix)) pairs front g (record {
  fit = form.clauses;
  others = λ v in_front. front_apart front g back v (subst (λ vs. AllApart vs) (sym split) form.apart) in_front;
  bound = λ v in_front. subst (λ vs. has_number vs v ≡ true) split (has_append front (g ∷ back) v ∙ or_left (has_number front v) (has_number (g ∷ back) v) in_front);
  same = operand_is f pairs front g back form held split;
})

pub marks_give_length : (f : Formula) (pairs : Pair → Bool) (unit gate : ℕ → Bool) → IsForm f → ((pair : Pair) → pairs pair ≡ has_pair (pairs_of f.clauses) pair)
    → ((v : ℕ) → unit v ≡ has_unit f.clauses v) → ((v : ℕ) → gate v ≡ has_definition (place_in (prefix_variables f.prefix)) pairs f.clauses v) → longest_from unit gate 0 f.prefix ≡ tail_length f
unfolding tail_length
marks_give_length f pairs unit gate form held units gates =
    walk_is_tail f.clauses f.prefix unit gate (λ v. units_are f.prefix f.clauses v form.clauses ∙ sym (units v)) (λ front g back split. gates_are f pairs form held front g back split ∙ sym (gates g))
