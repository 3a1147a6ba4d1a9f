-- A word that can stand at a place leads to the next one, and each place is led to by one.
use Rattle.std.proofs.Common.{◌≡◌, ℕ, zero, suc, ◌≤◌, true, false, nat_eq, nat_le, List, [], ◌∷◌, ◌++◌, map, None, refl, sym, ap, subst, ◌∙◌, inl, inr, ◌⊎◌, arith, append_assoc}
use Rattle.std.specs.Prelude.{Bool}
use Rattle.std.specs.List.{flat_map}
use Rattle.std.proofs.lemmas.Bool.{cases_Bool, leb-true, le-leb, and_from, and_parts}
use Rattle.std.proofs.lemmas.List.{append-nil, map_push}
use Rattle.std.proofs.lemmas.Grind.{flat_map-append}
use Rattle.bddl_model.specs.declared.formula.Quant.{Quant}
use Rattle.bddl_model.specs.declared.formula.Lit.{Lit}
use Rattle.bddl_model.specs.Forms.{has_number, in_range, AllInRange, AllApart, greatest_variables, literal_variables}
use Rattle.bddl_model.specs.FormulaText.{QuantSet, FormulaText}
use Rattle.bddl_model.specs.FormulaWords.{FormulaToken, problem, cnf, quantifier, number, other}
use Rattle.bddl_model.specs.Qdimacs.{natural, literal, set_tokens, clause_tokens, text_tokens, bound_variables, IsProper}
use Rattle.bddl_model.specs.FormulaPlaces.{FormulaPlace, nothing, after_p, after_cnf, after_variables, in_set, in_clauses, tokens_to, IsProperPlace}
use Rattle.bddl_model.specs.FormulaFaults.{variables_fault, bound_fault, literal_fault, quantifier_fault, fault_at}
use Rattle.bddl_model.specs.FormulaReading.{with_set, with_clause, lit_of, behind_variable, behind_literal, behind}
use Rattle.bddl_model.proofs.NumberLists.{AllPass-append, ranges_parts}
use Rattle.bddl_model.proofs.NumbersApart.{last_cases, apart_push, apart_parts, apart_front}

abbrev pub Kept : FormulaPlace → FormulaToken → FormulaPlace → Type 0
Kept p w q = (tokens_to q ≡ tokens_to p ++ w ∷ []) × IsProperPlace q

pub flat_push : {A B : Type 0} (f : A → List B) (xs : List A) (x : A) → flat_map f (xs ++ x ∷ []) ≡ flat_map f xs ++ f x
flat_push f xs x = flat_map-append f xs (x ∷ []) ∙ ap (λ l. flat_map f xs ++ l) (append-nil (f x))

regroup : (s c l z : List FormulaToken) → (s ++ (c ++ (l ++ z))) ++ [] ≡ ((s ++ c) ++ l) ++ z
regroup s c l z = simp (append_assoc, append-nil)

regroup_set : (s l z : List FormulaToken) (q : FormulaToken) → ((s ++ q ∷ (l ++ z)) ++ []) ++ [] ≡ ((s ++ []) ++ q ∷ l) ++ z
regroup_set s l z q = simp (append_assoc, append-nil)

clauses_push : (t : FormulaText) (ls : List Lit) → text_tokens (with_clause t ls) ++ [] ≡ (text_tokens t ++ map literal ls) ++ natural 0 ∷ []
clauses_push t ls = ap (λ l. problem ∷ cnf ∷ natural t.variables ∷ natural t.said ∷ l) (
    ap (λ l. (flat_map set_tokens t.sets ++ l) ++ []) (flat_push clause_tokens t.clauses ls)
    ∙ regroup (flat_map set_tokens t.sets) (flat_map clause_tokens t.clauses) (map literal ls) (natural 0 ∷ []))

sets_push : (v c : ℕ) (sets : List QuantSet) (cs : List (List Lit)) (q : Quant) (vs : List ℕ) → cs ≡ []
    → text_tokens (with_set (record { variables = v; said = c; sets = sets; clauses = cs }) q vs) ++ [] ≡ (text_tokens (record { variables = v; said = c; sets = sets; clauses = cs }) ++ quantifier q ∷ map natural vs) ++ natural 0 ∷ []
sets_push v c sets cs q vs e = rw e (ap (λ l. problem ∷ cnf ∷ natural v ∷ natural c ∷ l) (
    ap (λ l. (l ++ []) ++ []) (flat_push set_tokens sets (record { quant = q; vars = vs }))
    ∙ regroup_set (flat_map set_tokens sets) (map natural vs) (natural 0 ∷ []) (quantifier q)))

-- one more token of a set or a clause that is open
open_push : {A : Type 0} (f : A → FormulaToken) (front : List FormulaToken) (xs : List A) (x : A) → front ++ map f (xs ++ x ∷ []) ≡ (front ++ map f xs) ++ f x ∷ []
open_push f front xs x = ap (λ l. front ++ l) (map_push f xs x) ∙ sym (append_assoc front (map f xs) (f x ∷ []))

set_open_push : (front : List FormulaToken) (q : FormulaToken) (xs : List ℕ) (x : ℕ) → front ++ q ∷ map natural (xs ++ x ∷ []) ≡ (front ++ q ∷ map natural xs) ++ natural x ∷ []
set_open_push front q xs x = ap (λ l. front ++ q ∷ l) (map_push natural xs x) ∙ sym (append_assoc front (q ∷ map natural xs) (natural x ∷ []))

bound_push : (sets : List QuantSet) (q : Quant) (vs : List ℕ) → bound_variables (sets ++ record { quant = q; vars = vs } ∷ []) ≡ bound_variables sets ++ vs
bound_push sets q vs = flat_push (λ (s : QuantSet). s.vars) sets (record { quant = q; vars = vs })

-- a set that ends leaves what is proper
set_proper : (t : FormulaText) (q : Quant) (vs : List ℕ) → IsProperPlace (in_set t q vs) → IsProper (with_set t q vs)
set_proper t q vs proper = record {
  variables = proper.0.variables;
  bound_range = subst (λ l. AllInRange t.variables l) (sym (bound_push t.sets q vs)) (AllPass-append (in_range t.variables) (bound_variables t.sets) vs proper.0.bound_range proper.2);
  bound_apart = subst (λ l. AllApart l) (sym (bound_push t.sets q vs)) proper.3;
  literals_range = proper.0.literals_range;
}

clause_proper : (t : FormulaText) (ls : List Lit) → IsProperPlace (in_clauses t ls) → IsProper (with_clause t ls)
clause_proper t ls proper = record {
  variables = proper.0.variables;
  bound_range = proper.0.bound_range;
  bound_apart = proper.0.bound_apart;
  literals_range = subst (λ l. AllInRange t.variables l) (sym (flat_push literal_variables t.clauses ls)) (AllPass-append (in_range t.variables) (flat_map literal_variables t.clauses) (literal_variables ls) proper.0.literals_range proper.1);
}

within : (most v : ℕ) → nat_le (suc v) most ≡ true → in_range most (suc v) ≡ true
within most v h = and_from (nat_le 1 (suc v)) (nat_le (suc v) most) (grind arith) h

pub suc_other : (v : ℕ) → nat_eq (suc v) 0 ≡ false
suc_other v = grind arith

-- what the tests of a number that isn't 0 say
bound_tests : (n most : ℕ) (bound : List ℕ) (v : ℕ) → bound_fault n most bound (suc v) ≡ None → (nat_le (suc v) most ≡ true) × (has_number bound (suc v) ≡ false)
bound_tests n most bound v h = elim (cases_Bool (nat_le (suc v) most)) [
  | inl small ↦ elim (cases_Bool (has_number bound (suc v))) [
    | inl twice ↦ absurd (let z = rw (suc_other v, small, twice) at h in cc)
    | inr once ↦ (small, once)
  ]
  | inr big ↦ absurd (let z = rw (suc_other v, big) at h in cc)
]

literal_test : (n most : ℕ) (negated : Bool) (v : ℕ) → literal_fault n most negated v ≡ None → nat_le v most ≡ true
literal_test n most negated v h = elim (cases_Bool (nat_le v most)) [
  | inl small ↦ small
  | inr big ↦ absurd (let z = rw big at h in cc)
]

pub set_step : (n : ℕ) (t : FormulaText) (q : Quant) (vs : List ℕ) (v : ℕ) → bound_fault n t.variables (bound_variables t.sets ++ vs) v ≡ None → IsProperPlace (in_set t q vs) → Kept (in_set t q vs) (natural v) (behind_variable t q vs v)
set_step n t q vs zero ok proper = (sets_push t.variables t.said t.sets t.clauses q vs proper.1, (set_proper t q vs proper, tt))
set_step n t q vs (suc v) ok proper =
    let tests = bound_tests n t.variables (bound_variables t.sets ++ vs) v ok in rw (suc_other v) (
      set_open_push (text_tokens t) (quantifier q) vs (suc v),
      (
        proper.0,
        proper.1,
        AllPass-append (in_range t.variables) vs (suc v ∷ []) proper.2 (within t.variables v tests.0, tt),
        subst (λ l. AllApart l) (append_assoc (bound_variables t.sets) vs (suc v ∷ [])) (apart_push (bound_variables t.sets ++ vs) (suc v) proper.3 tests.1),
      ),
    )

clause_step : (n : ℕ) (t : FormulaText) (ls : List Lit) (negated : Bool) (v : ℕ) → literal_fault n t.variables negated v ≡ None → (v ≡ 0 → negated ≡ false) → IsProperPlace (in_clauses t ls) → Kept (in_clauses t ls) (number negated v) (behind_literal t ls negated v)
clause_step n t ls negated zero ok sign proper = rw (sign refl) (clauses_push t ls, (clause_proper t ls proper, tt))
clause_step n t ls negated (suc v) ok sign proper = rw (suc_other v) (
  open_push literal (text_tokens t) ls (lit_of negated (suc v)),
  (
    proper.0,
    subst (λ l. AllInRange t.variables l) (sym (map_push (λ (l : Lit). l.var.0) ls (lit_of negated (suc v))))
        (AllPass-append (in_range t.variables) (literal_variables ls) (suc v ∷ []) proper.1 (within t.variables v (literal_test n t.variables negated (suc v) ok), tt)),
  ),
)

apart_nil : (xs : List ℕ) → AllApart xs → AllApart (xs ++ [])
apart_nil xs h = subst (λ l. AllApart l) (sym (append-nil xs)) h

quantifier_step : (n : ℕ) (t : FormulaText) (ls : List Lit) (q : Quant) → quantifier_fault n t.clauses ls ≡ None → IsProperPlace (in_clauses t ls) → Kept (in_clauses t ls) (quantifier q) (in_set t q [])
quantifier_step n t ls q ok proper = go t.clauses ls refl ok
  where
    go : (cs : List (List Lit)) (ls : List Lit) → t.clauses ≡ cs → quantifier_fault n cs ls ≡ None → Kept (in_clauses t ls) (quantifier q) (in_set t q [])
    go [] [] none ok = (ap (λ l. l ++ quantifier q ∷ []) (sym (append-nil (text_tokens t))), (proper.0, none, tt, apart_nil (bound_variables t.sets) proper.0.bound_apart))
    go (c ∷ cs) [] none ok = absurd cc
    go cs (l ∷ ls) none ok = absurd cc

variables_step : (n v : ℕ) → variables_fault n v ≡ None → v ≤ greatest_variables
variables_step n v ok = elim (cases_Bool (nat_le v greatest_variables)) [
  | inl small ↦ leb-true v greatest_variables small
  | inr big ↦ absurd (let z = rw big at ok in cc)
]

-- a word whose minus stands before a number that isn't 0
abbrev pub Signed : FormulaToken → Type 0
Signed (number negated v) = v ≡ 0 → negated ≡ false
Signed w = Unit {0}

-- a right word leads on
pub step_keeps : (n : ℕ) (p : FormulaPlace) (w : FormulaToken) → Signed w → fault_at n p w ≡ None → IsProperPlace p → Kept p w (behind p w)
step_keeps n nothing problem sign ok proper = (refl, tt)
step_keeps n after_p cnf sign ok proper = (refl, tt)
step_keeps n after_cnf (number false v) sign ok proper = (refl, variables_step n v ok)
step_keeps n (after_variables v) (number false c) sign ok proper = (refl, (record { variables = proper; bound_range = tt; bound_apart = tt; literals_range = tt }, tt))
step_keeps n (in_set t q vs) (number false v) sign ok proper = set_step n t q vs v ok proper
step_keeps n (in_clauses t ls) (number negated v) sign ok proper = clause_step n t ls negated v ok sign proper
step_keeps n (in_clauses t ls) (quantifier q) sign ok proper = quantifier_step n t ls q ok proper
step_keeps n nothing cnf sign ok proper = absurd cc
step_keeps n nothing (quantifier q) sign ok proper = absurd cc
step_keeps n nothing (number b v) sign ok proper = absurd cc
step_keeps n nothing other sign ok proper = absurd cc
step_keeps n after_p problem sign ok proper = absurd cc
step_keeps n after_p (quantifier q) sign ok proper = absurd cc
step_keeps n after_p (number b v) sign ok proper = absurd cc
step_keeps n after_p other sign ok proper = absurd cc
step_keeps n after_cnf problem sign ok proper = absurd cc
step_keeps n after_cnf cnf sign ok proper = absurd cc
step_keeps n after_cnf (quantifier q) sign ok proper = absurd cc
step_keeps n after_cnf (number true v) sign ok proper = absurd cc
step_keeps n after_cnf other sign ok proper = absurd cc
step_keeps n (after_variables v) problem sign ok proper = absurd cc
step_keeps n (after_variables v) cnf sign ok proper = absurd cc
step_keeps n (after_variables v) (quantifier q) sign ok proper = absurd cc
step_keeps n (after_variables v) (number true m) sign ok proper = absurd cc
step_keeps n (after_variables v) other sign ok proper = absurd cc
step_keeps n (in_set t q vs) problem sign ok proper = absurd cc
step_keeps n (in_set t q vs) cnf sign ok proper = absurd cc
step_keeps n (in_set t q vs) (quantifier r) sign ok proper = absurd cc
step_keeps n (in_set t q vs) (number true v) sign ok proper = absurd cc
step_keeps n (in_set t q vs) other sign ok proper = absurd cc
step_keeps n (in_clauses t ls) problem sign ok proper = absurd cc
step_keeps n (in_clauses t ls) cnf sign ok proper = absurd cc
step_keeps n (in_clauses t ls) other sign ok proper = absurd cc

-- ---- each place is led to

abbrev pub Led : FormulaPlace → Type 0
Led q = (p : FormulaPlace) × (w : FormulaToken) × (tokens_to q ≡ tokens_to p ++ w ∷ []) × IsProperPlace p × ((n : ℕ) → fault_at n p w ≡ None) × (behind p w ≡ q)

-- the tests of a number pass
bound_passes : (n most : ℕ) (bound : List ℕ) (v : ℕ) → in_range most v ≡ true → has_number bound v ≡ false → bound_fault n most bound v ≡ None
bound_passes n most bound zero range once = refl
bound_passes n most bound (suc v) range once = rw (suc_other v, (and_parts (nat_le 1 (suc v)) (nat_le (suc v) most) range).1, once) refl

not_zero : (most v : ℕ) → in_range most v ≡ true → nat_eq v 0 ≡ false
not_zero most zero range = absurd cc
not_zero most (suc v) range = suc_other v

set_led : (t : FormulaText) (q : Quant) (vs : List ℕ) → IsProperPlace (in_set t q vs) → Led (in_set t q vs)
set_led t q vs proper = elim (last_cases vs) [
  | inl none ↦ rw none (
    in_clauses t [],
    quantifier q,
    ap (λ l. l ++ quantifier q ∷ []) (sym (append-nil (text_tokens t))),
    (proper.0, tt),
    λ n. rw proper.1 refl,
    refl,
  )
  | inr some ↦ rw some.2 (
      let ranges = ranges_parts t.variables some.0 (some.1 ∷ []) (subst (λ l. AllInRange t.variables l) some.2 proper.2) in
      let apart = apart_parts (bound_variables t.sets ++ some.0) some.1 (subst (λ l. AllApart l) (ap (λ l. bound_variables t.sets ++ l) some.2 ∙ sym (append_assoc (bound_variables t.sets) some.0 (some.1 ∷ []))) proper.3) in (
        in_set t q some.0,
        natural some.1,
        set_open_push (text_tokens t) (quantifier q) some.0 some.1,
        (proper.0, proper.1, ranges.0, apart.0),
        λ n. bound_passes n t.variables (bound_variables t.sets ++ some.0) some.1 ranges.1.0 apart.1,
        rw (not_zero t.variables some.1 ranges.1.0) refl,
      ))
]

zero_passes : (n most : ℕ) → literal_fault n most false 0 ≡ None
zero_passes n most = rw (le-leb 0 most (omega arith)) refl

literal_passes : (n most : ℕ) (negated : Bool) (v : ℕ) → in_range most v ≡ true → literal_fault n most negated v ≡ None
literal_passes n most negated v range = rw (and_parts (nat_le 1 v) (nat_le v most) range).1 refl

literal_led : (t : FormulaText) (ls : List Lit) (l : Lit) → IsProperPlace (in_clauses t (ls ++ l ∷ [])) → Led (in_clauses t (ls ++ l ∷ []))
literal_led t ls l proper =
    let ranges = ranges_parts t.variables (literal_variables ls) (l.var.0 ∷ []) (subst (λ vs. AllInRange t.variables vs) (map_push (λ (m : Lit). m.var.0) ls l) proper.1) in (
      in_clauses t ls,
      literal l,
      open_push literal (text_tokens t) ls l,
      (proper.0, ranges.0),
      λ n. literal_passes n t.variables l.negated l.var.0 ranges.1.0,
      rw (not_zero t.variables l.var.0 ranges.1.0) refl,
    )

clause_led : (t : FormulaText) (c : List Lit) → IsProper (with_clause t c) → Led (in_clauses (with_clause t c) [])
clause_led t c proper =
    let ranges = ranges_parts t.variables (flat_map literal_variables t.clauses) (literal_variables c) (subst (λ l. AllInRange t.variables l) (flat_push literal_variables t.clauses c) proper.literals_range) in (
      in_clauses t c,
      natural 0,
      clauses_push t c,
      (record { variables = proper.variables; bound_range = proper.bound_range; bound_apart = proper.bound_apart; literals_range = ranges.0 }, ranges.1),
      λ n. zero_passes n t.variables,
      refl,
    )

set_end_led : (t : FormulaText) (q : Quant) (vs : List ℕ) → t.clauses ≡ [] → IsProper (with_set t q vs) → Led (in_clauses (with_set t q vs) [])
set_end_led t q vs none proper =
    let ranges = ranges_parts t.variables (bound_variables t.sets) vs (subst (λ l. AllInRange t.variables l) (bound_push t.sets q vs) proper.bound_range) in
    let apart = subst (λ l. AllApart l) (bound_push t.sets q vs) proper.bound_apart in (
      in_set t q vs,
      natural 0,
      sets_push t.variables t.said t.sets t.clauses q vs none,
      (record { variables = proper.variables; bound_range = ranges.0; bound_apart = apart_front (bound_variables t.sets) vs apart; literals_range = proper.literals_range }, none, ranges.1, apart),
      λ n. refl,
      refl,
    )

head_led : (t : FormulaText) → t.sets ≡ [] → t.clauses ≡ [] → IsProper t → Led (in_clauses t [])
head_led t no_sets no_clauses proper = (
  after_variables t.variables,
  natural t.said,
  rw (no_sets, no_clauses) refl,
  proper.variables,
  λ n. refl,
  rw (sym no_sets, sym no_clauses) refl,
)

between_led : (t : FormulaText) → IsProper t → Led (in_clauses t [])
between_led t proper = elim (last_cases t.clauses) [
  | inr some ↦
      let is : t ≡ with_clause (record t { clauses = some.0 }) some.1 = ap (λ l. record t { clauses = l }) some.2 in
      subst (λ u. Led (in_clauses u [])) (sym is) (clause_led (record t { clauses = some.0 }) some.1 (subst (λ u. IsProper u) is proper))
  | inl none ↦ elim (last_cases t.sets) [
    | inr some ↦
        let is : t ≡ with_set (record t { sets = some.0 }) some.1.quant some.1.vars = ap (λ l. record t { sets = l }) some.2 in
        subst (λ u. Led (in_clauses u [])) (sym is) (set_end_led (record t { sets = some.0 }) some.1.quant some.1.vars none (subst (λ u. IsProper u) is proper))
    | inl bare ↦ head_led t bare none proper
  ]
]

clauses_led : (t : FormulaText) (ls : List Lit) → IsProperPlace (in_clauses t ls) → Led (in_clauses t ls)
clauses_led t ls proper = elim (last_cases ls) [
  | inl none ↦ subst (λ l. Led (in_clauses t l)) (sym none) (between_led t proper.0)
  | inr some ↦ subst (λ l. Led (in_clauses t l)) (sym some.2) (literal_led t some.0 some.1 (subst (λ l. IsProperPlace (in_clauses t l)) some.2 proper))
]

pub led : (p : FormulaPlace) → IsProperPlace p → (p ≡ nothing) ⊎ Led p
led nothing proper = inl refl
led after_p proper = inr (nothing, problem, refl, tt, λ n. refl, refl)
led after_cnf proper = inr (after_p, cnf, refl, tt, λ n. refl, refl)
led (after_variables v) proper = inr (after_cnf, natural v, refl, tt, λ n. rw (le-leb v greatest_variables proper) refl, refl)
led (in_set t q vs) proper = inr (set_led t q vs proper)
led (in_clauses t ls) proper = inr (clauses_led t ls proper)
