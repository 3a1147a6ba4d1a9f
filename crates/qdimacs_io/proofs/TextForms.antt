-- The clauses of a text's form fit its prefix.
use Rattle.std.proofs.Common.{◌≡◌, ℕ, zero, suc, ◌+◌, ◌<◌, ◌≤◌, Bool, true, false, ◌||◌, ◌&&◌, not, nat_eq, List, [], ◌∷◌, ◌++◌, map, refl, sym, ap, subst, ◌∙◌, inl, inr, ◌⊎◌, arith, append_assoc}
use Rattle.std.specs.Bool.{beq}
use Rattle.std.specs.List.{flat_map, filter, range_with_len}
use Rattle.std.proofs.lemmas.Bool.{cases_Bool, cases_eq, or_cases, or_left, or_right, or_from, or_parts, eqb-true, eq-eqb, ne_eqb}
use Rattle.std.proofs.lemmas.List.{append-nil, map-append, map_push}
use Rattle.bddl_model.specs.declared.formula.Bound.{Bound}
use Rattle.bddl_model.specs.declared.formula.Lit.{Lit}
use Rattle.bddl_model.specs.declared.formula.Quant.TheVariants.{Exists}
use Rattle.bddl_model.specs.Truth.{negation}
use Rattle.bddl_model.specs.Forms.{has_number, has_literal, same_literal, in_range, AllPass, AllApart, AllFitPrefix, prefix_variables, literal_variables}
use Rattle.bddl_model.specs.FormulaText.{FormulaText}
use Rattle.bddl_model.specs.Qdimacs.{IsProper, with_new_literals, without_doubles, has_opposites, kept_clauses, bound_of, set_bounds, bound_variables, free_variables, form_of}
use Rattle.bddl_model.proofs.NumberLists.{AllPass-append, has_append, one_passes}
use Rattle.bddl_model.proofs.NumbersApart.{apart_push}
use Rattle.bddl_model.proofs.PlainTokens.{in_range_is}
use Rattle.bddl_model.proofs.WrittenForms.{bounds_variables}
use Rattle.qdimacs_io.proofs.FreeVariables.{variables_of}
use Rattle.qdimacs_io.proofs.Literals.{doubles_push, has_without, opposites_push}

-- ---- the variables of a clause stand apart

either_sign : (x y : Bool) → beq x y ≡ false → beq (not x) y ≡ false → ⊥
either_sign true true a b = absurd cc
either_sign true false a b = absurd cc
either_sign false true a b = absurd cc
either_sign false false a b = absurd cc

not_there : (ls : List Lit) (l : Lit) → has_literal ls l ≡ false → has_literal ls (negation l) ≡ false → has_number (literal_variables ls) l.var.0 ≡ false
not_there [] l a b = refl
not_there (m ∷ ls) l a b =
    let p = or_parts (same_literal l m) (has_literal ls l) a in
    let q = or_parts (same_literal (negation l) m) (has_literal ls (negation l)) b in
    or_from (nat_eq m.var.0 l.var.0) (has_number (literal_variables ls) l.var.0) (other (cases_eq m.var.0 l.var.0) p.0 q.0) (not_there ls l p.1 q.1)
  where
    other : (m.var.0 ≡ l.var.0) ⊎ (m.var.0 ≡ l.var.0 → ⊥) → same_literal l m ≡ false → same_literal (negation l) m ≡ false → nat_eq m.var.0 l.var.0 ≡ false
    other (inr differs) a b = ne_eqb m.var.0 l.var.0 differs
    other (inl same) a b =
        let e = eq-eqb l.var.0 m.var.0 (sym same) in
        absurd (either_sign l.negated m.negated (ap (λ t. t && beq l.negated m.negated) (sym e) ∙ a) (ap (λ t. t && beq (not l.negated) m.negated) (sym e) ∙ b))

has_front : (ls ms : List Lit) (l : Lit) → has_literal (ls ++ ms) l ≡ false → has_literal ls l ≡ false
has_front [] ms l h = refl
has_front (x ∷ ls) ms l h =
    let p = or_parts (same_literal l x) (has_literal (ls ++ ms) l) h in
    or_from (same_literal l x) (has_literal ls l) p.0 (has_front ls ms l p.1)

opposites_front : (ls ms : List Lit) → has_opposites (ls ++ ms) ≡ false → has_opposites ls ≡ false
opposites_front [] ms h = refl
opposites_front (l ∷ ls) ms h =
    let p = or_parts (has_literal (ls ++ ms) (negation l)) (has_opposites (ls ++ ms)) h in
    or_from (has_literal ls (negation l)) (has_opposites ls) (has_front ls ms (negation l) p.0) (opposites_front ls ms p.1)

apart_next : (front : List Lit) (l : Lit) → AllApart (literal_variables (without_doubles front)) → has_opposites (front ++ l ∷ []) ≡ false → AllApart (literal_variables (without_doubles (front ++ l ∷ [])))
apart_next front l apart none = elim (cases_Bool (has_literal (without_doubles front) l)) [
  | inl there ↦ rw (doubles_push [] front l, there) apart
  | inr new ↦
      let opposite = (or_parts (has_opposites front) (has_literal front (negation l)) (sym (opposites_push front l) ∙ none)).1 in
      let unbound = not_there (without_doubles front) l new (has_without front (negation l) ∙ opposite) in
      rw (doubles_push [] front l, new) (subst (λ vs. AllApart vs) (sym (map_push (λ (m : Lit). m.var.0) (without_doubles front) l)) (apart_push (literal_variables (without_doubles front)) l.var.0 apart unbound))
]

apart_from_front : (front ls : List Lit) → AllApart (literal_variables (without_doubles front)) → has_opposites (front ++ ls) ≡ false → AllApart (literal_variables (without_doubles (front ++ ls)))
apart_from_front front [] apart none = subst (λ (x : List Lit). AllApart (literal_variables (without_doubles x))) (sym (append-nil front)) apart
apart_from_front front (l ∷ ls) apart none =
    let none_there = ap has_opposites (append_assoc front (l ∷ []) ls) ∙ none in
    subst (λ (x : List Lit). AllApart (literal_variables (without_doubles x))) (append_assoc front (l ∷ []) ls)
    (apart_from_front (front ++ l ∷ []) ls (apart_next front l apart (opposites_front (front ++ l ∷ []) ls none_there)) none_there)

-- ---- and are bound

passes_without : (test : ℕ → Bool) (done ls : List Lit) → AllPass test (literal_variables done) → AllPass test (literal_variables ls) → AllPass test (literal_variables (with_new_literals done ls))
passes_without test done [] a b = a
passes_without test done (l ∷ ls) a b = elim (cases_Bool (has_literal done l)) [
  | inl there ↦ rw there (passes_without test done ls a b.1)
  | inr new ↦ rw new (passes_without test (done ++ l ∷ []) ls (subst (λ vs. AllPass test vs) (sym (map_push (λ (m : Lit). m.var.0) done l)) (AllPass-append test (literal_variables done) (l.var.0 ∷ []) a (b.0, tt))) b.1)
]

pass_parts : (test : ℕ → Bool) (vs ws : List ℕ) → AllPass test (vs ++ ws) → AllPass test vs × AllPass test ws
pass_parts test [] ws h = (tt, h)
pass_parts test (v ∷ vs) ws h = let later = pass_parts test vs ws h.1 in ((h.0, later.0), later.1)

all_pass : (test : ℕ → Bool) (vs : List ℕ) → ((v : ℕ) → has_number vs v ≡ true → test v ≡ true) → AllPass test vs
all_pass test [] h = tt
all_pass test (v ∷ vs) h = (h v (or_left (nat_eq v v) (has_number vs v) (eq-eqb v v refl)), all_pass test vs (λ w among. h w (or_right (nat_eq v w) (has_number vs w) among)))

in_filter : (test : ℕ → Bool) (vs : List ℕ) (v : ℕ) → has_number vs v ≡ true → test v ≡ true → has_number (filter test vs) v ≡ true
in_filter test [] v h passes = absurd cc
in_filter test (w ∷ vs) v h passes = elim (or_cases (nat_eq w v) (has_number vs v) h) [
  | inl same ↦ rw (subst (λ x. test x ≡ true) (sym (eqb-true w v same)) passes) (or_left (nat_eq w v) (has_number (filter test vs) v) same)
  | inr later ↦ elim (cases_Bool (test w)) [
    | inl kept ↦ rw kept (or_right (nat_eq w v) (has_number (filter test vs) v) (in_filter test vs v later passes))
    | inr gone ↦ rw gone (in_filter test vs v later passes)
  ]
]

in_span : (from n v : ℕ) → from ≤ v → v < from + n → has_number (range_with_len from n) v ≡ true
in_span from zero v low high = absurd (omega arith)
in_span from (suc n) v low high = elim (cases_eq from v) [
  | inl same ↦ or_left (nat_eq from v) (has_number (range_with_len (from + 1) n) v) (eq-eqb from v same)
  | inr other ↦ or_right (nat_eq from v) (has_number (range_with_len (from + 1) n) v) (in_span (from + 1) n v (omega (arith, other)) (omega arith))
]

form_variables : (t : FormulaText) → prefix_variables (form_of t).prefix ≡ free_variables t ++ bound_variables t.sets
form_variables t =
    map-append (λ (b : Bound). b.var.0) (map (bound_of Exists) (free_variables t)) (flat_map set_bounds t.sets)
    ∙ ap (λ vs. vs ++ prefix_variables (flat_map set_bounds t.sets)) (variables_of Exists (free_variables t))
    ∙ ap (λ vs. free_variables t ++ vs) (bounds_variables t.sets)

one_bound : (t : FormulaText) (v : ℕ) → IsProper t → has_number (flat_map literal_variables t.clauses) v ≡ true → has_number (prefix_variables (form_of t).prefix) v ≡ true
one_bound t v proper occurs =
    ap (λ (vs : List ℕ). has_number vs v) (form_variables t) ∙ has_append (free_variables t) (bound_variables t.sets) v ∙ either (cases_Bool (has_number (bound_variables t.sets) v))
  where
    range : (1 ≤ v) × (v ≤ t.variables)
    range = in_range_is t.variables v (one_passes (in_range t.variables) (flat_map literal_variables t.clauses) v proper.literals_range occurs)

    either : (has_number (bound_variables t.sets) v ≡ true) ⊎ (has_number (bound_variables t.sets) v ≡ false) → (has_number (free_variables t) v || has_number (bound_variables t.sets) v) ≡ true
    either (inl bound) = or_right (has_number (free_variables t) v) (has_number (bound_variables t.sets) v) bound
    either (inr unbound) =
        or_left (has_number (free_variables t) v) (has_number (bound_variables t.sets) v)
        (in_filter (λ w. has_number (flat_map literal_variables t.clauses) w && not (has_number (bound_variables t.sets) w)) (range_with_len 1 t.variables) v (in_span 1 t.variables v range.0 (let high = range.1 in omega arith)) (rw (occurs, unbound) refl))

-- ---- the whole

kept_fit : (bounds : List Bound) (cs : List (List Lit)) → AllPass (has_number (prefix_variables bounds)) (flat_map literal_variables cs) → AllFitPrefix bounds (kept_clauses cs)
kept_fit bounds [] h = tt
kept_fit bounds (c ∷ cs) h =
    let parts = pass_parts (has_number (prefix_variables bounds)) (literal_variables c) (flat_map literal_variables cs) h in
    elim (cases_Bool (has_opposites c)) [
      | inl opposed ↦ rw opposed (kept_fit bounds cs parts.1)
      | inr kept ↦ rw kept ((passes_without (has_number (prefix_variables bounds)) [] c tt parts.0, apart_from_front [] c tt kept), kept_fit bounds cs parts.1)
    ]

pub form_fits : (t : FormulaText) → IsProper t → AllFitPrefix (form_of t).prefix (form_of t).clauses
form_fits t proper = kept_fit (form_of t).prefix t.clauses (all_pass (has_number (prefix_variables (form_of t).prefix)) (flat_map literal_variables t.clauses) (λ v occurs. one_bound t v proper occurs))
