-- A form is read back from its text.
use Rattle.std.proofs.Common.{◌≡◌, ℕ, ◌<◌, ◌≤◌, Bool, true, false, ◌&&◌, not, nat_eq, nat_le, max, List, [], ◌∷◌, ◌++◌, length, map, refl, sym, ap, subst, ◌∙◌, inl, inr, arith, append_assoc}
use Rattle.std.specs.Bool.{beq}
use Rattle.std.specs.List.{flat_map, filter, range_with_len}
use Rattle.std.proofs.lemmas.Bool.{cases_Bool, and_parts, and_from, le-leb, leb-true, or_parts, or_from, false_from_ne_true, eqb-true, eq-eqb}
use Rattle.std.proofs.lemmas.List.{append-nil, map-append}
use Rattle.bddl_model.specs.declared.formula.Quant.{Quant}
use Rattle.bddl_model.specs.declared.formula.Quant.TheVariants.{Exists, All}
use Rattle.bddl_model.specs.declared.formula.Bound.{Bound}
use Rattle.bddl_model.specs.declared.formula.Lit.{Lit}
use Rattle.bddl_model.specs.Truth.{Formula, negation}
use Rattle.bddl_model.specs.Forms.{has_number, in_range, AllInRange, AllApart, AllAmong, prefix_variables, literal_variables, AllFitPrefix, IsForm, greatest_variables, same_literal, has_literal}
use Rattle.bddl_model.specs.Qdimacs.{bound_variables, IsProper, Says, with_new_literals, has_opposites, kept_clauses, bound_of, set_bounds, free_variables, form_of, Qdimacs}
use Rattle.bddl_model.specs.FormulaText.{QuantSet, same_quant, onto_sets, sets_of, greatest_variable, written_text, qtext}
use Rattle.bddl_model.proofs.NumberLists.{AllPass-append, one_passes, all_pass_other, has_append}
use Rattle.bddl_model.proofs.PlainTokens.{in_range_is, plain_says, qtext_is_plain}

-- ---- the prefix

pub quants_same : (q r : Quant) → same_quant q r ≡ true → q ≡ r
quants_same Exists Exists h = refl
quants_same All All h = refl
quants_same Exists All h = absurd cc
quants_same All Exists h = absurd cc

onto_bounds : (b : Bound) (sets : List QuantSet) → flat_map set_bounds (onto_sets b sets) ≡ b ∷ flat_map set_bounds sets
onto_bounds b [] = refl
onto_bounds b (s ∷ sets) = elim (cases_Bool (same_quant b.quant s.quant)) [
  | inl same ↦ rw same (ap (λ (q : Quant). bound_of q b.var.0 ∷ (set_bounds s ++ flat_map set_bounds sets)) (sym (quants_same b.quant s.quant same)))
  | inr differs ↦ rw differs refl
]

pub sets_bounds : (bs : List Bound) → flat_map set_bounds (sets_of bs) ≡ bs
sets_bounds [] = refl
sets_bounds (b ∷ bs) = onto_bounds b (sets_of bs) ∙ ap (λ l. b ∷ l) (sets_bounds bs)

pub bounds_variables : (sets : List QuantSet) → prefix_variables (flat_map set_bounds sets) ≡ bound_variables sets
bounds_variables [] = refl
bounds_variables (s ∷ sets) = map-append (λ (b : Bound). b.var.0) (set_bounds s) (flat_map set_bounds sets) ∙ ap (λ l. l ++ prefix_variables (flat_map set_bounds sets)) (same s.quant s.vars) ∙ ap (λ l. s.vars ++ l) (bounds_variables sets)
  where
    same : (q : Quant) (vs : List ℕ) → prefix_variables (map (bound_of q) vs) ≡ vs
    same q [] = refl
    same q (v ∷ vs) = ap (λ l. v ∷ l) (same q vs)

sets_variables : (bs : List Bound) → bound_variables (sets_of bs) ≡ prefix_variables bs
sets_variables bs = sym (bounds_variables (sets_of bs)) ∙ ap prefix_variables (sets_bounds bs)

raised : (m n : ℕ) (vs : List ℕ) → m ≤ n → AllInRange m vs → AllInRange n vs
raised m n vs le h = all_pass_other (in_range m) (in_range n) vs (λ v r. let k = in_range_is m v r in and_from (nat_le 1 v) (nat_le v n) (le-leb 1 v k.0) (le-leb v n (omega (arith, k.1)))) h

pub greatest_range : (most : ℕ) (bs : List Bound) → AllInRange most (prefix_variables bs) → AllInRange (greatest_variable bs) (prefix_variables bs) × (greatest_variable bs ≤ most)
greatest_range most [] h = (tt, omega arith)
greatest_range most (b ∷ bs) h =
    let p = and_parts (nat_le 1 b.var.0) (nat_le b.var.0 most) h.0 in
    let k = leb-true b.var.0 most p.1 in
    let rest = greatest_range most bs h.1 in
    let left : b.var.0 ≤ max b.var.0 (greatest_variable bs) = omega arith in
    let right : greatest_variable bs ≤ max b.var.0 (greatest_variable bs) = omega arith in
    let all : max b.var.0 (greatest_variable bs) ≤ most = (let r = rest.1 in omega arith) in
    ((and_from (nat_le 1 b.var.0) (nat_le b.var.0 (max b.var.0 (greatest_variable bs))) p.0 (le-leb b.var.0 (max b.var.0 (greatest_variable bs)) left), raised (greatest_variable bs) (max b.var.0 (greatest_variable bs)) (prefix_variables bs) right rest.0), all)

-- ---- the clauses

all_bound : (bs : List Bound) (cs : List (List Lit)) → AllFitPrefix bs cs → AllAmong (prefix_variables bs) (flat_map literal_variables cs)
all_bound bs [] h = tt
all_bound bs (c ∷ cs) h = AllPass-append (has_number (prefix_variables bs)) (literal_variables c) (flat_map literal_variables cs) h.0.0 (all_bound bs cs h.1)

none_pass : (test : ℕ → Bool) (vs : List ℕ) → ((v : ℕ) → test v ≡ false) → filter test vs ≡ []
none_pass test [] h = refl
none_pass test (v ∷ vs) h = rw (h v) (none_pass test vs h)

literal_var : (ls : List Lit) (l m : Lit) → l.var.0 ≡ m.var.0 → has_number (literal_variables ls) m.var.0 ≡ false → has_literal ls l ≡ false
literal_var [] l m e h = refl
literal_var (x ∷ ls) l m e h =
    let parts = or_parts (nat_eq x.var.0 m.var.0) (has_number (literal_variables ls) m.var.0) h in
    or_from (same_literal l x) (has_literal ls l) (false_from_ne_true (same_literal l x) (λ s.
    let p = and_parts (nat_eq l.var.0 x.var.0) (beq l.negated x.negated) s in
    let q = eqb-true l.var.0 x.var.0 p.0 in
    let r : nat_eq x.var.0 m.var.0 ≡ true = eq-eqb x.var.0 m.var.0 (sym q ∙ e) in
    absurd (let z = sym r ∙ parts.0 in cc))) (literal_var ls l m e parts.1)

no_opposites : (ls : List Lit) → AllApart (literal_variables ls) → has_opposites ls ≡ false
no_opposites [] h = refl
no_opposites (l ∷ ls) h = or_from (has_literal ls (negation l)) (has_opposites ls) (literal_var ls (negation l) l refl h.0) (no_opposites ls h.1)

apart_middle : (done ls : List Lit) (l : Lit) → AllApart (literal_variables (done ++ l ∷ ls)) → has_literal done l ≡ false
apart_middle [] ls l h = refl
apart_middle (d ∷ done) ls l h =
    or_from (same_literal l d) (has_literal done l) (false_from_ne_true (same_literal l d) (λ s.
    let p = and_parts (nat_eq l.var.0 d.var.0) (beq l.negated d.negated) s in
    let q = eqb-true l.var.0 d.var.0 p.0 in
    let parts = sym (ap (λ (x : List ℕ). has_number x d.var.0) (map-append (λ (m : Lit). m.var.0) done (l ∷ ls)) ∙ has_append (literal_variables done) (literal_variables (l ∷ ls)) d.var.0) ∙ h.0 in
    let later = (or_parts (has_number (literal_variables done) d.var.0) (has_number (literal_variables (l ∷ ls)) d.var.0) parts).1 in
    let r : nat_eq l.var.0 d.var.0 ≡ true = p.0 in
    absurd (let z = sym r ∙ (or_parts (nat_eq l.var.0 d.var.0) (has_number (literal_variables ls) d.var.0) later).0 in cc))) (apart_middle done ls l h.1)

same_without : (done ls : List Lit) → AllApart (literal_variables (done ++ ls)) → with_new_literals done ls ≡ done ++ ls
same_without done [] h = sym (append-nil done)
same_without done (l ∷ ls) h = rw (apart_middle done ls l h) (same_without (done ++ l ∷ []) ls (subst (λ (x : List Lit). AllApart (literal_variables x)) (sym (append_assoc done (l ∷ []) ls)) h) ∙ append_assoc done (l ∷ []) ls)

all_kept : (bs : List Bound) (cs : List (List Lit)) → AllFitPrefix bs cs → kept_clauses cs ≡ cs
all_kept bs [] h = refl
all_kept bs (c ∷ cs) h = rw (no_opposites c h.0.1, same_without [] c h.0.1) (ap (λ l. c ∷ l) (all_kept bs cs h.1))

-- ---- the whole

range_among : (most : ℕ) (ws vs : List ℕ) → AllInRange most ws → AllAmong ws vs → AllInRange most vs
range_among most ws vs r h = all_pass_other (has_number ws) (in_range most) vs (λ v among. one_passes (in_range most) ws v r among) h

written_is_proper : (f : Formula) → IsForm f → IsProper (written_text f)
written_is_proper f form =
    let greatest = greatest_range greatest_variables f.prefix form.in_range in
    record {
      variables = greatest.1;
      bound_range = subst (λ l. AllInRange (greatest_variable f.prefix) l) (sym (sets_variables f.prefix)) greatest.0;
      bound_apart = subst (λ l. AllApart l) (sym (sets_variables f.prefix)) form.apart;
      literals_range = range_among (greatest_variable f.prefix) (prefix_variables f.prefix) (flat_map literal_variables f.clauses) greatest.0 (all_bound f.prefix f.clauses form.clauses);
    }

written_form : (f : Formula) → IsForm f → form_of (written_text f) ≡ f
written_form f form = rw (free, sets_bounds f.prefix, all_kept f.prefix f.clauses form.clauses) refl
  where
    never : (v : ℕ) → (has_number (flat_map literal_variables f.clauses) v && not (has_number (bound_variables (sets_of f.prefix)) v)) ≡ false
    never v = elim (cases_Bool (has_number (flat_map literal_variables f.clauses) v)) [
      | inr none ↦ rw none refl
      | inl some ↦ rw (some, sets_variables f.prefix, one_passes (has_number (prefix_variables f.prefix)) (flat_map literal_variables f.clauses) v (all_bound f.prefix f.clauses form.clauses) some) refl
    ]

    free : free_variables (written_text f) ≡ []
    free = none_pass (λ v. has_number (flat_map literal_variables f.clauses) v && not (has_number (bound_variables (sets_of f.prefix)) v)) (range_with_len 1 (greatest_variable f.prefix)) never

pub text_is_read : (f : Formula) → IsForm f → length f.clauses < 1000000000 → Qdimacs (qtext f) (greatest_variable f.prefix) (length f.clauses) f
text_is_read f form few = (
  written_text f,
  subst (λ bytes. Says bytes (written_text f)) (sym (qtext_is_plain f)) (plain_says (written_text f) (written_is_proper f form) few),
  refl,
  refl,
  refl,
  written_form f form,
)
