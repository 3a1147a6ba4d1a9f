-- The values of a tail's variables follow from those before: under the other value of one of them the clauses are false.
use Rattle.std.proofs.Common.{◌≡◌, ℕ, ◌≤◌, Bool, true, false, not, ◌&&◌, ◌||◌, List, [], ◌∷◌, ◌++◌, length, ◌⊎◌, inl, inr, ⊎_elim, refl, sym, ap, ap₂, ◌∙◌, subst, arith, eqb-true, append-nil, append_assoc, length-append}
use Rattle.std.specs.Prelude.{◌==◌}
use Rattle.std.proofs.lemmas.Bool.{or_parts, or_cases, or_from, and_parts, false≢true}
use Rattle.std.proofs.Math.Bool.{or-false}
use Rattle.std.proofs.lemmas.List.{map-append}
use Rattle.bddl_model.specs.declared.formula.Quant.TheVariants.{Exists}
use Rattle.bddl_model.specs.declared.formula.Bound.{Bound}
use Rattle.bddl_model.specs.declared.formula.Lit.{Lit}
use Rattle.bddl_model.specs.Truth.{Assignment, Formula, assign, join, value, clauses_true}
use Rattle.bddl_model.specs.Circuit.{positive}
use Rattle.bddl_model.specs.Forms.{has_number, prefix_variables, AllApart, IsForm}
use Rattle.bddl_model.specs.FormulaText.{same_quant}
use Rattle.bddl_model.specs.Tail.{has_clause, is_gate, are_gates, is_tail, tail_length}
use Rattle.bddl_model.proofs.Assignments.{SameOutside, same_at_all, assign_same, assign_other, outside_assign, eqb_turned}
use Rattle.bddl_model.proofs.NumberLists.{has_append}
use Rattle.bddl_model.proofs.Truth.{join_same}
use Rattle.bddl_model.proofs.WrittenForms.{quants_same}
use Rattle.bddl_laws.specs.FollowingValues.{following_value, with_following}
use Rattle.bddl_laws.proofs.FollowingClauses.{SameAmong, clauses_false, has_false_clause, gate_false}
use Rattle.bddl_laws.proofs.Tails.{tail_is_a_tail}

-- ---- a test with one value, whatever the variables of a prefix are

pub constant_value : (rest : List Bound) (m : Assignment → Bool) (t : Bool) (a : Assignment) → ((b : Assignment) → SameOutside rest a b → m b ≡ t) → value rest m a ≡ t
constant_value [] m t a h = h a (same_at_all a [])
constant_value (x ∷ rest) m t a h =
    ap₂ (join x.quant)
    (constant_value rest m t (assign x.var.0 true a) (λ b s. h b (outside_assign x rest true a b s)))
    (constant_value rest m t (assign x.var.0 false a) (λ b s. h b (outside_assign x rest false a b s)))
    ∙ join_same x.quant t

-- ---- what stands before a variable isn't behind it

apart_parts : (front : List ℕ) (g : ℕ) (back : List ℕ) → AllApart (front ++ g ∷ back)
    → (has_number front g ≡ false) × (has_number back g ≡ false) × ((v : ℕ) → has_number front v ≡ true → has_number back v ≡ false)
apart_parts [] g back apart = (refl, apart.0, (λ v h. absurd (false≢true h)))
apart_parts (w ∷ front) g back apart =
    let rest = apart_parts front g back apart.1 in
    let out = or_parts (has_number front w) (has_number (g ∷ back) w) (sym (has_append front (g ∷ back) w) ∙ apart.0) in
    let behind = or_parts (g == w) (has_number back w) out.1 in
    (or_from (w == g) (has_number front g) (eqb_turned g w behind.0) rest.0, rest.1, (λ v h. ⊎_elim (λ same. ap (has_number back) (sym (eqb-true w v same)) ∙ behind.1) (λ later. rest.2 v later) (or_cases (w == v) (has_number front v) h)))

-- ---- the variables of a tail

-- a unit clause or a gate
abbrev IsDefined : List (List Lit) → List ℕ → ℕ → Type 0
IsDefined cs before g = (has_clause cs (positive g ∷ []) ≡ true) ⊎ (is_gate cs before g ≡ true)

gates_member : (cs : List (List Lit)) (before : List ℕ) (middle : List Bound) (b : Bound) (behind : List Bound) → are_gates cs before (middle ++ b ∷ behind) ≡ true
    → (same_quant b.quant Exists ≡ true) × (is_gate cs (before ++ prefix_variables middle) b.var.0 ≡ true)
gates_member cs before [] b behind h =
    let parts = and_parts (same_quant b.quant Exists) (is_gate cs before b.var.0 && are_gates cs (before ++ b.var.0 ∷ []) behind) h in
    (parts.0, ap (λ vs. is_gate cs vs b.var.0) (append-nil before) ∙ (and_parts (is_gate cs before b.var.0) (are_gates cs (before ++ b.var.0 ∷ []) behind) parts.1).0)
gates_member cs before (x ∷ middle) b behind h =
    let parts = and_parts (same_quant x.quant Exists) (is_gate cs before x.var.0 && are_gates cs (before ++ x.var.0 ∷ []) (middle ++ b ∷ behind)) h in
    let rest = gates_member cs (before ++ x.var.0 ∷ []) middle b behind (and_parts (is_gate cs before x.var.0) (are_gates cs (before ++ x.var.0 ∷ []) (middle ++ b ∷ behind)) parts.1).1 in
    (rest.0, ap (λ vs. is_gate cs vs b.var.0) (sym (append_assoc before (x.var.0 ∷ []) (prefix_variables middle))) ∙ rest.1)

tail_member : (cs : List (List Lit)) (before : List ℕ) (middle : List Bound) (b : Bound) (behind : List Bound) → is_tail cs before (middle ++ b ∷ behind) ≡ true
    → (same_quant b.quant Exists ≡ true) × IsDefined cs (before ++ prefix_variables middle) b.var.0
tail_member cs before [] b behind h =
    let parts = and_parts (same_quant b.quant Exists) (has_clause cs (positive b.var.0 ∷ []) && are_gates cs (before ++ b.var.0 ∷ []) behind) h in
    (parts.0, inl (and_parts (has_clause cs (positive b.var.0 ∷ [])) (are_gates cs (before ++ b.var.0 ∷ []) behind) parts.1).0)
tail_member cs before (x ∷ middle) b behind h =
    let parts = and_parts (same_quant x.quant Exists) (has_clause cs (positive x.var.0 ∷ []) && are_gates cs (before ++ x.var.0 ∷ []) (middle ++ b ∷ behind)) h in
    let rest = gates_member cs (before ++ x.var.0 ∷ []) middle b behind (and_parts (has_clause cs (positive x.var.0 ∷ [])) (are_gates cs (before ++ x.var.0 ∷ []) (middle ++ b ∷ behind)) parts.1).1 in
    (rest.0, inr (ap (λ vs. is_gate cs vs b.var.0) (sym (append_assoc before (x.var.0 ∷ []) (prefix_variables middle))) ∙ rest.1))

-- a longer rest of the same list has the shorter one as its end
shorter_rest : (xs ys zs ws : List Bound) → xs ++ ys ≡ zs ++ ws → length ys ≤ length ws → (middle : List Bound) × (xs ≡ zs ++ middle) × (ws ≡ middle ++ ys)
shorter_rest xs ys [] ws e le = (xs, refl, sym e)
shorter_rest [] ys (z ∷ zs) ws e le = absurd (let many = length-append (z ∷ zs) ws in let same = ap length e in omega arith)
shorter_rest (x ∷ xs) ys (z ∷ zs) ws e le =
    let rest = shorter_rest xs ys zs ws (cc) le in
    (rest.0, ap₂ (λ b bs. b ∷ bs) (cc) rest.1, rest.2)

pub member_is_defined : (f : Formula) (front behind : List Bound) (b : Bound) → front ++ b ∷ behind ≡ f.prefix → length (b ∷ behind) ≤ tail_length f
    → (b.quant ≡ Exists) × IsDefined f.clauses (prefix_variables front) b.var.0
member_is_defined f front behind b whole within = elim (tail_is_a_tail f) [
  | inl none ↦ absurd (omega arith)
  | inr some ↦ of_tail some.0 some.1 some.2 some.3 some.4
]
  where
    of_tail : (before tail : List Bound) → before ++ tail ≡ f.prefix → is_tail f.clauses (prefix_variables before) tail ≡ true → length tail ≡ tail_length f
        → (b.quant ≡ Exists) × IsDefined f.clauses (prefix_variables front) b.var.0
    of_tail before tail is h many =
        let split = shorter_rest front (b ∷ behind) before tail (whole ∙ sym is) (omega arith) in
        let member = tail_member f.clauses (prefix_variables before) split.0 b behind (subst (λ (bs : List Bound). is_tail f.clauses (prefix_variables before) bs ≡ true) split.2 h) in
        (quants_same b.quant Exists member.0, subst (λ (vs : List ℕ). IsDefined f.clauses vs b.var.0) (sym (ap prefix_variables split.1 ∙ map-append (λ (x : Bound). x.var.0) before split.0)) member.1)

-- ---- the other value

pub other_value_fails : (f : Formula) (front behind : List Bound) (b : Bound) (a : Assignment) → IsForm f → front ++ b ∷ behind ≡ f.prefix → length (b ∷ behind) ≤ tail_length f
    → value behind (clauses_true f.clauses) (assign b.var.0 (not (following_value f.clauses (prefix_variables front) b.var.0 a)) a) ≡ false
other_value_fails f front behind b a form whole within =
    constant_value behind (clauses_true f.clauses) false (assign b.var.0 (not (following_value f.clauses vs b.var.0 a)) a)
    (λ c outside. at c (same c (following_value f.clauses vs b.var.0 a) outside) (of_variable c (following_value f.clauses vs b.var.0 a) outside) (following_value f.clauses vs b.var.0 a) refl)
  where
    vs : List ℕ
    vs = prefix_variables front

    apart : (has_number (prefix_variables front) b.var.0 ≡ false) × (has_number (prefix_variables behind) b.var.0 ≡ false) × ((v : ℕ) → has_number (prefix_variables front) v ≡ true → has_number (prefix_variables behind) v ≡ false)
    apart = apart_parts (prefix_variables front) b.var.0 (prefix_variables behind) (subst AllApart (sym (ap prefix_variables whole) ∙ map-append (λ (x : Bound). x.var.0) front (b ∷ behind)) form.apart)

    same : (c : Assignment) (t : Bool) → SameOutside behind (assign b.var.0 (not t) a) c → SameAmong (prefix_variables front) a c
    same c t outside v among = sym (outside v (apart.2 v among)) ∙ assign_other b.var.0 (not t) a v (differs (b.var.0 == v) refl)
      where
        differs : (s : Bool) → (b.var.0 == v) ≡ s → (b.var.0 == v) ≡ false
        differs true e = absurd (false≢true (sym apart.0 ∙ ap (has_number (prefix_variables front)) (eqb-true b.var.0 v e) ∙ among))
        differs false e = e

    of_variable : (c : Assignment) (t : Bool) → SameOutside behind (assign b.var.0 (not t) a) c → c b.var.0 ≡ not t
    of_variable c t outside = sym (outside b.var.0 apart.1) ∙ assign_same b.var.0 (not t) a

    at : (c : Assignment) → SameAmong (prefix_variables front) a c → c b.var.0 ≡ not (following_value f.clauses (prefix_variables front) b.var.0 a) → (t : Bool) → following_value f.clauses (prefix_variables front) b.var.0 a ≡ t → clauses_true f.clauses c ≡ false
    at c agree own true e = elim (member_is_defined f front behind b whole within).1 [
      | inl unit ↦ has_false_clause (positive b.var.0 ∷ []) f.clauses c (or_from (c b.var.0) false (own ∙ ap not e) refl) unit
      | inr gate ↦ gate_false f.prefix (prefix_variables front) b.var.0 f.clauses a c form.clauses apart.0 agree (own ∙ ap not e) gate e
    ]
    at c agree own false e = clauses_false (prefix_variables front) b.var.0 f.clauses a c agree (ap not (own ∙ ap not e)) e

-- ---- the tail's value

pub value_of_tail : (f : Formula) (front tail : List Bound) (a : Assignment) → IsForm f → front ++ tail ≡ f.prefix → length tail ≤ tail_length f
    → value tail (clauses_true f.clauses) a ≡ clauses_true f.clauses (with_following f.clauses (prefix_variables front) tail a)
value_of_tail f front [] a form whole within = refl
value_of_tail f front (b ∷ rest) a form whole within =
    ap (λ q. join q (value rest m (assign b.var.0 true a)) (value rest m (assign b.var.0 false a))) (member_is_defined f front rest b whole within).0
    ∙ one_holds (following_value f.clauses (prefix_variables front) b.var.0 a) (other_value_fails f front rest b a form whole within)
    ∙ value_of_tail f (front ++ b ∷ []) rest (assign b.var.0 (following_value f.clauses (prefix_variables front) b.var.0 a) a) form (append_assoc front (b ∷ []) rest ∙ whole) (omega arith)
    ∙ ap (λ vs. clauses_true f.clauses (with_following f.clauses vs rest (assign b.var.0 (following_value f.clauses (prefix_variables front) b.var.0 a) a))) (map-append (λ (x : Bound). x.var.0) front (b ∷ []))
  where
    m : Assignment → Bool
    m = clauses_true f.clauses

    one_holds : (t : Bool) → value rest (clauses_true f.clauses) (assign b.var.0 (not t) a) ≡ false
        → (value rest (clauses_true f.clauses) (assign b.var.0 true a) || value rest (clauses_true f.clauses) (assign b.var.0 false a)) ≡ value rest (clauses_true f.clauses) (assign b.var.0 t a)
    one_holds true h = ap (λ x. value rest (clauses_true f.clauses) (assign b.var.0 true a) || x) h ∙ or-false (value rest (clauses_true f.clauses) (assign b.var.0 true a))
    one_holds false h = ap (λ x. x || value rest (clauses_true f.clauses) (assign b.var.0 false a)) h
