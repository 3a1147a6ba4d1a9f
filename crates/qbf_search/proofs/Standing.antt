-- A search stands behind each of its steps, and where no decision is left its values settle the form.
use Rattle.std.proofs.Common.{◌≡◌, ℕ, zero, suc, ◌≤◌, ◌<◌, ◌+◌, ◌-◌, Bool, true, false, not, List, [], ◌∷◌, ◌++◌, length, take, drop, set, ◌⊎◌, inl, inr, ⊎_elim, refl, sym, ap, ap₂, ◌∙◌, subst, arith, eqb-true, eq-eqb}
use Rattle.std.specs.Prelude.{◌==◌, nat_lt, Vec}
use Rattle.std.specs.List.{list_all}
use Rattle.std.proofs.Common.{Global}
use Rattle.std.proofs.lemmas.Bool.{cases_lt, cases_eq, le-ltb, ltb-false, or_left, or_right, or_parts, false≢true}
use Rattle.std.proofs.lemmas.List.{get_or_append_left, get_or_push, get_or_past, get_or-set_same, get_or-set_other, get_or-take, get_or-map, length_push, length-set, length-take-le, length-drop, take-map, drop_all}
use mathlib.Core.Path.{fun_ext}
use Rattle.bddl_model.specs.declared.formula.Quant.{Quant}
use Rattle.bddl_model.specs.declared.formula.Quant.TheVariants.{Exists, All}
use Rattle.bddl_model.specs.declared.formula.Bound.{Bound}
use Rattle.bddl_model.specs.declared.formula.Lit.{Lit}
use Rattle.bddl_model.specs.Truth.{Assignment, Formula, assign, join, value, literal_true, clauses_true}
use Rattle.bddl_model.specs.Forms.{has_number, prefix_variables, AllApart, IsForm}
use Rattle.bddl_model.specs.Tail.{tail_length}
use Rattle.bddl_model.specs.Bounds.{before_tail}
use Rattle.bddl_model.proofs.Assignments.{binds, assign_same, assign_other, value_same}
use Rattle.bddl_laws.specs.FollowingValues.{following_value, implied_literals}
use Rattle.bddl_laws.proofs.FollowingValues.{member_is_defined, other_value_fails}
use Rattle.qbf_search.specs.Standing.{decides, bound_at, value_from, turned, is_open, IsTried, Stands, Settles, HasRoom}
use Rattle.qbf_search.specs.Tails.{variables_before, variable_at, first_value, TellsTail}

-- ---- the variable at a place

-- it is bound from there on
bound_there : (p : List Bound) (d i : ℕ) → d ≤ i → i < length p → binds (drop d p) (bound_at p i).var.0 ≡ true
bound_there [] d i le lt = absurd (omega arith)
bound_there (x ∷ p) zero zero le lt = or_left (x.var.0 == x.var.0) (binds p x.var.0) (eq-eqb x.var.0 x.var.0 refl)
bound_there (x ∷ p) zero (suc i) le lt = or_right (x.var.0 == (bound_at p i).var.0) (binds p (bound_at p i).var.0) (bound_there p zero i (omega arith) (omega arith))
bound_there (x ∷ p) (suc d) zero le lt = absurd (omega arith)
bound_there (x ∷ p) (suc d) (suc i) le lt = bound_there p d i (omega arith) (omega arith)

binds_fewer : (p : List Bound) (d v : ℕ) → binds p v ≡ false → binds (drop d p) v ≡ false
binds_fewer p zero v h = h
binds_fewer [] (suc d) v h = h
binds_fewer (x ∷ p) (suc d) v h = binds_fewer p d v (or_parts (x.var.0 == v) (binds p v) h).1

-- and not behind
not_behind : (p : List Bound) (d i : ℕ) → AllApart (prefix_variables p) → i < d → i < length p → binds (drop d p) (bound_at p i).var.0 ≡ false
not_behind [] d i apart lt within = absurd (omega arith)
not_behind (x ∷ p) zero i apart lt within = absurd (omega arith)
not_behind (x ∷ p) (suc d) zero apart lt within = binds_fewer p d x.var.0 apart.0
not_behind (x ∷ p) (suc d) (suc i) apart lt within = not_behind p d i apart.1 (omega arith) (omega arith)

-- a variable that isn't bound is another than one that is
bound_differs : (p : List Bound) (u v : ℕ) → binds p u ≡ true → binds p v ≡ false → (u == v) ≡ false
bound_differs p u v h n = at (u == v) refl
  where
    at : (t : Bool) → (u == v) ≡ t → (u == v) ≡ false
    at true e = absurd (false≢true (sym n ∙ ap (binds p) (sym (eqb-true u v e)) ∙ h))
    at false e = e

split_at : (p : List Bound) (i : ℕ) → i < length p → take i p ++ bound_at p i ∷ drop (suc i) p ≡ p
split_at [] i lt = absurd (omega arith)
split_at (x ∷ p) zero lt = refl
split_at (x ∷ p) (suc i) lt = ap (λ bs. x ∷ bs) (split_at p i (omega arith))

drop_at_place : (p : List Bound) (i : ℕ) → i < length p → drop i p ≡ bound_at p i ∷ drop (suc i) p
drop_at_place [] i lt = absurd (omega arith)
drop_at_place (x ∷ p) zero lt = refl
drop_at_place (x ∷ p) (suc i) lt = drop_at_place p i (omega arith)

-- ---- assignments with another value

assign_own : (v : ℕ) (a : Assignment) → assign v (a v) a ≡ a
assign_own v a = fun_ext (λ w. at w (w == v) refl)
  where
    at : (w : ℕ) (t : Bool) → (w == v) ≡ t → assign v (a v) a w ≡ a w
    at w true e = rw e (ap a (sym (eqb-true w v e)))
    at w false e = rw e refl

assign_twice : (v : ℕ) (s t : Bool) (a : Assignment) → assign v s (assign v t a) ≡ assign v s a
assign_twice v s t a = fun_ext (λ w. at w (w == v) refl)
  where
    at : (w : ℕ) (x : Bool) → (w == v) ≡ x → assign v s (assign v t a) w ≡ assign v s a w
    at w true e = rw e refl
    at w false e = rw e refl

turned_assigned : (v : ℕ) (t : Bool) (a : Assignment) → turned v (assign v t a) ≡ assign v (not t) a
turned_assigned v t a = ap (λ s. assign v (not s) (assign v t a)) (assign_same v t a) ∙ assign_twice v (not t) t a

turned_twice : (v : ℕ) (a : Assignment) → turned v (turned v a) ≡ a
turned_twice v a = turned_assigned v (not (a v)) a ∙ ap (λ s. assign v s a) (twice (a v)) ∙ assign_own v a
  where
    twice : (b : Bool) → not (not b) ≡ b
    twice true = refl
    twice false = refl

turned_beside : (v u : ℕ) (t : Bool) (a : Assignment) (w : ℕ) → (u == v) ≡ false → (u == w) ≡ false → turned v (assign u t a) w ≡ turned v a w
turned_beside v u t a w other out = at (w == v) refl
  where
    at : (x : Bool) → (w == v) ≡ x → turned v (assign u t a) w ≡ turned v a w
    at true e = rw e (ap not (assign_other u t a v other))
    at false e = rw e (assign_other u t a w out)

-- ---- one more value leaves what is tried

still_tried : (f : Formula) (a : Assignment) (place i : ℕ) (t : Bool) → AllApart (prefix_variables f.prefix) → place < i → i < length f.prefix → IsTried f a place → IsTried f (assign (bound_at f.prefix i).var.0 t a) place
still_tried f a place i t apart lt within h = ap (decides (bound_at f.prefix place).quant) (value_same (drop (suc place) f.prefix) (clauses_true f.clauses) _ _ same) ∙ h
  where
    later : binds (drop (suc place) f.prefix) (bound_at f.prefix i).var.0 ≡ true
    later = bound_there f.prefix (suc place) i (omega arith) within

    same : (w : ℕ) → binds (drop (suc place) f.prefix) w ≡ false → turned (bound_at f.prefix place).var.0 (assign (bound_at f.prefix i).var.0 t a) w ≡ turned (bound_at f.prefix place).var.0 a w
    same w out = turned_beside (bound_at f.prefix place).var.0 (bound_at f.prefix i).var.0 t a w
        (bound_differs (drop (suc place) f.prefix) (bound_at f.prefix i).var.0 (bound_at f.prefix place).var.0 later (not_behind f.prefix (suc place) place apart (omega arith) (omega arith)))
        (bound_differs (drop (suc place) f.prefix) (bound_at f.prefix i).var.0 w later out)

still_outside : (f : Formula) (a : Assignment) (i : ℕ) (t : Bool) → i < length f.prefix → ((v : ℕ) → has_number (prefix_variables f.prefix) v ≡ false → a v ≡ false)
    → (v : ℕ) → has_number (prefix_variables f.prefix) v ≡ false → assign (bound_at f.prefix i).var.0 t a v ≡ false
still_outside f a i t within outside v out =
    assign_other (bound_at f.prefix i).var.0 t a v (bound_differs f.prefix (bound_at f.prefix i).var.0 v (bound_there f.prefix 0 i (omega arith) within) out) ∙ outside v out

-- ---- the first value

-- in the tail the other one is tried
tail_tried : (f : Formula) (before : ℕ) (a : Assignment) (i : ℕ) → IsForm f → before ≡ before_tail f → before ≤ i → i < length f.prefix
    → IsTried f (assign (bound_at f.prefix i).var.0 (following_value f.clauses (prefix_variables (take i f.prefix)) (bound_at f.prefix i).var.0 a) a) i
tail_tried f before a i form start low within =
    ap₂ decides (member_is_defined f (take i f.prefix) (drop (suc i) f.prefix) (bound_at f.prefix i) (split_at f.prefix i within) few).0
    (ap (λ (b : Assignment). value_from (suc i) f b) (turned_assigned (bound_at f.prefix i).var.0 (following_value f.clauses (prefix_variables (take i f.prefix)) (bound_at f.prefix i).var.0 a) a)
    ∙ other_value_fails f (take i f.prefix) (drop (suc i) f.prefix) (bound_at f.prefix i) a form (split_at f.prefix i within) few)
  where
    few : length (bound_at f.prefix i ∷ drop (suc i) f.prefix) ≤ tail_length f
    few = let rest = length-drop (suc i) f.prefix in omega arith

first_follows : (f : Formula) (before : ℕ) (rows : Vec (Vec Lit Global) Global) (a : Assignment) (i : ℕ) → TellsTail f before rows → before ≤ i → i < length f.prefix
    → first_value before rows i a ≡ following_value f.clauses (prefix_variables (take i f.prefix)) (bound_at f.prefix i).var.0 a
first_follows f before rows a i tells low within =
    rw (le-ltb i before low)
    (ap (list_all (literal_true a)) (tells.each (i - before) (omega arith)
    ∙ ap (λ n. implied_literals f.clauses (variables_before f n) (variable_at f n)) (let same : before + (i - before) ≡ i = omega arith in same)
    ∙ ap₂ (implied_literals f.clauses) (take-map (λ (b : Bound). b.var.0) i f.prefix) (get_or-map (λ (b : Bound). b.var.0) f.prefix i (record { quant = Exists; var = record { 0 = 0 } }) 0 within)))

pub put_stands : (f : Formula) (before : ℕ) (rows : Vec (Vec Lit Global) Global) (decisions : List Bool) (a : Assignment) → IsForm f → TellsTail f before rows → length decisions < length f.prefix → Stands f before decisions a
    → Stands f before (decisions ++ nat_lt (length decisions) before ∷ []) (assign (bound_at f.prefix (length decisions)).var.0 (first_value before rows (length decisions) a) a)
put_stands f before rows decisions a form tells within stands = record {
  within = let more = length_push decisions (nat_lt (length decisions) before) in omega arith;
  tail = λ place low. open_there place low (cases_lt place (length decisions));
  tried = λ place lt closed. tried_there place lt closed (cases_lt place (length decisions));
  outside = still_outside f a (length decisions) (first_value before rows (length decisions) a) within stands.outside;
}
  where
    t : Bool
    t = nat_lt (length decisions) before

    open_there : (place : ℕ) → before ≤ place → (place < length decisions) ⊎ (length decisions ≤ place) → is_open (decisions ++ nat_lt (length decisions) before ∷ []) place ≡ false
    open_there place low (inl lt) = get_or_append_left decisions (nat_lt (length decisions) before ∷ []) false place lt ∙ stands.tail place low
    open_there place low (inr ge) = elim (cases_eq place (length decisions)) [
      | inl same ↦ get_or_push decisions (nat_lt (length decisions) before) false place (sym same) ∙ le-ltb (length decisions) before (omega arith)
      | inr more ↦ get_or_past (decisions ++ nat_lt (length decisions) before ∷ []) place false (let many = length_push decisions (nat_lt (length decisions) before) in omega arith)
    ]

    last_tried : nat_lt (length decisions) before ≡ false → IsTried f (assign (bound_at f.prefix (length decisions)).var.0 (first_value before rows (length decisions) a) a) (length decisions)
    last_tried closed =
        let low = ltb-false (length decisions) before closed in
        subst (λ (x : Bool). IsTried f (assign (bound_at f.prefix (length decisions)).var.0 x a) (length decisions)) (sym (first_follows f before rows a (length decisions) tells low within))
        (tail_tried f before a (length decisions) form tells.start low within)

    tried_there : (place : ℕ) → place < length (decisions ++ nat_lt (length decisions) before ∷ []) → is_open (decisions ++ nat_lt (length decisions) before ∷ []) place ≡ false
        → (place < length decisions) ⊎ (length decisions ≤ place) → IsTried f (assign (bound_at f.prefix (length decisions)).var.0 (first_value before rows (length decisions) a) a) place
    tried_there place lt closed (inl early) =
        still_tried f a place (length decisions) (first_value before rows (length decisions) a) form.apart early within
        (stands.tried place early (sym (get_or_append_left decisions (nat_lt (length decisions) before ∷ []) false place early) ∙ closed))
    tried_there place lt closed (inr late) =
        let same : place ≡ length decisions = (let many = length_push decisions (nat_lt (length decisions) before) in omega arith) in
        subst (λ (n : ℕ). IsTried f (assign (bound_at f.prefix (length decisions)).var.0 (first_value before rows (length decisions) a) a) n) (sym same)
        (last_tried (sym (get_or_push decisions (nat_lt (length decisions) before) false place (sym same)) ∙ closed))

-- ---- a value is left

first_joined : (q : Quant) (b other : Bool) → (decides q other ≡ false) ⊎ (decides q b ≡ true) → join q b other ≡ b
first_joined Exists true other h = refl
first_joined Exists false false h = refl
first_joined Exists false true (inl e) = absurd (false≢true (sym e))
first_joined Exists false true (inr e) = absurd (false≢true e)
first_joined All false other h = refl
first_joined All true true h = refl
first_joined All true false (inl e) = absurd (false≢true (sym e))
first_joined All true false (inr e) = absurd (false≢true e)

second_joined : (q : Quant) (other b : Bool) → (decides q other ≡ false) ⊎ (decides q b ≡ true) → join q other b ≡ b
second_joined Exists false b h = refl
second_joined Exists true true h = refl
second_joined Exists true false (inl e) = absurd (false≢true (sym e))
second_joined Exists true false (inr e) = absurd (false≢true e)
second_joined All true b h = refl
second_joined All false false h = refl
second_joined All false true (inl e) = absurd (false≢true (sym e))
second_joined All false true (inr e) = absurd (false≢true e)

joined : (q : Quant) (x : Bool) (under : Bool → Bool) (b : Bool) → under x ≡ b → (decides q (under (not x)) ≡ false) ⊎ (decides q b ≡ true) → join q (under true) (under false) ≡ b
joined q true under b own h = ap (λ s. join q s (under false)) own ∙ first_joined q b (under false) h
joined q false under b own h = ap (λ s. join q (under true) s) own ∙ second_joined q (under true) b h

left_behind : (f : Formula) (a : Assignment) (b : Bool) (place : ℕ) → place < length f.prefix → value_from (suc place) f a ≡ b
    → IsTried f a place ⊎ (decides (bound_at f.prefix place).quant b ≡ true) → value_from place f a ≡ b
left_behind f a b place within behind h =
    ap (λ (bs : List Bound). value bs (clauses_true f.clauses) a) (drop_at_place f.prefix place within)
    ∙ joined (bound_at f.prefix place).quant (a (bound_at f.prefix place).var.0) (λ y. value_from (suc place) f (assign (bound_at f.prefix place).var.0 y a)) b
    (ap (λ (c : Assignment). value_from (suc place) f c) (assign_own (bound_at f.prefix place).var.0 a) ∙ behind) h

-- which decisions may be left
abbrev pub AreLeft : Formula → List Bool → ℕ → Bool → Type 0
AreLeft f decisions kept b = (place : ℕ) → kept ≤ place → place < length decisions → (is_open decisions place ≡ false) ⊎ (decides (bound_at f.prefix place).quant b ≡ true)

pub value_kept : (f : Formula) (before : ℕ) (decisions : List Bool) (a : Assignment) (b : Bool) (kept : ℕ) → Stands f before decisions a → AreLeft f decisions kept b
    → length f.prefix ≤ length decisions → clauses_true f.clauses a ≡ b → (place : ℕ) → kept ≤ place → value_from place f a ≡ b
value_kept f before decisions a b kept stands left whole holds place low = elim (cases_lt place (length f.prefix)) [
  | inl within ↦ go (length f.prefix - place) place (omega arith) low
  | inr past ↦ at_end place past
]
  where
    at_end : (place : ℕ) → length f.prefix ≤ place → value_from place f a ≡ b
    at_end place past = ap (λ (bs : List Bound). value bs (clauses_true f.clauses) a) (drop_all place f.prefix past) ∙ holds

    go : (n place : ℕ) → n + place ≡ length f.prefix → kept ≤ place → value_from place f a ≡ b
    go zero place e low = at_end place (omega arith)
    go (suc n) place e low =
        left_behind f a b place (omega arith) (go n (suc place) (omega arith) (omega arith))
        (⊎_elim (λ closed. inl (stands.tried place (omega arith) closed)) (λ decided. inr decided) (left place low (omega arith)))

pub left_settles : (f : Formula) (before : ℕ) (decisions : List Bool) (a : Assignment) (b : Bool) → Stands f before decisions a → AreLeft f decisions 0 b
    → length f.prefix ≤ length decisions → clauses_true f.clauses a ≡ b → Settles f a b
left_settles f before decisions a b stands left whole holds = record {
  each = λ place. value_kept f before decisions a b 0 stands left whole holds place (omega arith);
  outside = stands.outside;
}

pub fewer_stand : (f : Formula) (before : ℕ) (decisions : List Bool) (a : Assignment) (n : ℕ) → n ≤ length decisions → Stands f before decisions a → Stands f before (take n decisions) a
fewer_stand f before decisions a n few stands = record {
  within = let many = length-take-le n decisions few in let all = stands.within in omega arith;
  tail = λ place low. elim (cases_lt place n) [
    | inl lt ↦ get_or-take n decisions place false lt ∙ stands.tail place low
    | inr past ↦ get_or_past (take n decisions) place false (let many = length-take-le n decisions few in omega arith)
  ];
  tried = λ place lt closed.
      let early : place < n = (let many = length-take-le n decisions few in omega arith) in
      stands.tried place (omega arith) (sym (get_or-take n decisions place false early) ∙ closed);
  outside = stands.outside;
}

-- ---- the other value of the last decision

pub flip_stands : (f : Formula) (before : ℕ) (decisions : List Bool) (a : Assignment) (i : ℕ) → IsForm f → Stands f before decisions a → length decisions ≡ suc i
    → decides (bound_at f.prefix i).quant (value_from (suc i) f a) ≡ false
    → Stands f before (set decisions i false) (assign (bound_at f.prefix i).var.0 (not (a (bound_at f.prefix i).var.0)) a)
flip_stands f before decisions a i form stands many undecided = record {
  within = let same = length-set decisions i false in let all = stands.within in omega arith;
  tail = λ place low. closed_there place low (cases_eq place i);
  tried = λ place lt closed. tried_there place lt closed (cases_eq place i);
  outside = still_outside f a i (not (a (bound_at f.prefix i).var.0)) (let all = stands.within in omega arith) stands.outside;
}
  where
    closed_there : (place : ℕ) → before ≤ place → (place ≡ i) ⊎ (place ≡ i → ⊥) → is_open (set decisions i false) place ≡ false
    closed_there place low (inl same) = ap (is_open (set decisions i false)) same ∙ get_or-set_same decisions i false false (omega arith)
    closed_there place low (inr other) = get_or-set_other decisions i place false false other ∙ stands.tail place low

    tried_there : (place : ℕ) → place < length (set decisions i false) → is_open (set decisions i false) place ≡ false → (place ≡ i) ⊎ (place ≡ i → ⊥)
        → IsTried f (assign (bound_at f.prefix i).var.0 (not (a (bound_at f.prefix i).var.0)) a) place
    tried_there place lt closed (inl same) =
        subst (λ (n : ℕ). IsTried f (turned (bound_at f.prefix i).var.0 a) n) (sym same)
        (ap (λ (c : Assignment). decides (bound_at f.prefix i).quant (value_from (suc i) f c)) (turned_twice (bound_at f.prefix i).var.0 a) ∙ undecided)
    tried_there place lt closed (inr other) =
        let same = length-set decisions i false in
        let all = stands.within in
        still_tried f a place i (not (a (bound_at f.prefix i).var.0)) form.apart (omega arith) (omega arith)
        (stands.tried place (omega arith) (sym (get_or-set_other decisions i place false false other) ∙ closed))

-- ---- before the first value

pub none_stand : (f : Formula) (before : ℕ) (a : Assignment) → ((v : ℕ) → a v ≡ false) → Stands f before [] a
none_stand f before a none = record {
  within = omega arith;
  tail = λ place low. refl;
  tried = λ place lt closed. absurd (omega arith);
  outside = λ v out. none v;
}

pub variable_within : (f : Formula) (i n : ℕ) → HasRoom f n → i < length f.prefix → (bound_at f.prefix i).var.0 < n
variable_within f i n room within = room (bound_at f.prefix i).var.0 (bound_there f.prefix 0 i (omega arith) within)
