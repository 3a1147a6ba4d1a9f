-- Blocks that bind variables in order: with neighbours as one they bind the same, and are the quantifier sets of their prefix.
use Rattle.std.proofs.Common.{◌≡◌, ℕ, zero, suc, ◌+◌, ◌-◌, ◌≤◌, true, false, if◌then◌else◌, List, [], ◌∷◌, ◌++◌, length, ◌⊎◌, inl, inr, ⊎_elim, refl, sym, ap, ap₂, subst, ◌∙◌, arith, map, eqb-true, eq-eqb, append-nil}
use Rattle.std.specs.Prelude.{◌==◌}
use Rattle.std.specs.List.{range_with_len, sum_by, flat_map}
use Rattle.std.proofs.lemmas.Bool.{cases_Bool, false≢true}
use Rattle.std.proofs.lemmas.List.Sums.{sum_by-cons}
use Rattle.bddl_model.specs.declared.formula.Quant.{Quant}
use Rattle.bddl_model.specs.declared.formula.Quant.TheVariants.{Exists, All}
use Rattle.bddl_model.specs.declared.formula.Bound.{Bound}
use Rattle.bddl_model.specs.declared.formula.Block.{Block}
use Rattle.bddl_model.specs.Forms.{prefix_variables}
use Rattle.bddl_model.specs.FormulaText.{QuantSet, same_quant, onto_sets, sets_of}
use Rattle.bddl_model.specs.Qdimacs.{bound_of, set_bounds}
use Rattle.bddl_model.specs.Layout.{span, block, bounds, prefix_of}
use Rattle.bddl_model.specs.Prenex.{Cover, onto_blocks, merged, set_of, with_gates}
use Rattle.bddl_model.proofs.Counted.{counted, counted-append, variables-bounds, variables-append}
use Rattle.bddl_model.proofs.WrittenForms.{quants_same, sets_bounds}
use Rattle.bddl_model.proofs.Covering.{counted-range, range-append, prefix_of-append}

-- ---- numbers in order

-- the first of some numbers in order, and what stands behind them
pub counted_parts : (v n : ℕ) (first rest : List ℕ) → first ++ rest ≡ counted v n → (length first ≤ n) × (first ≡ counted v (length first)) × (rest ≡ counted (v + length first) (n - length first))
counted_parts v n [] rest h = (omega arith, refl, h ∙ ap₂ counted (let e : v ≡ v + 0 = omega arith in e) (let e : n ≡ n - 0 = omega arith in e))
counted_parts v zero (w ∷ first) rest h = absurd cc
counted_parts v (suc n) (w ∷ first) rest h =
    let p = counted_parts (suc v) n first rest (let e : first ++ rest ≡ counted (suc v) n = cc in e) in (
      (let low = p.0 in omega arith),
      ap₂ (λ x l. x ∷ l) (let e : w ≡ v = cc in e) p.1,
      p.2 ∙ ap₂ counted (let e : suc v + length first ≡ v + suc (length first) = omega arith in e) (let e : n - length first ≡ suc n - suc (length first) = omega arith in e),
    )

-- the same, where the first are counted from another number
pub counted_rest : (v n w m : ℕ) (rest : List ℕ) → counted w m ++ rest ≡ counted v n → (m ≤ n) × ((m ≡ 0) ⊎ (w ≡ v)) × (rest ≡ counted (v + m) (n - m))
counted_rest v n w m rest h =
    let p = counted_parts v n (counted w m) rest h in
    let e : length (counted w m) ≡ m = counted_length w m in
    (rw e at p.0, start m (rw e at p.1), rw e at p.2)
  where
    counted_length : (w m : ℕ) → length (counted w m) ≡ m
    counted_length w zero = refl
    counted_length w (suc m) = ap suc (counted_length (suc w) m)

    start : (m : ℕ) → counted w m ≡ counted v m → (m ≡ 0) ⊎ (w ≡ v)
    start zero e = inl refl
    start (suc m) e = inr cc

-- ---- blocks that bind numbers in order

-- the first block, and where those behind it begin
first_block : (b : Block) (bs : List Block) (v n : ℕ) → prefix_variables (prefix_of (b ∷ bs)) ≡ counted v n
    → (b.span.len ≤ n) × ((b.span.len ≡ 0) ⊎ (b.span.from ≡ v)) × (prefix_variables (prefix_of bs) ≡ counted (v + b.span.len) (n - b.span.len))
first_block b bs v n h =
    counted_rest v n b.span.from b.span.len (prefix_variables (prefix_of bs))
    (ap (λ l. l ++ prefix_variables (prefix_of bs)) (sym (variables-bounds b.quant b.span.from b.span.len))
    ∙ sym (variables-append (bounds b.quant b.span.from b.span.len) (prefix_of bs)) ∙ h)

abbrev pub variables_in : List Block → ℕ
variables_in bs = sum_by (λ (b : Block). b.span.len) bs

pub covered_length : (bs : List Block) (v n : ℕ) → prefix_variables (prefix_of bs) ≡ counted v n → variables_in bs ≡ n
covered_length [] v zero h = refl
covered_length [] v (suc n) h = absurd cc
covered_length (b ∷ bs) v n h =
    let p = first_block b bs v n h in
    let low = p.0 in
    let rest = covered_length bs (v + b.span.len) (n - b.span.len) p.2 in
    omega (arith, low, rest, sum_by-cons (λ (c : Block). c.span.len) b bs)

pub covers_gates : (bs : List Block) (inputs gates : ℕ) → Cover bs inputs → Cover (with_gates bs inputs gates) (inputs + gates)
covers_gates bs inputs gates h =
    ap prefix_variables (prefix_of-append bs (block Exists (span (inputs + 1) gates) ∷ []))
    ∙ variables-append (prefix_of bs) (bounds Exists (inputs + 1) gates ++ [])
    ∙ ap₂ (λ k l. k ++ l) (h ∙ sym (counted-range 1 inputs)) (ap prefix_variables (append-nil (bounds Exists (inputs + 1) gates)) ∙ variables-bounds Exists (inputs + 1) gates)
    ∙ counted-append 1 inputs gates (inputs + 1) (omega arith)
    ∙ counted-range 1 (inputs + gates)

-- ---- quantifier sets

quant_same : (q : Quant) → same_quant q q ≡ true
quant_same Exists = refl
quant_same All = refl

abbrev set : Quant → List ℕ → QuantSet
set q vs = record { quant = q; vars = vs }

abbrev pub bound : Quant → ℕ → Bound
bound q v = record { quant = q; var = record { 0 = v } }

-- a set joins the one before which it stands
abbrev onto_set : QuantSet → List QuantSet → List QuantSet
onto_set x [] = x ∷ []
onto_set x (s ∷ sets) = if same_quant x.quant s.quant then set x.quant (x.vars ++ s.vars) ∷ sets else x ∷ s ∷ sets

one_set : (q : Quant) (v : ℕ) (sets : List QuantSet) → onto_sets (bound q v) sets ≡ onto_set (set q (v ∷ [])) sets
one_set q v [] = refl
one_set q v (s ∷ sets) = elim (cases_Bool (same_quant q s.quant)) [
  | inl same ↦ rw same (ap (λ (r : Quant). set r (v ∷ s.vars) ∷ sets) (sym (quants_same q s.quant same)))
  | inr differs ↦ rw differs refl
]

set_more : (q : Quant) (v : ℕ) (vs : List ℕ) (sets : List QuantSet) → onto_sets (bound q v) (onto_set (set q vs) sets) ≡ onto_set (set q (v ∷ vs)) sets
set_more q v vs [] = rw (quant_same q) refl
set_more q v vs (s ∷ sets) = elim (cases_Bool (same_quant q s.quant)) [
  | inl same ↦ rw (same, quant_same q) refl
  | inr differs ↦ rw (differs, quant_same q) refl
]

block_sets : (q : Quant) (v n : ℕ) (rest : List Bound) → sets_of (bounds q v (suc n) ++ rest) ≡ onto_set (set q (counted v (suc n))) (sets_of rest)
block_sets q v zero rest = one_set q v (sets_of rest)
block_sets q v (suc n) rest = ap (onto_sets (bound q v)) (block_sets q (suc v) n rest) ∙ set_more q v (counted (suc v) (suc n)) (sets_of rest)

-- ---- neighbours as one

abbrev StartsAt : ℕ → List Block → Type 0
StartsAt v [] = Unit {0}
StartsAt v (b ∷ bs) = b.span.from ≡ v

onto_starts : (b : Block) (cs : List Block) → StartsAt b.span.from (onto_blocks b cs)
onto_starts b [] = refl
onto_starts b (c ∷ cs) = elim (cases_Bool (same_quant b.quant c.quant)) [
  | inl same ↦ rw same refl
  | inr differs ↦ rw differs refl
]

suc_minus_one : (n : ℕ) → (n == 0) ≡ false → n ≡ suc (n - 1)
suc_minus_one n h = let positive : n ≡ 0 → ⊥ = λ e. false≢true (sym h ∙ eq-eqb n 0 e) in omega arith

merged_start : (bs : List Block) (v n : ℕ) → prefix_variables (prefix_of bs) ≡ counted v n → StartsAt v (merged bs)
merged_start [] v n h = tt
merged_start (b ∷ bs) v n h =
    let p = first_block b bs v n h in
    let later = merged_start bs (v + b.span.len) (n - b.span.len) p.2 in
    elim (cases_Bool (b.span.len == 0)) [
      | inl none ↦ rw none (subst (λ (w : ℕ). StartsAt w (merged bs)) (let z = eqb-true b.span.len 0 none in let e : v + b.span.len ≡ v = omega arith in e) later)
      | inr more ↦ rw more (⊎_elim
          (λ z. absurd (let s = suc_minus_one b.span.len more in omega arith))
          (λ e. subst (λ (w : ℕ). StartsAt w (onto_blocks b (merged bs))) e (onto_starts b (merged bs)))
          p.1)
    ]

joined_set : (b : Block) (cs : List Block) → StartsAt (b.span.from + b.span.len) cs → onto_set (set_of b) (map set_of cs) ≡ map set_of (onto_blocks b cs)
joined_set b [] h = refl
joined_set b (c ∷ cs) h = elim (cases_Bool (same_quant b.quant c.quant)) [
  | inl same ↦ rw same (ap (λ l. set b.quant l ∷ map set_of cs) (ap (λ w. range_with_len b.span.from b.span.len ++ range_with_len w c.span.len) h ∙ range-append b.span.from b.span.len c.span.len (b.span.from + b.span.len) refl))
  | inr differs ↦ rw differs refl
]

sets_merged : (bs : List Block) (v n : ℕ) → prefix_variables (prefix_of bs) ≡ counted v n → sets_of (prefix_of bs) ≡ map set_of (merged bs)
sets_merged [] v n h = refl
sets_merged (b ∷ bs) v n h =
    let p = first_block b bs v n h in
    let later = sets_merged bs (v + b.span.len) (n - b.span.len) p.2 in
    let start = merged_start bs (v + b.span.len) (n - b.span.len) p.2 in
    elim (cases_Bool (b.span.len == 0)) [
      | inl none ↦ rw none (ap (λ m. sets_of (bounds b.quant b.span.from m ++ prefix_of bs)) (eqb-true b.span.len 0 none) ∙ later)
      | inr more ↦ rw more (⊎_elim
          (λ z. absurd (let s = suc_minus_one b.span.len more in omega arith))
          (λ e.
          ap (λ m. sets_of (bounds b.quant b.span.from m ++ prefix_of bs)) (suc_minus_one b.span.len more)
          ∙ block_sets b.quant b.span.from (b.span.len - 1) (prefix_of bs)
          ∙ ap (λ m. onto_set (set b.quant (counted b.span.from m)) (sets_of (prefix_of bs))) (sym (suc_minus_one b.span.len more))
          ∙ ap₂ (λ l sets. onto_set (set b.quant l) sets) (counted-range b.span.from b.span.len) later
          ∙ joined_set b (merged bs) (subst (λ (w : ℕ). StartsAt (w + b.span.len) (merged bs)) (sym e) start))
          p.1)
    ]

pub covered_sets : (bs : List Block) (n : ℕ) → Cover bs n → sets_of (prefix_of bs) ≡ map set_of (merged bs)
covered_sets bs n h = sets_merged bs 1 n (h ∙ sym (counted-range 1 n))

range_bounds : (q : Quant) (v n : ℕ) → map (bound_of q) (range_with_len v n) ≡ bounds q v n
range_bounds q v n = ap (map (bound_of q)) (sym (counted-range v n)) ∙ from v n
  where
    from : (v n : ℕ) → map (bound_of q) (counted v n) ≡ bounds q v n
    from v zero = refl
    from v (suc n) = ap (λ l. bound q v ∷ l) (from (suc v) n)

sets_prefix : (bs : List Block) → flat_map set_bounds (map set_of bs) ≡ prefix_of bs
sets_prefix [] = refl
sets_prefix (b ∷ bs) = ap₂ (λ k l. k ++ l) (range_bounds b.quant b.span.from b.span.len) (sets_prefix bs)

pub covered_prefix : (bs : List Block) (n : ℕ) → Cover bs n → prefix_of (merged bs) ≡ prefix_of bs
covered_prefix bs n h = sym (sets_prefix (merged bs)) ∙ ap (flat_map set_bounds) (sym (covered_sets bs n h)) ∙ sets_bounds (prefix_of bs)

-- ---- a block more at the end

-- a block joins the last one, if that has its quantifier
abbrev pub behind_blocks : List Block → Block → List Block
behind_blocks [] b = if b.span.len == 0 then [] else b ∷ []
behind_blocks (c ∷ []) b =
    if b.span.len == 0 then c ∷ []
    else if same_quant c.quant b.quant then block c.quant (span c.span.from (c.span.len + b.span.len)) ∷ []
    else c ∷ b ∷ []
behind_blocks (c ∷ d ∷ cs) b = c ∷ behind_blocks (d ∷ cs) b

abbrev joined : Block → Block → Block
joined b c = block b.quant (span b.span.from (b.span.len + c.span.len))

onto_behind : (a : Block) (cs : List Block) (b : Block) → onto_blocks a (behind_blocks cs b) ≡ behind_blocks (onto_blocks a cs) b
onto_behind a [] b = elim (cases_Bool (b.span.len == 0)) [
  | inl none ↦ rw none refl
  | inr more ↦ rw more refl
]
onto_behind a (c ∷ []) b = elim (cases_Bool (b.span.len == 0)) [
  | inl none ↦ rw none (elim (cases_Bool (same_quant a.quant c.quant)) [
    | inl same ↦ rw (same, none) refl
    | inr differs ↦ rw (differs, none) refl
  ])
  | inr more ↦ rw more (both more (cases_Bool (same_quant a.quant c.quant)) (cases_Bool (same_quant c.quant b.quant)))
]
  where
    both : (b.span.len == 0) ≡ false → (same_quant a.quant c.quant ≡ true) ⊎ (same_quant a.quant c.quant ≡ false) → (same_quant c.quant b.quant ≡ true) ⊎ (same_quant c.quant b.quant ≡ false)
        → onto_blocks a (if same_quant c.quant b.quant then joined c b ∷ [] else c ∷ b ∷ []) ≡ behind_blocks (onto_blocks a (c ∷ [])) b
    both more (inl first) (inl second) =
        rw (second, first, more, ap (λ q. same_quant q b.quant) (quants_same a.quant c.quant first) ∙ second)
        (ap (λ n. block a.quant (span a.span.from n) ∷ []) (let e : a.span.len + (c.span.len + b.span.len) ≡ a.span.len + c.span.len + b.span.len = omega arith in e))
    both more (inl first) (inr second) = rw (second, first, more, ap (λ q. same_quant q b.quant) (quants_same a.quant c.quant first) ∙ second) refl
    both more (inr first) (inl second) = rw (second, first, more, second) refl
    both more (inr first) (inr second) = rw (second, first, more, second) refl
onto_behind a (c ∷ d ∷ cs) b = elim (cases_Bool (same_quant a.quant c.quant)) [
  | inl same ↦ rw same refl
  | inr differs ↦ rw differs refl
]

pub merged_more : (bs : List Block) (b : Block) → merged (bs ++ b ∷ []) ≡ behind_blocks (merged bs) b
merged_more [] b = refl
merged_more (a ∷ bs) b = elim (cases_Bool (a.span.len == 0)) [
  | inl none ↦ rw none (merged_more bs b)
  | inr more ↦ rw more (ap (onto_blocks a) (merged_more bs b) ∙ onto_behind a (merged bs) b)
]

-- they bind as many variables
pub merged_length : (bs : List Block) → variables_in (merged bs) ≡ variables_in bs
merged_length [] = refl
merged_length (b ∷ bs) = elim (cases_Bool (b.span.len == 0)) [
  | inl none ↦ rw none (let z = eqb-true b.span.len 0 none in let rest = merged_length bs in omega (arith, rest, sum_by-cons (λ (c : Block). c.span.len) b bs))
  | inr more ↦ rw more (let rest = merged_length bs in omega (arith, rest, onto b (merged bs), sum_by-cons (λ (c : Block). c.span.len) b bs))
]
  where
    onto : (b : Block) (cs : List Block) → variables_in (onto_blocks b cs) ≡ b.span.len + variables_in cs
    onto b [] = sum_by-cons (λ (c : Block). c.span.len) b []
    onto b (c ∷ cs) = elim (cases_Bool (same_quant b.quant c.quant)) [
      | inl same ↦ rw same (omega (arith, sum_by-cons (λ (x : Block). x.span.len) (joined b c) cs, sum_by-cons (λ (x : Block). x.span.len) c cs))
      | inr differs ↦ rw differs (sum_by-cons (λ (x : Block). x.span.len) b (c ∷ cs))
    ]
