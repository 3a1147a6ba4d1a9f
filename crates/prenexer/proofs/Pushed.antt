-- The variables of a block behind those of a prefix, one after the other.
use Rattle.std.proofs.Common.{◌≡◌, ℕ, zero, suc, ◌+◌, ◌-◌, ◌<◌, ◌≤◌, false, List, [], ◌∷◌, ◌++◌, length, drop, slice_index_or, inr, ⊎_elim, sym, ap, ◌∙◌, arith, append_assoc}
use Rattle.std.proofs.lemmas.Bool.{or_from}
use Rattle.std.proofs.lemmas.List.{drop_more}
use Rattle.bddl_model.specs.declared.formula.Quant.{Quant}
use Rattle.bddl_model.specs.declared.formula.Bound.{Bound}
use Rattle.bddl_model.specs.declared.formula.Block.{Block}
use Rattle.bddl_model.specs.Forms.{has_number, prefix_variables}
use Rattle.bddl_model.specs.Layout.{bounds, prefix_of}
use Rattle.bddl_model.specs.Prenex.{Cover}
use Rattle.bddl_model.proofs.Counted.{counted, not_counted, variables-bounds, variables-append}
use Rattle.bddl_model.proofs.NumberLists.{has_append}
use Rattle.bddl_model.proofs.Covering.{counted-range}
use Rattle.prenexer.proofs.Prenexing.{counted_parts, counted_rest, bound}

-- ---- one block

bounds_more : (q : Quant) (v n w : ℕ) → w ≡ v + n → bounds q v (suc n) ≡ bounds q v n ++ bound q w ∷ []
bounds_more q v zero w e = let same : v ≡ w = omega arith in ap (λ x. bound q x ∷ []) same
bounds_more q v (suc n) w e = ap (λ l. bound q v ∷ l) (bounds_more q (suc v) n w (omega arith))

-- the next number isn't among those so far
pub next_is_new : (old : List Bound) (q : Quant) (from v : ℕ) → from ≤ v → has_number (prefix_variables old) v ≡ false
    → (done : List Bound) → done ≡ old ++ bounds q from (v - from) → has_number (prefix_variables done) v ≡ false
next_is_new old q from v le new done e =
    ap (λ bs. has_number (prefix_variables bs) v) e
    ∙ ap (λ vs. has_number vs v) (variables-append old (bounds q from (v - from)) ∙ ap (λ l. prefix_variables old ++ l) (variables-bounds q from (v - from)))
    ∙ has_append (prefix_variables old) (counted from (v - from)) v
    ∙ or_from _ _ new (not_counted from (v - from) v (inr (omega arith)))

pub one_bound_more : (old : List Bound) (q : Quant) (from v : ℕ) → from ≤ v → (done more : List Bound) → done ≡ old ++ bounds q from (v - from) → more ≡ done ++ bound q v ∷ []
    → more ≡ old ++ bounds q from (v + 1 - from)
one_bound_more old q from v le done more e h =
    let next : suc (v - from) ≡ v + 1 - from = omega arith in
    h ∙ ap (λ l. l ++ bound q v ∷ []) e ∙ append_assoc old (bounds q from (v - from)) (bound q v ∷ [])
    ∙ ap (λ l. old ++ l) (sym (bounds_more q from (v - from) v (omega arith)) ∙ ap (bounds q from) next)

-- ---- blocks in order

module _ (bs : List Block) (i : ℕ) (d : Block) (lt : i < length bs) (done : List Bound) (so_far : done ++ prefix_of (drop i bs) ≡ prefix_of bs) where
  abbrev here : List Bound
  here = let b = slice_index_or bs i d in bounds b.quant b.span.from b.span.len

  parted : done ++ (here ++ prefix_of (drop (i + 1) bs)) ≡ prefix_of bs
  parted = ap (λ cs. done ++ prefix_of cs) (sym (drop_more bs i d lt)) ∙ so_far

  pub one_block_more : (more : List Bound) → more ≡ done ++ here → more ++ prefix_of (drop (i + 1) bs) ≡ prefix_of bs
  one_block_more more e = ap (λ l. l ++ prefix_of (drop (i + 1) bs)) e ∙ append_assoc done here (prefix_of (drop (i + 1) bs)) ∙ parted

  pub block_is_new : (n most : ℕ) → n ≤ most → Cover bs n → (v : ℕ) → let s = (slice_index_or bs i d).span in s.from ≤ v → v < s.from + s.len
      → (1 ≤ v) × (v ≤ most) × (has_number (prefix_variables done) v ≡ false)
  block_is_new n most few covers v low high =
      let b = slice_index_or bs i d in
      let rest = prefix_variables (prefix_of (drop (i + 1) bs)) in
      let first = prefix_variables done in
      let whole : first ++ (counted b.span.from b.span.len ++ rest) ≡ counted 1 n =
      ap (λ l. first ++ (l ++ rest)) (sym (variables-bounds b.quant b.span.from b.span.len))
      ∙ ap (λ l. first ++ l) (sym (variables-append here (prefix_of (drop (i + 1) bs))))
      ∙ sym (variables-append done (here ++ prefix_of (drop (i + 1) bs)))
      ∙ ap prefix_variables parted ∙ covers ∙ sym (counted-range 1 n) in
      let p = counted_parts 1 n first (counted b.span.from b.span.len ++ rest) whole in
      let r = counted_rest (1 + length first) (n - length first) b.span.from b.span.len rest p.2 in
      ⊎_elim
      (λ none. absurd (omega arith))
      (λ start. (omega arith, (let one = p.0 in let two = r.0 in omega arith), ap (λ vs. has_number vs v) p.1 ∙ not_counted 1 (length first) v (inr (omega arith))))
      r.1
