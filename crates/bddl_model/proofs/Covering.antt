-- The variables that blocks bind, one block behind the other.
use Rattle.std.proofs.Common.{◌≡◌, ℕ, zero, suc, ◌+◌, ◌-◌, ◌≤◌, List, [], ◌∷◌, ◌++◌, refl, sym, ap, ap₂, ◌∙◌, arith, append_assoc}
use Rattle.std.specs.List.{range_with_len}
use Rattle.bddl_model.specs.declared.formula.Quant.{Quant}
use Rattle.bddl_model.specs.declared.formula.Quant.TheVariants.{Exists, All}
use Rattle.bddl_model.specs.declared.formula.Block.{Block}
use Rattle.bddl_model.specs.declared.game.Side.{Side}
use Rattle.bddl_model.specs.declared.game.Side.TheVariants.{Black, White}
use Rattle.bddl_model.specs.Forms.{prefix_variables}
use Rattle.bddl_model.specs.Layout.{Sizes, end, block, span, plies_at, plies_end, plies_blocks, bounds, prefix_of}
use Rattle.bddl_model.proofs.Counted.{counted, counted-append, variables-bounds, variables-append}

pub counted-range : (v n : ℕ) → counted v n ≡ range_with_len v n
counted-range v zero = refl
counted-range v (suc n) =
    let next : suc v ≡ v + 1 = omega arith in
    ap (λ l. v ∷ l) (counted-range (suc v) n ∙ ap (λ k. range_with_len k n) next)

pub bounds-range : (q : Quant) (v n : ℕ) → prefix_variables (bounds q v n) ≡ range_with_len v n
bounds-range q v n = variables-bounds q v n ∙ counted-range v n

pub range-append : (v n m w : ℕ) → w ≡ v + n → range_with_len v n ++ range_with_len w m ≡ range_with_len v (n + m)
range-append v n m w e = sym (ap₂ (λ x y. x ++ y) (counted-range v n) (counted-range w m)) ∙ counted-append v n m w e ∙ counted-range v (n + m)

pub prefix_of-append : (bs cs : List Block) → prefix_of (bs ++ cs) ≡ prefix_of bs ++ prefix_of cs
prefix_of-append [] cs = refl
prefix_of-append (b ∷ bs) cs = ap (λ l. bounds b.quant b.span.from b.span.len ++ l) (prefix_of-append bs cs) ∙ sym (append_assoc (bounds b.quant b.span.from b.span.len) (prefix_of bs) (prefix_of cs))

-- ---- blocks that bind the variables from u up to those from v on

pub record BindsUpTo (bs : List Block) (u v : ℕ) : Type 0 where
  pub order : u ≤ v
  pub variables : prefix_variables (prefix_of bs) ≡ range_with_len u (v - u)

pub binds-none : (u v : ℕ) → u ≡ v → BindsUpTo [] u v
binds-none u v e = record { order = omega arith; variables = let none : v - u ≡ 0 = omega arith in rw none refl }

pub binds-append : (bs cs : List Block) (u v w : ℕ) → BindsUpTo bs u v → BindsUpTo cs v w → BindsUpTo (bs ++ cs) u w
binds-append bs cs u v w left right = record {
  order = omega (arith, left.order, right.order);
  variables =
      let both : (v - u) + (w - v) ≡ w - u = omega (arith, left.order, right.order) in
      ap prefix_variables (prefix_of-append bs cs)
      ∙ variables-append (prefix_of bs) (prefix_of cs)
      ∙ ap₂ (λ x y. x ++ y) left.variables right.variables
      ∙ range-append u (v - u) (w - v) v (omega (arith, left.order))
      ∙ ap (range_with_len u) both;
}

binds-one : (q : Quant) (u v n : ℕ) → v ≡ u + n → BindsUpTo (block q (span u n) ∷ []) u v
binds-one q u v n e = record {
  order = omega arith;
  variables =
      let all : n + 0 ≡ v - u = omega arith in
      variables-append (bounds q u n) []
      ∙ ap (λ l. l ++ []) (bounds-range q u n)
      ∙ range-append u n 0 (u + n) refl
      ∙ ap (range_with_len u) all;
}

-- a block before others
pub binds-cons : (b : Block) (bs : List Block) (v w : ℕ) → v ≡ end b.span → BindsUpTo bs v w → BindsUpTo (b ∷ bs) b.span.from w
binds-cons b bs v w e more = binds-append (b ∷ []) bs b.span.from v w (binds-one b.quant b.span.from v b.span.len e) more

-- the plies bind the variables up to their end
pub binds-plies : (z : Sizes) (n : ℕ) (side : Side) (v : ℕ) → BindsUpTo (plies_blocks (plies_at z n side v)) v (plies_end z n side v)
binds-plies z zero side v = binds-none v v refl
binds-plies z (suc n) Black v = binds-cons (block Exists (span v z.black_code)) _ (v + z.black_code) _ refl (binds-plies z n White (v + z.black_code))
binds-plies z (suc n) White v =
    binds-cons (block Exists (span v z.white_code)) _ (v + z.white_code) _ refl
    (binds-cons (block All (span (v + z.white_code) z.white_code)) _ (v + z.white_code + z.white_code) _ refl (binds-plies z n Black (v + z.white_code + z.white_code)))
