-- From a ply on, the prefix of a layout binds the plies that are left, and then the closing blocks.
use Rattle.std.proofs.Common.{◌≡◌, ℕ, zero, suc, ◌+◌, ◌-◌, List, [], ◌∷◌, ◌++◌, drop, refl, sym, ap, ap₂, ◌∙◌, arith, append_assoc}
use Rattle.std.proofs.lemmas.List.{append-nil}
use Rattle.std.proofs.Math.Seq.{drop-nil}
use Rattle.bddl_model.specs.declared.formula.Quant.{Quant}
use Rattle.bddl_model.specs.declared.formula.Quant.TheVariants.{Exists, All}
use Rattle.bddl_model.specs.declared.formula.Bound.{Bound}
use Rattle.bddl_model.specs.declared.game.Side.{Side}
use Rattle.bddl_model.specs.declared.game.Side.TheVariants.{Black, White}
use Rattle.bddl_model.specs.Game.{opponent, side_after}
use Rattle.bddl_model.specs.Setup.{Setup}
use Rattle.bddl_model.specs.Layout.{Sizes, sizes_of, plies_end, ply_at, end, plies_blocks, blocks, bounds, prefix_of}
use Rattle.bddl_model.specs.Encoding.{layout_of}
use Rattle.bddl_model.proofs.Covering.{prefix_of-append}
use Rattle.bddl_laws.proofs.Claiming.{closing}
use Rattle.bddl_laws.proofs.ExactGame.{plies_prefix}
use Rattle.bddl_laws.proofs.Played.{ply_end_is_later, plies_end_is_later}
use Rattle.bddl_laws.proofs.ClosingInputs.{claim_span, attack_span}

abbrev pub closing_prefix : Setup → List Bound
closing_prefix s = closing (claim_span s) (attack_span s) (layout_of s).refuting (layout_of s).place

pub layout_prefix : (s : Setup) → prefix_of (blocks (layout_of s)) ≡ plies_prefix (sizes_of s.game s.depth) s.depth s.first 1 ++ closing_prefix s
layout_prefix s =
    let l = layout_of s in
    prefix_of-append (plies_blocks l.plies) _
    ∙ ap (λ e. plies_prefix (sizes_of s.game s.depth) s.depth s.first 1 ++ (bounds Exists (claim_span s).from (claim_span s).len ++ (bounds All (attack_span s).from (attack_span s).len ++ (bounds Exists l.refuting.from l.refuting.len ++ e)))) (append-nil (bounds All l.place.from l.place.len))

-- ---- without the first blocks

pub drop_more : {A : Type 0} (n m : ℕ) (xs : List A) → drop (n + m) xs ≡ drop m (drop n xs)
drop_more n m [] = drop-nil (n + m) ∙ sym (ap (drop m) (drop-nil n) ∙ drop-nil m)
drop_more zero m (x ∷ xs) = ap (λ k. drop k (x ∷ xs)) (let e : 0 + m ≡ m = omega arith in e)
drop_more (suc n) m (x ∷ xs) = ap (λ k. drop k (x ∷ xs)) (let e : suc n + m ≡ suc (n + m) = omega arith in e) ∙ drop_more n m xs

pub drop_block : (q : Quant) (v n m : ℕ) (rest : List Bound) → m ≡ n → drop m (bounds q v n ++ rest) ≡ rest
drop_block q v zero m rest e = ap (λ k. drop k rest) e
drop_block q v (suc n) zero rest e = absurd (omega arith)
drop_block q v (suc n) (suc m) rest e = drop_block q (suc v) n m rest (omega arith)

module _ (z : Sizes) (behind : List Bound) where
  -- so many plies and what stands behind them
  abbrev pub plies_and : ℕ → Side → ℕ → List Bound
  plies_and n side v = plies_prefix z n side v ++ behind

  -- one ply
  pub drop_ply : (n : ℕ) (side : Side) (v m : ℕ) → v + m ≡ end (ply_at z side v).code → drop m (plies_and (suc n) side v) ≡ plies_and n (opponent side) (end (ply_at z side v).code)
  drop_ply n Black v m e =
      let b = z.black_code in
      ap (drop m) (append_assoc (bounds Exists v b) (plies_prefix z n White (v + b)) behind)
      ∙ drop_block Exists v b m (plies_and n White (v + b)) (omega arith)
  drop_ply n White v m e =
      let w = z.white_code in
      let later = plies_prefix z n Black (v + w + w) in
      ap₂ drop (let two : m ≡ w + w = omega arith in two) (append_assoc (bounds Exists v w) (bounds All (v + w) w ++ later) behind)
      ∙ drop_more w w (bounds Exists v w ++ ((bounds All (v + w) w ++ later) ++ behind))
      ∙ ap (drop w) (drop_block Exists v w w ((bounds All (v + w) w ++ later) ++ behind) refl ∙ append_assoc (bounds All (v + w) w) later behind)
      ∙ drop_block All (v + w) w w (later ++ behind) refl

  -- White's sample alone
  pub drop_sample : (n v : ℕ) → drop z.white_code (plies_and (suc n) White v) ≡ bounds All (v + z.white_code) z.white_code ++ plies_and n Black (v + z.white_code + z.white_code)
  drop_sample n v =
      let w = z.white_code in
      let later = plies_prefix z n Black (v + w + w) in
      ap (drop w) (append_assoc (bounds Exists v w) (bounds All (v + w) w ++ later) behind)
      ∙ drop_block Exists v w w ((bounds All (v + w) w ++ later) ++ behind) refl
      ∙ append_assoc (bounds All (v + w) w) later behind

  -- so many plies
  pub drop_plies : (k n : ℕ) (side : Side) (v m : ℕ) → v + m ≡ plies_end z k side v → drop m (plies_and (k + n) side v) ≡ plies_and n (side_after side k) (plies_end z k side v)
  drop_plies zero n side v m e = ap₂ (λ i j. drop i (plies_and j side v)) (let nothing : m ≡ 0 = omega arith in nothing) (let same : 0 + n ≡ n = omega arith in same)
  drop_plies (suc k) n side v m e =
      let next = end (ply_at z side v).code in
      let low = plies_end_is_later z k (opponent side) next in
      let first = ply_end_is_later z side v in
      let here : v + (next - v) ≡ next = omega arith in
      ap₂ (λ i j. drop i (plies_and j side v)) (let whole : m ≡ (next - v) + (m - (next - v)) = omega arith in whole) (let one : suc k + n ≡ suc (k + n) = omega arith in one)
      ∙ drop_more (next - v) (m - (next - v)) (plies_and (suc (k + n)) side v)
      ∙ ap (drop (m - (next - v))) (drop_ply (k + n) side v (next - v) here)
      ∙ drop_plies k n (opponent side) next (m - (next - v)) (omega arith)
