-- One ply more of a layout, and all of them.
use Rattle.std.proofs.Common.{◌≡◌, ℕ, zero, suc, ◌+◌, ◌-◌, ◌<◌, List, [], ◌∷◌, ◌++◌, sym, ap, ap₂, ◌∙◌, arith, append_assoc}
use Rattle.std.proofs.lemmas.List.{append-nil}
use Rattle.bddl_model.specs.declared.game.Side.{Side}
use Rattle.bddl_model.specs.declared.game.PlyBits.{PlyBits}
use Rattle.bddl_model.specs.Game.{opponent}
use Rattle.bddl_model.specs.Layout.{Sizes, end, ply_at, plies_at, plies_end, plies_blocks}
use Rattle.bddl_model.specs.Prenex.{Cover}
use Rattle.bddl_model.proofs.Covering.{binds-plies}

module _ (z : Sizes) (depth number : ℕ) (side turned : Side) (next later : ℕ) (p : PlyBits) (more : number < depth) (made : p ≡ ply_at z side next) (turns : turned ≡ opponent side) (ends : later ≡ end p.code) where
  one_more : depth - number ≡ suc (depth - (number + 1))
  one_more = omega arith

  behind_it : later ≡ end (ply_at z side next).code
  behind_it = ends ∙ ap (λ q. end q.code) made

  pub plies_turn : (before now all : List PlyBits) → now ≡ before ++ p ∷ [] → before ++ plies_at z (depth - number) side next ≡ all → now ++ plies_at z (depth - (number + 1)) turned later ≡ all
  plies_turn before now all e h =
      ap₂ (λ l m. l ++ m) e (ap₂ (plies_at z (depth - (number + 1))) turns behind_it)
      ∙ append_assoc before (p ∷ []) (plies_at z (depth - (number + 1)) (opponent side) (end (ply_at z side next).code))
      ∙ ap (λ q. before ++ q ∷ plies_at z (depth - (number + 1)) (opponent side) (end (ply_at z side next).code)) made
      ∙ sym (ap (λ n. before ++ plies_at z n side next) one_more)
      ∙ h

  pub end_turn : (all : ℕ) → plies_end z (depth - number) side next ≡ all → plies_end z (depth - (number + 1)) turned later ≡ all
  end_turn all h = ap₂ (plies_end z (depth - (number + 1))) turns behind_it ∙ sym (ap (λ n. plies_end z n side next) one_more) ∙ h

-- behind the last one
pub plies_cover : (z : Sizes) (depth left : ℕ) (first side : Side) (next : ℕ) (all : List PlyBits) → left ≡ 0 → all ++ plies_at z left side next ≡ plies_at z depth first 1 → plies_end z left side next ≡ plies_end z depth first 1 → Cover (plies_blocks all) (next - 1)
plies_cover z depth zero first side next all none e h = rw (sym (append-nil all) ∙ e, h) (binds-plies z depth first 1).variables
plies_cover z depth (suc left) first side next all none e h = absurd (omega arith)
