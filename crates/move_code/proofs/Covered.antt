-- Inputs that stand one after the other are bound in order.
use Rattle.std.proofs.Common.{◌≡◌, ◌+◌, ◌-◌, ◌≤◌, refl, subst, arith}
use Rattle.bddl_model.specs.declared.formula.Quant.TheVariants.{Exists, All}
use Rattle.bddl_model.specs.Layout.{Inputs, end, from_to, block, plies_blocks, claim_blocks, blocks}
use Rattle.bddl_model.specs.Prenex.{Cover}
use Rattle.bddl_model.proofs.Covering.{BindsUpTo, binds-none, binds-append, binds-cons}
use Rattle.move_code.specs.LaidOut.{IsLaidOut}

module _ (l : Inputs) (is : IsLaidOut l) where
  claim_order : l.kind.from ≤ end l.atom
  claim_order = omega (arith, is.time, is.line, is.anchor, is.atom)

  goal_order : l.white_line.from ≤ end l.white_time
  goal_order = omega (arith, is.white_anchor, is.white_time)

  binds-claim : BindsUpTo (claim_blocks l) l.kind.from (l.inputs + 1)
  binds-claim =
      binds-cons (block Exists (from_to l.kind l.atom)) _ l.white_line.from _ (omega (arith, claim_order, is.white_line))
      (binds-cons (block All (from_to l.white_line l.white_time)) _ l.refuting.from _ (omega (arith, goal_order, is.refuting))
      (binds-cons (block Exists l.refuting) _ l.place.from _ is.place
      (binds-cons (block All l.place) _ (l.inputs + 1) _ is.last (binds-none (l.inputs + 1) (l.inputs + 1) refl))))

  pub blocks_cover : Cover (blocks l) l.inputs
  blocks_cover =
      let all : l.inputs + 1 - 1 ≡ l.inputs = omega arith in
      subst (Cover (blocks l)) all (binds-append (plies_blocks l.plies) (claim_blocks l) 1 l.kind.from (l.inputs + 1) (record { order = is.low; variables = is.plies }) binds-claim).variables
