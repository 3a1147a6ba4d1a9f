use Rattle.std.proofs.Common.{◌+◌, ◌*◌, length, arith}
use Rattle.bddl_model.proofs.Growth.{grows_then, grows_within}
use Rattle.symbol_cell.specs.Steps.{unit}
use Rattle.symbol_cell.proofs.Steps.{cells_stay, effect_turn}
use Rattle.symbol_cell.proofs.step.put_effects.Goals as goal

pub put_effect-requires-clause-cells : goal.put_effect-requires-clause-cells
put_effect-requires-clause-cells c = cells_stay _ c.args.dag.now c.effects.dag c.args.cells c.effects.invariant.grows c.requires.cells

pub effects-preserved : goal.effects-preserved
effects-preserved c = record {
  pair = c.in_ok-pair.ensures.pair;
  grows = grows_within (grows_then c.effects.invariant.grows c.in_ok-pair.ensures.grows) (omega arith);
  shown = λ a. effect_turn _ c.effects.effect-index c.args.dag.now c.effects.dag c.put_effect.new.dag c.args.effects.now _ c.args.named c.args.cells c.effects.pair c.in_ok-pair.pair a _
      c.effects.invariant.grows c.requires.named c.requires.cells (omega arith) (c.effects.invariant.shown a) (c.in_ok-pair.ensures.shown a);
}
