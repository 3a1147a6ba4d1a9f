use Rattle.std.proofs.Common.{ap, ◌∙◌}
use Rattle.symbol_cell.proofs.Steps.{cells_stay, action_shown}
use Rattle.symbol_cell.proofs.step.put_action.Goals as goal

pub put_effects-requires-clause-cells : goal.put_effects-requires-clause-cells
put_effects-requires-clause-cells c = cells_stay _ c.args.dag.now c.equal_const.new.dag c.args.cells c.in_ok-named.ensures.grows c.requires.cells

pub returns-clause-shown : goal.returns-clause-shown
returns-clause-shown c = action_shown _ c.args.number c.args.dag.now c.equal_const.new.dag c.put_effects.new.dag c.args.action.now c.args.effects.now c.in_ok-named.named c.args.cells c.args.before c.put_effects.result
    c.in_ok-named.ensures.grows c.requires.cells c.requires.before c.in_ok-named.ensures.value c.put_effects.ensures.shown
