use Rattle.symbol_cell.proofs.FewGates.{few_start, few_step}
use Rattle.symbol_cell.proofs.laws.takes_few_gates.Goals as goal

pub returns-clause-start : goal.returns-clause-start
returns-clause-start c board is of = few_start c.args.game.now board c.keeps_the_limits.ensures is

pub returns-clause-step : goal.returns-clause-step
returns-clause-step c side = few_step c.args.game.now side c.keeps_the_limits.ensures
