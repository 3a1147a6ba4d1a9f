use Rattle.std.proofs.Common.{inr, ◌∙◌}
use Rattle.io_edge.specs.declared.sink.SinkEnd.TheVariants.{Failed, NoMemory}
use Rattle.game_play.proofs.Rounding.{told_so, front_so, front_left}
use Rattle.game_play.proofs.playing.play.Goals as goal

pub returns-in-Ok-clause-told : goal.returns-in-Ok-clause-told
returns-in-Ok-clause-told g c = inr (c.rounds.ensures.began ∙ c.begin.ensures.began, told_so c.args.setup.now c.args.nodes.now _ _ _ c.in-Ok.end c.in-Ok.ensures.told c.in-Ok.ensures.end)

pub returns-in-Err-Failed-clause-told : goal.returns-in-Err-Failed-clause-told
returns-in-Err-Failed-clause-told g c = inr (c.rounds.ensures.began ∙ c.begin.ensures.began, front_so c.args.setup.now c.args.nodes.now _ _ _ Failed c.in-Err-Failed.ensures.told)

pub returns-in-Err-Failed-clause-left : goal.returns-in-Err-Failed-clause-left
returns-in-Err-Failed-clause-left g c numbers is = inr (front_left c.args.setup.now c.args.nodes.now _ numbers _ _ _ _ _ Failed _ c.in-Err-Failed.ensures.told c.begin.ensures.left is c.in-Err-Failed.ensures.left)

pub returns-clause-told : goal.returns-clause-told
returns-clause-told g c = inr (c.rounds.ensures.began ∙ c.begin.ensures.began, front_so c.args.setup.now c.args.nodes.now _ _ _ NoMemory c.in-Err-NoMemory.ensures.told)

pub returns-clause-left : goal.returns-clause-left
returns-clause-left g c numbers is = inr (front_left c.args.setup.now c.args.nodes.now _ numbers _ _ _ _ _ NoMemory _ c.in-Err-NoMemory.ensures.told c.begin.ensures.left is c.in-Err-NoMemory.ensures.left)
