use Rattle.cert_checker.proofs.Entries.{answer_kept}
use Rattle.cert_checker.proofs.naming.name_answers.Goals as goal

pub name_one-requires-clause-answer : goal.name_one-requires-clause-answer
name_one-requires-clause-answer c =
    answer_kept c.args.setup.now c.args.node _ _ _ _ _ _ c.loop-answer.invariant.len c.loop-answer.invariant.here (c.requires.answers c.loop-answer.answer-index _ c.loop-answer-test.true)
