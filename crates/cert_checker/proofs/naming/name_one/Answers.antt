use Rattle.cert_checker.proofs.Entries.{table_with_answer, place_in_kept}
use Rattle.cert_checker.proofs.naming.name_one.Goals as goal

pub returns-clause-table : goal.returns-clause-table
returns-clause-table c =
    table_with_answer c.args.setup.now c.args.table.now c.args.node _ _ c.args.answer c.after_naming-known.result c.requires.table c.requires.named c.requires.answer.later c.requires.answer.inside c.requires.place c.requires.answer.may c.after_naming-known.ensures.known

pub returns-clause-place : goal.returns-clause-place
returns-clause-place c = place_in_kept c.args.setup.now c.args.table.now c.args.answer.next.0 c.args.node c.after_naming-known.result c.requires.table c.requires.answer.later
