use Rattle.std.proofs.Common.{arith}
use Rattle.qbf_search.proofs.TailRows.{row_pushed}
use Rattle.qbf_search.proofs.tail.add_to_row.Goals as goal

pub returns-clause-rows : goal.returns-clause-rows
returns-clause-rows c = λ i.
    row_pushed c.args.rows.now.items c.args.place c.index_mut.result.now c.push.new.self c.args.literal i (omega arith) c.index_mut.ensures.value c.in_ok-push.ensures.items
