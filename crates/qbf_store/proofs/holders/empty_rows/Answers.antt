use Rattle.std.proofs.Common.{arith}
use Rattle.qbf_store.proofs.RowWrites.{empty_push}
use Rattle.qbf_store.proofs.holders.empty_rows.Goals as goal

pub rows-preserved : goal.rows-preserved
rows-preserved c = record {
  room = omega arith;
  count = omega arith;
  empty = λ n. rw c.push_reserved.ensures.items (empty_push c.rows.rows.items c.new.result c.rows.invariant.empty c.new.ensures.items n);
}
