use Rattle.std.proofs.Common.{arith, ap, ◌∙◌}
use Rattle.qbf_store.specs.Rows.{row}
use Rattle.qbf_store.proofs.RowWrites.{row_is}
use Rattle.qbf_store.proofs.holders.Holders.row.Goals as goal

pub returns : goal.returns
returns c =
    let rows = c.args.self.now.rows.items in
    c.deref.ensures.value ∙ ap (λ r. r.items) c.index.ensures ∙ row_is rows c.row_number.result c.index.result.now (omega (arith, c.args.self.now.rows.ok.0)) ∙ ap (λ n. row rows n) c.row_number.ensures.number
