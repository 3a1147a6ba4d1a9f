use Rattle.std.proofs.Common.{ap, ◌∙◌, if◌then◌else◌}
use Rattle.qbf_store.specs.Constraints.{Constraints, holds, times}
use Rattle.qbf_store.specs.Rows.{row, row_of}
use Rattle.qbf_store.proofs.Listed.{each_live}
use Rattle.qbf_store.proofs.store.Store.with.Goals as goal

pub returns-clause-live : goal.returns-clause-live
returns-clause-live c =
    let rows = c.self.inside.holders.rows.items in
    each_live c.args.self.now c.args.literal c.row.result.now (λ id. ap (λ ids. times id ids) (c.row.ensures ∙ ap (λ p. row rows (row_of p c.args.literal)) c.prefix.ensures)
    ∙ c.self.invariant.held c.args.literal id ∙ ap (λ (s : Constraints). if holds s c.args.literal id then 1 else 0) c.self.view_is)
