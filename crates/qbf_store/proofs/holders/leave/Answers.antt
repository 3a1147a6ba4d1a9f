use Rattle.std.proofs.Common.{arith, ◌<◌, length, slice_get, sym, ap, ◌∙◌}
use Rattle.std.specs.List.{swap_remove}
use Rattle.std.proofs.lemmas.List.{get_or_default}
use Rattle.qbf_store.specs.Constraints.{times}
use Rattle.qbf_store.proofs.RowWrites.{left_row, absent_row}
use Rattle.qbf_store.proofs.holders.leave.Goals as goal

pub returns-in-Some-clause-rows : goal.returns-in-Some-clause-rows
returns-in-Some-clause-rows c =
    let rows = c.args.rows.now.items in
    let within : c.args.number < length rows = omega (arith, c.args.rows.now.ok.0) in
    let same = c.deref.ensures.value ∙ ap (λ r. r.items) (c.index.ensures ∙ get_or_default rows c.args.number c.index.result.now c.index_mut.result.now within) in
    left_row rows c.args.number c.in-Some.place c.index_mut.result.now c.swap_remove.new.self c.args.id c.swap_remove.result within
    (ap (λ ids. slice_get ids c.in-Some.place) (sym same) ∙ c.in-Some.ensures)
    (c.swap_remove.ensures.items ∙ ap (λ r. swap_remove r.items c.in-Some.place c.swap_remove.result) c.index_mut.ensures.value)

pub returns-in_default-clause-rows : goal.returns-in_default-clause-rows
returns-in_default-clause-rows c =
    absent_row c.args.rows.now.items c.args.number c.index.result.now c.args.id (omega (arith, c.args.rows.now.ok.0))
    (ap (λ ids. times c.args.id ids) (sym (c.deref.ensures.value ∙ ap (λ r. r.items) c.index.ensures)) ∙ c.in_default.ensures)
