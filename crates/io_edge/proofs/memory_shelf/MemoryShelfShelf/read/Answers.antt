use Rattle.std.proofs.Common.{rules, ◌≡◌, [], true, Err}
use Rattle.std.specs.FinMap.{get}
use Rattle.io_edge.specs.Fakes.{read_fails}
use Rattle.io_edge.specs.declared.shelf.ShelfEnd.TheVariants as shelf
use Rattle.io_edge.proofs.Calls.{calm_misses, nothing_delivered}
use Rattle.io_edge.proofs.memory_shelf.MemoryShelfShelf.read.Goals as goal

pub returns-in_err-extend_from_slice-clause-err : goal.returns-in_err-extend_from_slice-clause-err
returns-in_err-extend_from_slice-clause-err c =
    let nothing : c.extend_from_slice.new.self.items ≡ [] = search rules in
    nothing_delivered c.from_residual.result (get c.args.self.now.files c.args.name.now) c.extend_from_slice.new.self.items nothing

pub returns-clause-err : goal.returns-clause-err
returns-clause-err c =
    nothing_delivered {T = Unit} (Err shelf.Failed) (get c.args.self.now.files c.args.name.now) c.args.into.now.items c.requires.empty

pub returns-clause-calm_cause : goal.returns-clause-calm_cause
returns-clause-calm_cause c calm failed =
    let fails : read_fails c.args.self.now c.args.name.now ≡ true = search rules in
    calm_misses c.args.self.now c.args.name.now calm fails
