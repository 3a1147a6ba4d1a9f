use Rattle.std.proofs.Common.{ap, ◌∙◌, arith}
use Rattle.bddl_model.specs.Conditions.{passes_at}
use Rattle.symbol_cell.specs.Pairs.{mark_of}
use Rattle.symbol_cell.specs.Steps.{anchor_of, place_of}
use Rattle.lifted_encode.specs.Asking.{placed}
use Rattle.lifted_encode.proofs.Meeting.{opposite_fails}
use Rattle.lifted_encode.proofs.Reading.{makes_as}
use Rattle.lifted_encode.proofs.asked.fails_here.Goals as goal

pub returns : goal.returns
returns c = makes_as c.passes_here.ensures (omega arith) (λ a.
    let spot = c.args.spot in
    let dag = c.args.dag.now in
    ap (λ t. passes_at (place_of dag spot.cells a) (mark_of dag spot.mark a) (placed (anchor_of dag spot.cells a) t)) c.opposite.ensures
    ∙ opposite_fails (place_of dag spot.cells a) (anchor_of dag spot.cells a) (mark_of dag spot.mark a) c.args.test)
