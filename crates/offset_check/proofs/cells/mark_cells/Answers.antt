use Rattle.std.proofs.Common.{take, sym, ap, ◌∙◌, arith}
use Rattle.std.proofs.Math.Nat.{mul-le-mul}
use Rattle.std.proofs.lemmas.Grind.{common_steps}
use Rattle.offset_check.proofs.CellCounts.{few_cells}
use Rattle.offset_check.proofs.CellFaults.{on_board_more, apart_more, fault_more}
use Rattle.offset_check.proofs.NamedCells.{shows_more}
use Rattle.offset_check.proofs.cells.mark_cells.Goals as goal

pub check_cell-requires : goal.check_cell-requires
check_cell-requires c =
    let passed = few_cells c.width-width.result c.height-height.result (take c.loop-i.i c.args.cells.now) c.loop-i.invariant.on_board c.loop-i.invariant.apart in
    let most = mul-le-mul c.height-height.ensures.limit.1 c.width-width.ensures.limit.1 in
    record { few = omega (arith, passed, most); shows = c.loop-i.invariant.shows }

pub loop-i-preserved : goal.loop-i-preserved
loop-i-preserved c =
    let now = c.loop-i.invariant in
    let passed = c.in_ok-check_cell.ensures in
    let fine = rw (now.named_width, now.named_height) at passed in
    let faults = fault_more c.width-width.result c.height-height.result c.args.cells.now c.loop-i.i _ c.loop-i-test.true fine in
    record {
      on_board = on_board_more c.width-width.result c.height-height.result c.args.cells.now c.loop-i.i _ c.loop-i-test.true fine now.on_board;
      apart = apart_more c.width-width.result c.height-height.result c.args.cells.now c.loop-i.i _ c.loop-i-test.true fine now.apart;
      fault = faults ∙ now.fault;
      named_width = ap (λ b. b.width) c.set.ensures ∙ now.named_width;
      named_height = ap (λ b. b.height) c.set.ensures ∙ now.named_height;
      shows = rw c.set.ensures (shows_more c.loop-i.named c.args.cells.now c.loop-i.i _ c.loop-i-test.true (rw (sym c.named.view_is) c.named.invariant.marks) passed now.shows);
      width = ap (λ b. b.width) c.set-in-loop-i.ensures ∙ now.width;
      height = ap (λ b. b.height) c.set-in-loop-i.ensures ∙ now.height;
      marks = grind (arith, common_steps);
    }
