use Rattle.std.proofs.Common.{◌≡◌, ◌≤◌, ◌*◌, length, sym, subst, ap, ap₂, ◌∙◌, arith}
use Rattle.std.specs.List.{sum_by}
use Rattle.bddl_model.specs.Bits.{bits}
use Rattle.bddl_model.specs.Layout.{anchor_bits}
use Rattle.bddl_model.specs.Words.{AreWires}
use Rattle.bddl_model.proofs.WireWords.{word_stays}
use Rattle.symbol_cell.specs.Starts.{filled, cell_gates}
use Rattle.part_tests.proofs.cells.marks_of_run.Goals as goal

pub step-requires-clause-code : goal.step-requires-clause-code
step-requires-clause-code c = subst (AreWires c.start.new.dag) (sym c.deref-2.ensures.value) (word_stays _ c.in_ok-dag.dag c.start.new.dag c.in_ok-one.one.items c.start.ensures.grows c.in_ok-one.ensures.wires)

pub step-requires-clause-room : goal.step-requires-clause-room
step-requires-clause-room c =
    let count : length c.deref.result.now ≡ anchor_bits c.args.game.now =
    omega (arith, ap length c.deref.ensures.value, c.in_ok-place.ensures.length, c.bits.ensures.value, c.bits-2.ensures.value, ap bits c.width.ensures.value, ap bits c.height.ensures.value) in
    let start = subst (λ n. cell_gates n * sum_by filled c.args.board.now.marks ≤ 114688) (sym count) (c.takes_few_gates.ensures.start c.args.board.now c.keeps_the_size.ensures c.requires) in
    omega (arith, c.in_ok-dag.ensures.inputs, ap length c.in_ok-dag.ensures.gates, c.start.ensures.grows.room, start, c.takes_few_gates.ensures.step c.args.first)

pub step-requires-2-clause-stands : goal.step-requires-2-clause-stands
step-requires-2-clause-stands c = (c.args.board.now.marks, c.in_ok-step.ensures.stands c.args.board.now.marks c.in_ok-run.ensures.stands)

pub step-requires-2-clause-code : goal.step-requires-2-clause-code
step-requires-2-clause-code c =
    subst (AreWires c.step.new.dag) (sym c.deref-3.ensures.value)
    (word_stays _ c.start.new.dag c.step.new.dag c.in_ok-other.other.items c.step.ensures.grows (word_stays _ c.in_ok-dag.dag c.start.new.dag c.in_ok-other.other.items c.start.ensures.grows c.in_ok-other.ensures.wires))

pub step-requires-2-clause-room : goal.step-requires-2-clause-room
step-requires-2-clause-room c =
    let count : length c.deref.result.now ≡ anchor_bits c.args.game.now =
    omega (arith, ap length c.deref.ensures.value, c.in_ok-place.ensures.length, c.bits.ensures.value, c.bits-2.ensures.value, ap bits c.width.ensures.value, ap bits c.height.ensures.value) in
    let start = subst (λ n. cell_gates n * sum_by filled c.args.board.now.marks ≤ 114688) (sym count) (c.takes_few_gates.ensures.start c.args.board.now c.keeps_the_size.ensures c.requires) in
    omega (arith, c.in_ok-dag.ensures.inputs, ap length c.in_ok-dag.ensures.gates, c.start.ensures.grows.room, c.step.ensures.grows.room, start, c.takes_few_gates.ensures.step c.args.first, c.takes_few_gates.ensures.step c.opponent-second.result)
