use Rattle.std.proofs.Common.{◌*◌, length, sym, subst, ap, ap₂, ◌∙◌, arith}
use Rattle.bddl_model.specs.Circuit.{holds}
use Rattle.bddl_model.specs.Exact.{IsExact}
use Rattle.bddl_model.specs.Layout.{Inputs, anchor_bits, blocks, prefix_of}
use Rattle.symbol_cell.specs.Steps.{unit}
use Rattle.lifted_encode.specs.Encoded.{setup_of}
use Rattle.lifted_encode.specs.Followed.{run_parts}
use Rattle.lifted_encode.specs.Joined.{condition_parts}
use Rattle.lifted_encode.proofs.Laid.{layout_is_laid, laid_stays}
use Rattle.lifted_encode.proofs.Meaning.{counted, meets}
use Rattle.lifted_encode.proofs.Shares.{gates_are_few, split_gates}
use Rattle.lifted_encode.proofs.lifted.encode.Goals as goal

pub follow-requires-clause-laid : goal.follow-requires-clause-laid
follow-requires-clause-laid c =
    layout_is_laid c.args.game.now c.args.first c.args.depth c.in_ok-dag.dag c.in_ok-layout.layout c.keeps_the_limits.ensures c.in_ok-layout.ensures
    (c.in_ok-dag.ensures.inputs ∙ ap (λ (t : Inputs). t.inputs) c.layout.view_is)

pub follow-requires-clause-room : goal.follow-requires-clause-room
follow-requires-clause-room c =
    let g = c.args.game.now in
    let board = c.args.board.now.marks in
    let l = c.in_ok-layout.layout in
    let s = setup_of g board c.args.first c.args.depth in
    let size = c.keeps_the_size.ensures.marks ∙ ap₂ (λ h w. h * w) c.requires.board.1 c.requires.board.0 in
    let gates = c.sizes_have_limits.ensures.gates s c.keeps_the_limits.ensures size c.requires.depth in
    let inputs = c.sizes_have_limits.ensures.inputs s c.keeps_the_limits.ensures c.requires.depth in
    let few = gates_are_few g board c.args.first c.args.depth l c.in_ok-layout.ensures in
    let split = split_gates (unit (anchor_bits g)) (run_parts g board l.plies) (condition_parts g c.args.depth l.plies) in
    let first = c.in_ok-dag.ensures.inputs ∙ ap (λ (t : Inputs). t.inputs) (c.layout.view_is ∙ c.in_ok-layout.ensures) in
    omega (arith, gates, inputs, few, split, first, ap length c.in_ok-dag.ensures.gates)

pub conditions-requires-clause-laid : goal.conditions-requires-clause-laid
conditions-requires-clause-laid c =
    laid_stays _ c.args.game.now c.args.depth c.in_ok-dag.dag c.follow.new.dag c.in_ok-layout.layout c.in_ok-run.ensures.grows
    (layout_is_laid c.args.game.now c.args.first c.args.depth c.in_ok-dag.dag c.in_ok-layout.layout c.keeps_the_limits.ensures c.in_ok-layout.ensures
    (c.in_ok-dag.ensures.inputs ∙ ap (λ (t : Inputs). t.inputs) c.layout.view_is))

pub conditions-requires-clause-count : goal.conditions-requires-clause-count
conditions-requires-clause-count c =
    let s = setup_of c.args.game.now c.args.board.now.marks c.args.first c.args.depth in
    let laid = layout_is_laid c.args.game.now c.args.first c.args.depth c.in_ok-dag.dag c.in_ok-layout.layout c.keeps_the_limits.ensures c.in_ok-layout.ensures (c.in_ok-dag.ensures.inputs ∙ ap (λ (t : Inputs). t.inputs) c.layout.view_is) in
    counted s c.in_ok-layout.layout c.in_ok-run.run' c.follow.new.dag c.in_ok-layout.ensures c.in_ok-run.ensures.place c.in_ok-run.ensures.plies laid.count

pub conditions-requires-clause-room : goal.conditions-requires-clause-room
conditions-requires-clause-room c =
    let g = c.args.game.now in
    let board = c.args.board.now.marks in
    let l = c.in_ok-layout.layout in
    let s = setup_of g board c.args.first c.args.depth in
    let size = c.keeps_the_size.ensures.marks ∙ ap₂ (λ h w. h * w) c.requires.board.1 c.requires.board.0 in
    let gates = c.sizes_have_limits.ensures.gates s c.keeps_the_limits.ensures size c.requires.depth in
    let inputs = c.sizes_have_limits.ensures.inputs s c.keeps_the_limits.ensures c.requires.depth in
    let few = gates_are_few g board c.args.first c.args.depth l c.in_ok-layout.ensures in
    let split = split_gates (unit (anchor_bits g)) (run_parts g board l.plies) (condition_parts g c.args.depth l.plies) in
    let first = c.in_ok-dag.ensures.inputs ∙ ap (λ (t : Inputs). t.inputs) (c.layout.view_is ∙ c.in_ok-layout.ensures) in
    omega (arith, gates, inputs, few, split, first, ap length c.in_ok-dag.ensures.gates, c.in_ok-run.ensures.grows.room)

pub returns-clause-meaning : goal.returns-clause-meaning
returns-clause-meaning c =
    let s = setup_of c.args.game.now c.args.board.now.marks c.args.first c.args.depth in
    let laid = layout_is_laid c.args.game.now c.args.first c.args.depth c.in_ok-dag.dag c.in_ok-layout.layout c.keeps_the_limits.ensures c.in_ok-layout.ensures (c.in_ok-dag.ensures.inputs ∙ ap (λ (t : Inputs). t.inputs) c.layout.view_is) in
    meets s c.in_ok-layout.layout c.in_ok-run.run' c.follow.new.dag c.in_ok-layout.ensures c.in_ok-run.ensures.place c.in_ok-run.ensures.plies c.in_ok-run.ensures.stands c.keeps_its_moments.ensures laid.count
    c.in_ok-out.out c.conditions.new.dag laid.place.1 c.in_ok-out.ensures.value

pub returns-clause-exact : goal.returns-clause-exact
returns-clause-exact c =
    let s = setup_of c.args.game.now c.args.board.now.marks c.args.first c.args.depth in
    let laid = layout_is_laid c.args.game.now c.args.first c.args.depth c.in_ok-dag.dag c.in_ok-layout.layout c.keeps_the_limits.ensures c.in_ok-layout.ensures (c.in_ok-dag.ensures.inputs ∙ ap (λ (t : Inputs). t.inputs) c.layout.view_is) in
    let met = meets s c.in_ok-layout.layout c.in_ok-run.run' c.follow.new.dag c.in_ok-layout.ensures c.in_ok-run.ensures.place c.in_ok-run.ensures.plies c.in_ok-run.ensures.stands c.keeps_its_moments.ensures laid.count
    c.in_ok-out.out c.conditions.new.dag laid.place.1 c.in_ok-out.ensures.value in
    subst (λ prefix. IsExact prefix (holds c.conditions.new.dag c.in_ok-out.out) s)
    (sym (ap prefix_of (c.in_ok-blocks.ensures.blocks ∙ ap blocks c.in_ok-layout.ensures)))
    (c.served_claims_are_exact.ensures.inputs s (holds c.conditions.new.dag c.in_ok-out.out) met)

pub returns-clause-small : goal.returns-clause-small
returns-clause-small c =
    let g = c.args.game.now in
    let board = c.args.board.now.marks in
    let l = c.in_ok-layout.layout in
    let few = gates_are_few g board c.args.first c.args.depth l c.in_ok-layout.ensures in
    let split = split_gates (unit (anchor_bits g)) (run_parts g board l.plies) (condition_parts g c.args.depth l.plies) in
    omega (arith, few, split, ap length c.in_ok-dag.ensures.gates, c.in_ok-run.ensures.grows.room, c.in_ok-out.ensures.grows.room, c.in_ok-run.ensures.grows.inputs, c.in_ok-out.ensures.grows.inputs)
