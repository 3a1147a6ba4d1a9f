use Rattle.std.proofs.Common.{◌*◌, All, List, sym, subst, ap, ◌∙◌, arith}
use Rattle.std.specs.List.{sum_by}
use Rattle.bddl_model.specs.declared.circuit.Wire.{Wire}
use Rattle.bddl_model.specs.declared.game.PlyBits.{PlyBits}
use Rattle.bddl_model.specs.Layout.{Inputs, anchor_bits}
use Rattle.bddl_model.proofs.Growth.{grows_then, grows_within}
use Rattle.symbol_cell.specs.Coded.{Carries}
use Rattle.symbol_cell.specs.Starts.{filled, cell_gates}
use Rattle.symbol_cell.specs.Steps.{unit}
use Rattle.lifted_encode.specs.Followed.{CarryPlies, step_parts}
use Rattle.lifted_encode.specs.Telling.{IsPlyOf}
use Rattle.lifted_encode.proofs.Carrying.{carries_stay}
use Rattle.lifted_encode.proofs.Laid.{plies_stay}
use Rattle.lifted_encode.proofs.Reading.{slice_length}
use Rattle.lifted_encode.proofs.Shares.{start_within}
use Rattle.lifted_encode.proofs.run.follow.Goals as goal

pub start-requires-clause-place_bits : goal.start-requires-clause-place_bits
start-requires-clause-place_bits c =
    slice_length c.args.dag.now _ c.args.layout.now.place c.in_ok-place.place.items c.deref.result.now _ c.deref.ensures.value c.in_ok-place.ensures (ap (λ (t : Inputs). t.place) c.layout.view_is) c.requires.laid.place.1

pub start-requires-clause-room : goal.start-requires-clause-room
start-requires-clause-room c =
    let long = slice_length c.args.dag.now _ c.args.layout.now.place c.in_ok-place.place.items c.deref.result.now _ c.deref.ensures.value c.in_ok-place.ensures (ap (λ (t : Inputs). t.place) c.layout.view_is) c.requires.laid.place.1 in
    let cells = ap (λ n. cell_gates n * sum_by filled c.args.board.now.marks) long in
    omega (arith, c.requires.room, cells, start_within (anchor_bits c.args.game.now) (sum_by filled c.args.board.now.marks) (sum_by (step_parts c.args.game.now) c.args.layout.now.plies))

pub returns-in_err-run-clause-grows : goal.returns-in_err-run-clause-grows
returns-in_err-run-clause-grows c =
    let cells = ap (λ n. cell_gates n * sum_by filled c.args.board.now.marks) (slice_length c.args.dag.now _ c.args.layout.now.place c.in_ok-place.place.items c.deref.result.now _ c.deref.ensures.value c.in_ok-place.ensures (ap (λ (t : Inputs). t.place) c.layout.view_is) c.requires.laid.place.1) in
    grows_within c.start.ensures.grows (omega (arith, cells, start_within (anchor_bits c.args.game.now) (sum_by filled c.args.board.now.marks) (sum_by (step_parts c.args.game.now) c.args.layout.now.plies)))

pub follow_plies-requires-clause-plies : goal.follow_plies-requires-clause-plies
follow_plies-requires-clause-plies c =
    let plies = c.deref-2.ensures.value ∙ ap (λ (t : Inputs). t.plies) c.layout.view_is in
    let g = c.args.game.now in
    subst (λ (ps : List PlyBits). All (IsPlyOf g c.start.new.dag) ps) (sym plies) (plies_stay _ g c.args.dag.now c.start.new.dag c.args.layout.now.plies c.start.ensures.grows c.requires.laid.plies)

pub follow_plies-requires-clause-room : goal.follow_plies-requires-clause-room
follow_plies-requires-clause-room c =
    let g = c.args.game.now in
    let cells = ap (λ n. cell_gates n * sum_by filled c.args.board.now.marks) (slice_length c.args.dag.now _ c.args.layout.now.place c.in_ok-place.place.items c.deref.result.now _ c.deref.ensures.value c.in_ok-place.ensures (ap (λ (t : Inputs). t.place) c.layout.view_is) c.requires.laid.place.1) in
    let plies = ap (λ (ps : List PlyBits). unit (anchor_bits g) * sum_by (step_parts g) ps) (c.deref-2.ensures.value ∙ ap (λ (t : Inputs). t.plies) c.layout.view_is) in
    omega (arith, c.requires.room, c.start.ensures.grows.room, cells, plies, start_within (anchor_bits g) (sum_by filled c.args.board.now.marks) (sum_by (step_parts g) c.args.layout.now.plies))

pub returns-in_err-follow_plies-clause-grows : goal.returns-in_err-follow_plies-clause-grows
returns-in_err-follow_plies-clause-grows c =
    let g = c.args.game.now in
    let cells = ap (λ n. cell_gates n * sum_by filled c.args.board.now.marks) (slice_length c.args.dag.now _ c.args.layout.now.place c.in_ok-place.place.items c.deref.result.now _ c.deref.ensures.value c.in_ok-place.ensures (ap (λ (t : Inputs). t.place) c.layout.view_is) c.requires.laid.place.1) in
    let plies = ap (λ (ps : List PlyBits). unit (anchor_bits g) * sum_by (step_parts g) ps) (c.deref-2.ensures.value ∙ ap (λ (t : Inputs). t.plies) c.layout.view_is) in
    grows_within (grows_then c.start.ensures.grows c.follow_plies.ensures.grows) (omega (arith, cells, plies, start_within (anchor_bits g) (sum_by filled c.args.board.now.marks) (sum_by (step_parts g) c.args.layout.now.plies)))

pub returns-clause-place : goal.returns-clause-place
returns-clause-place c =
    let same = c.in_ok-follow_plies.ensures.place ∙ c.in_ok-run.ensures.place ∙ c.deref.ensures.value in
    let span = ap (λ (t : Inputs). t.place) c.layout.view_is in
    let start = carries_stay _ c.args.dag.now c.start.new.dag _ c.in_ok-place.place.items c.start.ensures.grows c.in_ok-place.ensures in
    let here = carries_stay _ c.start.new.dag c.follow_plies.new.dag _ c.in_ok-place.place.items c.follow_plies.ensures.grows start in
    subst (λ (ws : List Wire). Carries c.follow_plies.new.dag c.args.layout.now.place ws) (sym same) (subst (λ s. Carries c.follow_plies.new.dag s c.in_ok-place.place.items) span here)

pub returns-clause-plies : goal.returns-clause-plies
returns-clause-plies c =
    let plies = c.deref-2.ensures.value ∙ ap (λ (t : Inputs). t.plies) c.layout.view_is in
    subst (λ (ps : List PlyBits). CarryPlies c.follow_plies.new.dag ps c.follow_plies.new.run.plies) plies c.in_ok-follow_plies.ensures.plies

pub returns-clause-grows : goal.returns-clause-grows
returns-clause-grows c =
    let g = c.args.game.now in
    let cells = ap (λ n. cell_gates n * sum_by filled c.args.board.now.marks) (slice_length c.args.dag.now _ c.args.layout.now.place c.in_ok-place.place.items c.deref.result.now _ c.deref.ensures.value c.in_ok-place.ensures (ap (λ (t : Inputs). t.place) c.layout.view_is) c.requires.laid.place.1) in
    let plies = ap (λ (ps : List PlyBits). unit (anchor_bits g) * sum_by (step_parts g) ps) (c.deref-2.ensures.value ∙ ap (λ (t : Inputs). t.plies) c.layout.view_is) in
    grows_within (grows_then c.start.ensures.grows c.in_ok-follow_plies.ensures.grows) (omega (arith, cells, plies, start_within (anchor_bits g) (sum_by filled c.args.board.now.marks) (sum_by (step_parts g) c.args.layout.now.plies)))
