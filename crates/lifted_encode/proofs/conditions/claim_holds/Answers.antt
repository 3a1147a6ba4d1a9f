use Rattle.std.specs.List.{sum_by}
use Rattle.std.proofs.Common.{◌*◌, List, length, refl, ap, ap₂, ◌∙◌, arith}
use Rattle.bddl_model.specs.declared.circuit.Wire.{Wire}
use Rattle.bddl_model.specs.declared.game.PlyBits.{PlyBits}
use Rattle.bddl_model.specs.Encoding.{number_in}
use Rattle.bddl_model.specs.Layout.{Inputs, anchor_bits}
use Rattle.bddl_model.specs.Words.{word_value}
use Rattle.bddl_model.proofs.Growth.{grows_then, makes_after}
use Rattle.bddl_model.proofs.WireWords.{word_stays, value_kept}
use Rattle.symbol_cell.specs.Runs.{place_named}
use Rattle.symbol_cell.proofs.Following.{stands_kept}
use Rattle.symbol_cell.specs.Steps.{unit}
use Rattle.lifted_encode.specs.Telling.{marks_of, one_refused, refused_parts}
use Rattle.lifted_encode.proofs.Kept.{goal_kept, same_choice}
use Rattle.lifted_encode.proofs.Laid.{laid_stays}
use Rattle.lifted_encode.proofs.Reading.{carried_length, carried_number}
use Rattle.lifted_encode.proofs.Turns.{place_told, marks_kept}
use Rattle.lifted_encode.proofs.conditions.claim_holds.Goals as goal

pub one_refused-requires-clause-test_short : goal.one_refused-requires-clause-test_short
one_refused-requires-clause-test_short c =
    let len = carried_length c.args.dag.now _ c.in_ok-test.test.items c.in_ok-test.ensures in
    let span = ap (λ (t : Inputs). t.atom.len) c.layout.view_is in
    omega (arith, len, span, c.requires.laid.atom.1, ap length c.deref-2.ensures.value)

pub goal_claimed-requires-clause-laid : goal.goal_claimed-requires-clause-laid
goal_claimed-requires-clause-laid c = laid_stays _ c.args.game.now c.args.depth c.args.dag.now c.one_refused.new.dag c.args.layout.now c.in_ok-illegal.ensures.grows c.requires.laid

pub goal_claimed-requires-clause-time : goal.goal_claimed-requires-clause-time
goal_claimed-requires-clause-time c = word_stays _ c.args.dag.now c.one_refused.new.dag c.args.time.now c.in_ok-illegal.ensures.grows c.requires.time

pub goal_claimed-requires-clause-run : goal.goal_claimed-requires-clause-run
goal_claimed-requires-clause-run c = (c.requires.run.0, stands_kept c.args.game.now _ c.args.dag.now c.one_refused.new.dag c.in_ok-illegal.ensures.grows c.args.run.now c.requires.run.0 c.requires.run.1)

pub returns : goal.returns
returns c =
    let g = c.args.game.now in
    let l = c.args.layout.now in
    let r = c.args.run.now in
    let dag = c.args.dag.now in
    let next = c.one_refused.new.dag in
    let illegal = c.in_ok-illegal.ensures in
    let claimed = c.in_ok-goal.ensures in
    let gates = ap (λ (ps : List PlyBits). unit (anchor_bits g) * sum_by (refused_parts g) ps) (c.deref.ensures.value ∙ ap (λ (t : Inputs). t.plies) c.layout.view_is) in
    makes_after (grows_then illegal.grows claimed.grows) c.choose.ensures (omega (arith, gates)) (λ a.
    let time = word_value dag c.args.time.now a in
    let place = place_named g dag a r.place in
    let test = ap (λ (ws : List Wire). word_value dag ws a) c.deref-2.ensures.value ∙ carried_number dag _ c.in_ok-test.test.items a c.in_ok-test.ensures ∙ ap (λ (t : Inputs). number_in a t.atom) c.layout.view_is in
    let plies = c.deref.ensures.value ∙ ap (λ (t : Inputs). t.plies) c.layout.view_is in
    let kind = c.input-kind.ensures.value a ∙ ap (λ (t : Inputs). a t.kind.from) c.layout.view_is in
    let first = claimed.grows.kept c.in_ok-illegal.illegal a illegal.wire ∙ illegal.value a ∙ ap₂ (λ n (ps : List PlyBits). one_refused g a time place (marks_of dag r a) n 0 ps) test plies in
    let second = claimed.value a
    ∙ goal_kept g a (word_value next c.args.time.now a) time (place_named g next a r.place) place (marks_of next r a) (marks_of dag r a)
    (value_kept _ dag next c.args.time.now a illegal.grows c.requires.time)
    (place_told g _ dag next r c.requires.run.0 illegal.grows c.requires.run.1 r.place a refl)
    (λ i. marks_kept g _ dag next r c.requires.run.0 illegal.grows c.requires.run.1 i a) c.args.depth l in
    same_choice kind first second)
