use Rattle.std.proofs.Common.{◌*◌, ◌&&◌, nat_le, List, length, refl, sym, subst, ap, ap₂, ◌∙◌, arith}
use Rattle.std.specs.List.{sum_by}
use Rattle.bddl_model.specs.declared.circuit.Wire.{Wire}
use Rattle.bddl_model.specs.declared.game.PlyBits.{PlyBits}
use Rattle.bddl_model.specs.Encoding.{number_in}
use Rattle.bddl_model.specs.Layout.{Inputs, anchor_bits}
use Rattle.bddl_model.specs.Words.{AreWires, word_value}
use Rattle.bddl_model.proofs.Growth.{grows_then, makes_after}
use Rattle.bddl_model.proofs.WireWords.{word_stays, value_kept}
use Rattle.symbol_cell.specs.Runs.{place_named}
use Rattle.symbol_cell.specs.Steps.{unit}
use Rattle.symbol_cell.proofs.Following.{stands_kept}
use Rattle.lifted_encode.specs.Telling.{marks_of, plies_pass, own_parts}
use Rattle.lifted_encode.proofs.Kept.{outcome_kept}
use Rattle.lifted_encode.proofs.Laid.{laid_stays}
use Rattle.lifted_encode.proofs.Reading.{carried_length, carried_number, few_times}
use Rattle.lifted_encode.proofs.Turns.{place_told, marks_kept}
use Rattle.lifted_encode.proofs.conditions.conditions.Goals as goal

pub is_played-requires-clause-short : goal.is_played-requires-clause-short
is_played-requires-clause-short c =
    let len = carried_length c.args.dag.now _ c.in_ok-time.time.items c.in_ok-time.ensures in
    let span = ap (λ (t : Inputs). t.time.len) c.layout.view_is in
    let few = few_times c.args.depth (omega arith) in
    omega (arith, len, span, few, c.requires.laid.time.1, ap length c.deref-2.ensures.value)

pub outcome_holds-requires-clause-laid : goal.outcome_holds-requires-clause-laid
outcome_holds-requires-clause-laid c = laid_stays _ c.args.game.now c.args.depth c.args.dag.now c.is_played.new.dag c.args.layout.now c.in_ok-played.ensures.grows c.requires.laid

pub outcome_holds-requires-clause-time : goal.outcome_holds-requires-clause-time
outcome_holds-requires-clause-time c = subst (AreWires c.is_played.new.dag) (sym c.deref-3.ensures.value) (word_stays _ c.args.dag.now c.is_played.new.dag c.in_ok-time.time.items c.in_ok-played.ensures.grows c.in_ok-time.ensures.wires)

pub outcome_holds-requires-clause-time_bits : goal.outcome_holds-requires-clause-time_bits
outcome_holds-requires-clause-time_bits c =
    ap length c.deref-3.ensures.value ∙ carried_length c.args.dag.now _ c.in_ok-time.time.items c.in_ok-time.ensures ∙ ap (λ (t : Inputs). t.time.len) c.layout.view_is

pub outcome_holds-requires-clause-run : goal.outcome_holds-requires-clause-run
outcome_holds-requires-clause-run c = (c.requires.run.0, stands_kept c.args.game.now _ c.args.dag.now c.is_played.new.dag c.in_ok-played.ensures.grows c.args.run.now c.requires.run.0 c.requires.run.1)

pub returns : goal.returns
returns c =
    let g = c.args.game.now in
    let l = c.args.layout.now in
    let r = c.args.run.now in
    let dag = c.args.dag.now in
    let next = c.is_played.new.dag in
    let played = c.in_ok-played.ensures in
    let outcome = c.in_ok-outcome.ensures in
    let word = c.in_ok-time.time.items in
    let plies = c.deref.ensures.value ∙ ap (λ (t : Inputs). t.plies) c.layout.view_is in
    let gates = ap (λ (ps : List PlyBits). unit (anchor_bits g) * sum_by (own_parts g) ps) plies in
    makes_after (grows_then played.grows outcome.grows) c.and.ensures.made (omega (arith, gates)) (λ a.
    let place = place_named g dag a r.place in
    let number = carried_number dag _ word a c.in_ok-time.ensures ∙ ap (λ (t : Inputs). number_in a t.time) c.layout.view_is in
    let now = ap (λ (ws : List Wire). word_value dag ws a) c.deref-2.ensures.value ∙ number in
    let then_ = ap (λ (ws : List Wire). word_value next ws a) c.deref-3.ensures.value ∙ value_kept _ dag next word a played.grows c.in_ok-time.ensures.wires ∙ number in
    ap₂ (λ x y. x && y)
    (outcome.grows.kept c.in_ok-played.played a played.wire
    ∙ played.value a
    ∙ ap₂ (λ n (ps : List PlyBits). nat_le n c.args.depth && plies_pass g a n place (marks_of dag r a) 0 ps) now plies)
    (outcome.value a
    ∙ outcome_kept g a (word_value next c.deref-3.result.now a) (number_in a l.time) (place_named g next a r.place) place (marks_of next r a) (marks_of dag r a) then_
    (place_told g _ dag next r c.requires.run.0 played.grows c.requires.run.1 r.place a refl)
    (λ i. marks_kept g _ dag next r c.requires.run.0 played.grows c.requires.run.1 i a) c.args.depth l))
