use Rattle.std.proofs.Common.{◌≤◌, ◌+◌, ◌||◌, not, nat_lt, List, length, sym, subst, ap, ap₂, ◌∙◌, rules, arith}
use Rattle.bddl_model.specs.declared.circuit.Wire.{Wire}
use Rattle.bddl_model.specs.Bits.{bits}
use Rattle.bddl_model.specs.Encoding.{number_in}
use Rattle.bddl_model.specs.Layout.{Inputs}
use Rattle.bddl_model.specs.Words.{AreWires, word_value}
use Rattle.bddl_model.proofs.Growth.{grows_then, grows_within, makes_after}
use Rattle.bddl_model.proofs.WireWords.{word_stays, value_kept}
use Rattle.symbol_cell.specs.Runs.{place_named}
use Rattle.lifted_encode.specs.Joined.{attack_stands}
use Rattle.lifted_encode.specs.Telling.{marks_of}
use Rattle.lifted_encode.proofs.Reading.{carried_length, carried_number, few_times, white_times}
use Rattle.lifted_encode.proofs.conditions.is_answered.Goals as goal

pub attack_stands-requires-clause-short : goal.attack_stands-requires-clause-short
attack_stands-requires-clause-short c =
    let len = carried_length c.args.dag.now _ c.in_ok-attack.attack.items c.in_ok-attack.ensures in
    let span = ap (λ (t : Inputs). t.white_time.len) c.layout.view_is in
    let some : 1 ≤ length c.args.game.now.white_lines = omega (arith, c.lines.ensures, c.if-lines-eq0) in
    let times = white_times c.args.game.now.white_lines (bits (c.args.depth + 1)) some in
    let few = few_times c.args.depth (omega arith) in
    omega (arith, len, span, c.requires.laid.white_time.1, times, few, ap length c.deref.ensures.value)

pub less-requires-clause-a : goal.less-requires-clause-a
less-requires-clause-a c = subst (AreWires c.attack_stands.new.dag) (sym c.deref-2.ensures.value) (word_stays _ c.args.dag.now c.attack_stands.new.dag c.in_ok-attack.attack.items c.in_ok-stands.ensures.grows c.in_ok-attack.ensures.wires)

pub less-requires-clause-b : goal.less-requires-clause-b
less-requires-clause-b c = word_stays _ c.args.dag.now c.attack_stands.new.dag c.args.time.now c.in_ok-stands.ensures.grows c.requires.time

pub less-requires-clause-lengths : goal.less-requires-clause-lengths
less-requires-clause-lengths c =
    let len = carried_length c.args.dag.now _ c.in_ok-attack.attack.items c.in_ok-attack.ensures in
    let span = ap (λ (t : Inputs). t.white_time.len) c.layout.view_is in
    let some : 1 ≤ length c.args.game.now.white_lines = omega (arith, c.lines.ensures, c.if-lines-eq0) in
    let times = white_times c.args.game.now.white_lines (bits (c.args.depth + 1)) some in
    omega (arith, len, span, c.requires.laid.white_time.1, times, c.requires.time_bits, c.requires.laid.time.1, ap length c.deref-2.ensures.value)

pub less-requires-clause-room : goal.less-requires-clause-room
less-requires-clause-room c =
    let same = less-requires-clause-lengths c in
    let few = few_times c.args.depth (omega arith) in
    omega (arith, c.requires.room, c.in_ok-stands.ensures.grows.room, same, few, c.requires.time_bits, c.requires.laid.time.1)

pub returns-in_err-earlier : goal.returns-in_err-earlier
returns-in_err-earlier c =
    let few = few_times c.args.depth (omega arith) in
    let len = carried_length c.args.dag.now _ c.in_ok-attack.attack.items c.in_ok-attack.ensures in
    let span = ap (λ (t : Inputs). t.white_time.len) c.layout.view_is in
    let some : 1 ≤ length c.args.game.now.white_lines = omega (arith, c.lines.ensures, c.if-lines-eq0) in
    let times = white_times c.args.game.now.white_lines (bits (c.args.depth + 1)) some in
    record {
      wire = search rules;
      value = search rules;
      grows = grows_within (grows_then c.in_ok-stands.ensures.grows c.less.ensures.grows) (omega (arith, len, span, c.requires.laid.white_time.1, times, few, ap length c.deref-2.ensures.value));
    }

pub or-requires-clause-room : goal.or-requires-clause-room
or-requires-clause-room c =
    let few = few_times c.args.depth (omega arith) in
    let len = carried_length c.args.dag.now _ c.in_ok-attack.attack.items c.in_ok-attack.ensures in
    let span = ap (λ (t : Inputs). t.white_time.len) c.layout.view_is in
    let some : 1 ≤ length c.args.game.now.white_lines = omega (arith, c.lines.ensures, c.if-lines-eq0) in
    let times = white_times c.args.game.now.white_lines (bits (c.args.depth + 1)) some in
    omega (arith, c.requires.room, c.in_ok-stands.ensures.grows.room, c.in_ok-earlier.ensures.grows.room, len, span, c.requires.laid.white_time.1, times, few, ap length c.deref-2.ensures.value)

pub returns : goal.returns
returns c =
    let g = c.args.game.now in
    let l = c.args.layout.now in
    let r = c.args.run.now in
    let dag = c.args.dag.now in
    let next = c.attack_stands.new.dag in
    let stands = c.in_ok-stands.ensures in
    let earlier = c.in_ok-earlier.ensures in
    let few = few_times c.args.depth (omega arith) in
    let word = c.in_ok-attack.attack.items in
    let len = carried_length dag _ word c.in_ok-attack.ensures in
    let span = ap (λ (t : Inputs). t.white_time.len) c.layout.view_is in
    let some : 1 ≤ length g.white_lines = omega (arith, c.lines.ensures, c.if-lines-eq0) in
    let times = white_times g.white_lines (bits (c.args.depth + 1)) some in
    makes_after (grows_then stands.grows earlier.grows) c.or.ensures (omega (arith, len, span, c.requires.laid.white_time.1, times, few, ap length c.deref-2.ensures.value)) (λ a.
    let number = carried_number dag _ word a c.in_ok-attack.ensures ∙ ap (λ (t : Inputs). number_in a t.white_time) c.layout.view_is in
    ap₂ (λ x y. x || y)
    (c.not-refuted.ensures.value a ∙ ap not (earlier.grows.kept c.in_ok-stands.stands a stands.wire ∙ stands.value a
    ∙ ap (λ n. attack_stands g c.args.depth l a n (place_named g dag a r.place) (marks_of dag r a)) (ap (λ (ws : List Wire). word_value dag ws a) c.deref.ensures.value ∙ number)))
    (c.not-later.ensures.value a ∙ ap not (earlier.value a
    ∙ ap₂ nat_lt
    (ap (λ (ws : List Wire). word_value next ws a) c.deref-2.ensures.value ∙ value_kept _ dag next word a stands.grows c.in_ok-attack.ensures.wires ∙ number)
    (value_kept _ dag next c.args.time.now a stands.grows c.requires.time))))
