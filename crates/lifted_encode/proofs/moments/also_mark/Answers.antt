use Rattle.std.proofs.Common.{◌&&◌, ◌||◌, ap, ap₂, ◌∙◌, arith}
use Rattle.bddl_model.proofs.Growth.{grows_then, grows_within}
use Rattle.symbol_cell.specs.Pairs.{is_black, is_white}
use Rattle.symbol_cell.proofs.Following.{found_pair}
use Rattle.lifted_encode.proofs.Marking.{black_shown, white_shown}
use Rattle.lifted_encode.proofs.Turns.{mark_told, no_growth}
use Rattle.lifted_encode.proofs.moments.also_mark.Goals as goal

pub returns-clause-black : goal.returns-clause-black
returns-clause-black c =
    let r = c.args.run.now in
    let dag = c.args.dag.now in
    let pair = c.pair_at-pair.result in
    let here = c.in_ok-here.ensures in
    let black = c.in_ok-black.ensures in
    let is = found_pair dag r.pairs c.args.moment pair c.requires.run.1.pairs c.pair_at-pair.ensures in
    λ a.
    c.or_both-2.ensures.grows.kept c.in_ok-black.black a black.wire
    ∙ black.value a
    ∙ ap₂ (λ x y. x || y) (here.grows.kept c.args.known.black a c.requires.known.0)
    (ap₂ (λ x y. x && y) (here.value a)
    (here.grows.kept pair.black a is.black ∙ black_shown dag pair a ∙ ap is_black (mark_told c.args.game.now _ dag dag r c.requires.run.0 (no_growth dag) c.requires.run.1 c.args.moment pair a c.pair_at-pair.ensures)))

pub returns-clause-white : goal.returns-clause-white
returns-clause-white c =
    let r = c.args.run.now in
    let dag = c.args.dag.now in
    let pair = c.pair_at-pair.result in
    let here = c.in_ok-here.ensures in
    let black = c.in_ok-black.ensures in
    let grown = grows_then here.grows black.grows in
    let is = found_pair dag r.pairs c.args.moment pair c.requires.run.1.pairs c.pair_at-pair.ensures in
    λ a.
    c.in_ok-white.ensures.value a
    ∙ ap₂ (λ x y. x || y) (grown.kept c.args.known.white a c.requires.known.1)
    (ap₂ (λ x y. x && y) (black.grows.kept c.in_ok-here.here a here.wire ∙ here.value a)
    (grown.kept pair.white a is.white ∙ white_shown dag pair a is ∙ ap is_white (mark_told c.args.game.now _ dag dag r c.requires.run.0 (no_growth dag) c.requires.run.1 c.args.moment pair a c.pair_at-pair.ensures)))

pub returns-clause-grows : goal.returns-clause-grows
returns-clause-grows c = grows_within (grows_then (grows_then c.in_ok-here.ensures.grows c.in_ok-black.ensures.grows) c.or_both-2.ensures.grows) (omega arith)
