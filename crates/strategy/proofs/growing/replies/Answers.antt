use Rattle.std.proofs.Common.{◌≡◌, map, refl, sym, ap, ◌∙◌, subst}
use Rattle.std.specs.List.{slice_index_or}
use Rattle.std.proofs.lemmas.Option.{slice_get_within, slice_get-get_or}
use Rattle.bddl_laws.specs.BreadthFirst.{AreNumbered}
use Rattle.bddl_laws.proofs.BreadthFirst.{no_place, place_stays}
use Rattle.strategy.proofs.Numbering.{one_more, awaits_one, none_numbered, moves_more}
use Rattle.strategy.proofs.growing.replies.Goals as goal

pub loop-mv-init : goal.loop-mv-init
loop-mv-init c = record {
  moves = ap (map (λ a. a.mv)) c.new-all.ensures;
  numbered = (
    slice_index_or c.args.places.now c.args.number no_place,
    slice_get-get_or c.args.places.now c.args.number no_place c.requires.number,
    none_numbered c.args.game.now (slice_index_or c.args.places.now c.args.number no_place) c.new-all.result c.args.places.now c.new-all.ensures,
  );
  size = (refl, refl);
}

pub reply-requires-clause-number : goal.reply-requires-clause-number
reply-requires-clause-number c =
    let here = c.loop-mv.invariant.numbered in
    slice_get_within c.loop-mv.places c.args.number here.0 (place_stays c.args.game.now here.0 c.loop-mv.all c.args.places.now c.loop-mv.places c.args.number here.0 here.2 here.1)

pub reply-requires-clause-place : goal.reply-requires-clause-place
reply-requires-clause-place c p found =
    let here = c.loop-mv.invariant.numbered in
    let stays = place_stays c.args.game.now here.0 c.loop-mv.all c.args.places.now c.loop-mv.places c.args.number here.0 here.2 here.1 in
    let same : here.0 ≡ p = cc in
    awaits_one c.args.game.now here.0 p c.args.moves.now c.loop-mv.mv-index _ (c.requires.place here.0 here.1) c.loop-mv-test.true same

pub loop-mv-preserved : goal.loop-mv-preserved
loop-mv-preserved c =
    let here = c.loop-mv.invariant.numbered in
    let stays = place_stays c.args.game.now here.0 c.loop-mv.all c.args.places.now c.loop-mv.places c.args.number here.0 here.2 here.1 in
    let size = c.loop-mv.invariant.size in
    let more = c.reply.ensures.size in
    record {
      moves = moves_more c.loop-mv.all c.push.new.self c.in_ok-answered.answered c.args.moves.now c.loop-mv.mv-index _ c.loop-mv-test.true c.loop-mv.invariant.moves c.in_ok-answered.ensures.mv c.in_ok-push.ensures.ok;
      numbered = (
        here.0,
        here.1,
        subst (λ all. AreNumbered c.args.game.now here.0 all c.args.places.now c.reply.new.places) (sym c.in_ok-push.ensures.ok)
            (one_more c.args.game.now here.0 c.loop-mv.all c.in_ok-answered.answered c.args.places.now c.loop-mv.places c.reply.new.places here.2 (c.in_ok-answered.ensures.numbered here.0 stays)),
      );
      size = (more.0 ∙ size.0, more.1 ∙ size.1);
    }
