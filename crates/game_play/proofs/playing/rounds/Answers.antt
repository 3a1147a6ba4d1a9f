use Rattle.std.proofs.Common.{Ok, false, ap, sym, ◌∙◌, subst, refl, arith}
use Rattle.bddl_model.specs.Setup.{Setup}
use Rattle.bddl_model.specs.Limits.{IsBoardOf}
use Rattle.game_play.specs.declared.ply.Ply.TheVariants.{Next}
use Rattle.game_play.proofs.Rounding.{begins, node_fits, few_said, node_read, goes_on_reached, left_begins, board_fails, ends_here, stops_here, goes_here, is_end, left_now}
use Rattle.game_play.proofs.playing.rounds.Goals as goal

pub loop-made-init : goal.loop-made-init
loop-made-init g c = record {
  so_far = rw c.requires.silent (begins c.args.setup.now c.args.nodes.now c.requires.valid c.args.board.now.marks _ c.requires.board);
  left = left_begins _ _ c.requires.silent;
  began = refl;
  steady = refl;
  count = refl;
  faults = refl;
  size = c.requires.size;
  room = c.requires.room;
}

pub returns-in_err-show_board-clause-told : goal.returns-in_err-show_board-clause-told
returns-in_err-show_board-clause-told g c =
    board_fails c.args.setup.now c.args.nodes.now c.requires.valid c.setup.inside.game (ap (λ (s : Setup). s.game) c.setup.view_is) c.loop-made.id c.loop-made.made c.loop-made.board.marks _ _ _ _ c.loop-made.invariant.so_far _ c.from_residual.ensures.0 c.in_err-show_board.ensures.text

pub ply_at-requires-clause-fits : goal.ply_at-requires-clause-fits
ply_at-requires-clause-fits g c =
    let node = node_read c.args.nodes.now c.loop-made.id c.index-nodes-id.result c.loop-made.invariant.so_far.inside c.index-nodes-id.is in
    rw (ap (λ (s : Setup). s.game) c.setup.view_is) (node_fits c.args.setup.now c.args.nodes.now c.requires.valid c.loop-made.id c.loop-made.made c.loop-made.board.marks _ _ _ c.loop-made.invariant.so_far c.index-nodes-id.result node)

pub ply_at-requires-clause-few : goal.ply_at-requires-clause-few
ply_at-requires-clause-few g c =
    let node = node_read c.args.nodes.now c.loop-made.id c.index-nodes-id.result c.loop-made.invariant.so_far.inside c.index-nodes-id.is in
    few_said c.args.setup.now c.args.nodes.now c.requires.valid c.loop-made.id c.loop-made.made c.loop-made.board.marks _ _ _ c.loop-made.invariant.so_far c.index-nodes-id.result node c.keeps_its_size.ensures.depth

pub returns-in_err-end-clause-told : goal.returns-in_err-end-clause-told
returns-in_err-end-clause-told g c =
    stops_here c.args.setup.now c.args.nodes.now c.requires.valid c.setup.inside.game (ap (λ (s : Setup). s.game) c.setup.view_is) c.loop-made.id c.loop-made.made c.loop-made.board.marks _ _ _ _ c.loop-made.invariant.so_far
    c.index-nodes-id.result c.index-nodes-id.is c.in_ok-show_board.ensures.text c.ply_at.new.board.marks _ _ _ _ _ _ c.in_err-end.field-0.0 c.from_residual-in_err-end.ensures.0 c.in_err-end.ensures.ply

pub returns-in-Ended-clause-told : goal.returns-in-Ended-clause-told
returns-in-Ended-clause-told g c =
    ends_here c.args.setup.now c.args.nodes.now c.requires.valid c.setup.inside.game (ap (λ (s : Setup). s.game) c.setup.view_is) c.loop-made.id c.loop-made.made c.loop-made.board.marks _ _ _ _ c.loop-made.invariant.so_far
    c.index-nodes-id.result c.index-nodes-id.is c.in_ok-show_board.ensures.text c.ply_at.new.board.marks _ _ _ _ _ c.in-Ended.end (rw c.in-Ended.is at c.in_ok-end.ensures.ply)

pub returns-in-Ended-clause-end : goal.returns-in-Ended-clause-end
returns-in-Ended-clause-end g c =
    is_end c.args.setup.now c.args.nodes.now c.requires.valid c.setup.inside.game (ap (λ (s : Setup). s.game) c.setup.view_is) c.loop-made.id c.loop-made.made c.loop-made.board.marks _ _ _ _ c.loop-made.invariant.so_far
    c.index-nodes-id.result c.index-nodes-id.is c.in_ok-show_board.ensures.text c.ply_at.new.board.marks _ _ _ _ _ c.in-Ended.end (rw c.in-Ended.is at c.in_ok-end.ensures.ply)

pub returns-in-Ended-clause-steady : goal.returns-in-Ended-clause-steady
returns-in-Ended-clause-steady g c steady =
    goes_on_reached c.args.setup.now.depth c.in-Ended.end (rw c.in-Ended.is at (c.in_ok-end.ensures.on (rw c.loop-made.invariant.steady steady)))
    (is_end c.args.setup.now c.args.nodes.now c.requires.valid c.setup.inside.game (ap (λ (s : Setup). s.game) c.setup.view_is) c.loop-made.id c.loop-made.made c.loop-made.board.marks _ _ _ _ c.loop-made.invariant.so_far
    c.index-nodes-id.result c.index-nodes-id.is c.in_ok-show_board.ensures.text c.ply_at.new.board.marks _ _ _ _ _ c.in-Ended.end (rw c.in-Ended.is at c.in_ok-end.ensures.ply))

pub loop-made-preserved : goal.loop-made-preserved
loop-made-preserved g c = record {
  so_far = goes_here c.args.setup.now c.args.nodes.now c.requires.valid c.setup.inside.game (ap (λ (s : Setup). s.game) c.setup.view_is) c.loop-made.id c.loop-made.made c.loop-made.board.marks _ _ _ _ c.loop-made.invariant.so_far
      c.index-nodes-id.result c.index-nodes-id.is c.in_ok-show_board.ensures.text c.ply_at.new.board.marks _ _ _ _ _ c.in-Next.next (rw c.in-Next.is at c.in_ok-end.ensures.ply);
  left = left_now c.args.setup.now c.args.nodes.now c.requires.valid c.setup.inside.game (ap (λ (s : Setup). s.game) c.setup.view_is) c.loop-made.id c.loop-made.made c.loop-made.board.marks _ _ _ _ c.loop-made.invariant.so_far
      c.index-nodes-id.result c.index-nodes-id.is c.in_ok-show_board.ensures.text c.ply_at.new.board.marks _ _ _ _ false
      ((goal.Opponent-dyn g (c.args.opponent.now.vtable, c.args.opponent.now.value)).left c.args.opponent.now.value) (Ok (Next c.in-Next.next)) c.loop-made.invariant.left (rw c.in-Next.is at c.in_ok-end.ensures.ply);
  began = c.ply_at.ensures.began ∙ c.loop-made.invariant.began;
  steady = c.ply_at.ensures.stays ∙ c.loop-made.invariant.steady;
  count = (rw c.in-Next.is at c.in_ok-end.ensures.count) ∙ c.loop-made.invariant.count;
  faults = c.loop-made.invariant.faults ∙ sym c.in_ok-show_board.ensures.cause ∙ sym c.in_ok-end.ensures.cause;
  size = subst (λ h. IsBoardOf h c.ply_at.new.board) (ap (λ (s : Setup). s.game) c.setup.view_is) c.ply_at.ensures.size;
  room = (let same = c.ply_at.ensures.room in let room = c.loop-made.invariant.room in omega (arith, same, room));
}
