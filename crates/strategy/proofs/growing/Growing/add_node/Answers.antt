use Rattle.std.proofs.Common.{◌≡◌, true, Some, length, List, refl, sym, ap, ◌∙◌, subst, slice_get}
use Rattle.bddl_model.specs.declared.certificate.Node.{Node}
use Rattle.bddl_model.specs.declared.certificate.Node.TheVariants as nodes
use Rattle.bddl_model.specs.declared.game.Side.TheVariants.{White}
use Rattle.bddl_model.specs.Board.{Board}
use Rattle.bddl_model.specs.Certificate.{Place}
use Rattle.bddl_model.specs.Win.{win}
use Rattle.place_set.specs.Places.{place_at}
use Rattle.strategy.specs.Growing.{IsNodeAt}
use Rattle.strategy.proofs.NodesAt.{goal_is_node}
use Rattle.strategy.proofs.growing.Growing.add_node.Goals as goal

pub returns-then-goal-clause-made : goal.returns-then-goal-clause-made
returns-then-goal-clause-made g c was p found =
    let here : Place = place_at c.go_to-side.result.0 c.go_to-side.new.board c.go_to-side.result.1 in
    let there = subst (λ (ns : List Node). slice_get c.args.self.now.places (length ns) ≡ Some here) c.as_slice.ensures c.go_to-side.ensures.place in
    let same : here ≡ p = cc in (
      nodes.Goal,
      record { nodes = c.in_ok-push.ensures.ok; places = refl },
      subst (λ r. IsNodeAt c.args.game.now r nodes.Goal) same (goal_is_node c.args.game.now here (sym c.goal.ensures ∙ c.if-goal.true)),
    )

pub black_node-requires-clause-left : goal.black_node-requires-clause-left
black_node-requires-clause-left g c =
    let here : Place = place_at c.go_to-side.result.0 c.go_to-side.new.board c.go_to-side.result.1 in
    let there = subst (λ (ns : List Node). slice_get c.args.self.now.places (length ns) ≡ Some here) c.as_slice.ensures c.go_to-side.ensures.place in
    (c.requires.place here there).left

pub white_node-requires-clause-place : goal.white_node-requires-clause-place
white_node-requires-clause-place g c p found =
    let here : Place = place_at c.go_to-side.result.0 c.go_to-side.new.board c.go_to-side.result.1 in
    let there = c.go_to-side.ensures.place in
    let same : here ≡ p = cc in
    let place = subst (λ (ns : List Node). slice_get c.args.self.now.places (length ns) ≡ Some p) c.as_slice.ensures found in
    let side = sym (ap (λ (r : Place). r.side) same) ∙ c.in-White.is in
    let board = sym (ap (λ (r : Place). r.board) same) in
    record {
      here = board;
      side = side;
      unfinished = sym c.goal.ensures ∙ c.if-goal.false;
      won = subst (λ (b : Board). win c.args.game.now White b p.left ≡ true) board ((c.requires.place p place).won side);
    }
