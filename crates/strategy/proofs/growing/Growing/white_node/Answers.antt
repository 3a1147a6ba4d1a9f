use Rattle.std.proofs.Common.{◌*◌, ap₂, ◌∙◌}
use Rattle.std.proofs.lemmas.Result.{on_ok_weaker}
use Rattle.bddl_model.specs.declared.certificate.Node.TheVariants as nodes
use Rattle.strategy.proofs.NodesAt.{awaits_replies, replies_are_node}
use Rattle.strategy.proofs.growing.Growing.white_node.Goals as goal

pub replies-requires-clause-place : goal.replies-requires-clause-place
replies-requires-clause-place c p found =
    awaits_replies c.args.game.now c.args.board.now.marks p (c.requires.place p found) c.as_slice.result.now
    (c.keeps_the_size.ensures.marks ∙ ap₂ (λ h w. h * w) c.requires.size.1 c.requires.size.0)
    (c.as_slice.ensures ∙ c.moves_into.ensures.moves)

pub returns-clause-node : goal.returns-clause-node
returns-clause-node c = on_ok_weaker c.push.result (λ pushed p found. (
  nodes.White c.in_ok-replies.replies,
  record { nodes = pushed; places = c.in_ok-replies.ensures.numbered p found },
  replies_are_node c.args.game.now c.args.board.now.marks p (c.requires.place p found) c.in_ok-replies.replies (c.in_ok-replies.ensures.moves ∙ c.as_slice.ensures ∙ c.moves_into.ensures.moves),
)) c.push.ensures.ok
