use Rattle.std.proofs.Common.{◌<◌, length, sym}
use Rattle.grid_game.specs.Stored.{actions_of}
use Rattle.grid_game.proofs.KeptItems.{action_kept, black_grows, white_grows}
use Rattle.grid_game.proofs.game.Game.add_action.Goals as goal

pub invariant_of-self : goal.invariant_of-self
invariant_of-self c =
    let g = c.self.inside in
    let few : length (actions_of g.black) < 8 = rw (sym c.self.view_is, c.in-Black.is) at c.requires.few in
    let given = rw (sym c.self.view_is) at c.requires.action in
    let rect = rw (sym c.self.view_is) at c.anchors-rect.ensures in
    let stored = c.in_ok-action.ensures in
    let pushed = c.push_action.ensures in
    black_grows g.width g.height g.black g.white c.push_action.new.self c.self.invariant
    (λ old. action_kept g.width g.height g.black c.push_action.new.self c.in_ok-action.action _ _ _ old few given rect stored.action stored.rect pushed.actions pushed.lines)

pub invariant_of-self-in-White : goal.invariant_of-self-in-White
invariant_of-self-in-White c =
    let g = c.self.inside in
    let few : length (actions_of g.white) < 8 = rw (sym c.self.view_is, c.in-White.is) at c.requires.few in
    let given = rw (sym c.self.view_is) at c.requires.action in
    let rect = rw (sym c.self.view_is) at c.anchors-rect.ensures in
    let stored = c.in_ok-action.ensures in
    let pushed = c.push_action-in-White.ensures in
    white_grows g.width g.height g.black g.white c.push_action-in-White.new.self c.self.invariant
    (λ old. action_kept g.width g.height g.white c.push_action-in-White.new.self c.in_ok-action.action _ _ _ old few given rect stored.action stored.rect pushed.actions pushed.lines)
