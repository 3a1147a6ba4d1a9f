use Rattle.std.proofs.Common.{◌<◌, length, sym}
use Rattle.std.proofs.lemmas.List.{append-nil}
use Rattle.grid_game.specs.Stored.{lines_of}
use Rattle.grid_game.proofs.KeptItems.{line_kept, black_grows, white_grows}
use Rattle.grid_game.proofs.game.Game.add_line.Goals as goal

pub anchors-rect-requires : goal.anchors-rect-requires
anchors-rect-requires c = rw append-nil c.requires.line.fits

pub invariant_of-self : goal.invariant_of-self
invariant_of-self c =
    let g = c.self.inside in
    let few : length (lines_of g.black) < 256 = rw (sym c.self.view_is, c.in-Black.is) at c.requires.few in
    let given = rw (sym c.self.view_is) at c.requires.line in
    let rect = rw (sym c.self.view_is, append-nil) at c.anchors-rect.ensures in
    let stored = c.in_ok-line.ensures in
    let pushed = c.push_line.ensures in
    black_grows g.width g.height g.black g.white c.push_line.new.self c.self.invariant
    (λ old. line_kept g.width g.height g.black c.push_line.new.self c.in_ok-line.line _ _ _ old few given rect stored.line stored.rect pushed.lines pushed.actions)

pub invariant_of-self-in-White : goal.invariant_of-self-in-White
invariant_of-self-in-White c =
    let g = c.self.inside in
    let few : length (lines_of g.white) < 256 = rw (sym c.self.view_is, c.in-White.is) at c.requires.few in
    let given = rw (sym c.self.view_is) at c.requires.line in
    let rect = rw (sym c.self.view_is, append-nil) at c.anchors-rect.ensures in
    let stored = c.in_ok-line.ensures in
    let pushed = c.push_line-in-White.ensures in
    white_grows g.width g.height g.black g.white c.push_line-in-White.new.self c.self.invariant
    (λ old. line_kept g.width g.height g.white c.push_line-in-White.new.self c.in_ok-line.line _ _ _ old few given rect stored.line stored.rect pushed.lines pushed.actions)
