use Rattle.std.proofs.Common.{◌++◌, sym, ◌∙◌}
use Rattle.bddl_model.specs.Game.{test_atoms}
use Rattle.grid_game.proofs.Rectangle.{rect_from_fits}
use Rattle.grid_game.proofs.game.Game.anchors.Goals as goal

pub unreachable-requires : goal.unreachable-requires
unreachable-requires c =
    let fits = rw (sym c.self.view_is) at c.requires in
    rect_from_fits c.self.inside.width c.self.inside.height (test_atoms c.args.tests.now ++ c.args.effects.now) fits.0 fits.1 (sym c.rect_of.ensures.value ∙ c.in_default.is)
