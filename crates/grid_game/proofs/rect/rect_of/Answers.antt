use Rattle.std.proofs.Common.{◌≡◌, ◌++◌, sym, ◌∙◌}
use Rattle.bddl_model.specs.Game.{test_atoms}
use Rattle.bddl_model.specs.Rectangle.{rect_of}
use Rattle.grid_game.proofs.Rectangle.{rect_of_both, some_rect_is_exact, no_rect_fits_nothing}
use Rattle.grid_game.proofs.rect.rect_of.Goals as goal

value : (c : goal.After-unless_empty) → c.unless_empty.result ≡ rect_of c.args.width c.args.height (test_atoms c.args.tests.now ++ c.args.effects.now)
value c =
    let first = c.narrowed_by_tests-of_tests.ensures in
    let both = c.narrowed_by_effects.ensures in
    c.unless_empty.ensures
    ∙ rect_of_both c.args.width c.args.height _ _ _ _ (test_atoms c.args.tests.now) c.args.effects.now (rw first.x_low at both.x_low) (rw first.x_high at both.x_high) (rw first.y_low at both.y_low) (rw first.y_high at both.y_high)

pub returns-clause-value : goal.returns-clause-value
returns-clause-value c = value c

pub returns-clause-some : goal.returns-clause-some
returns-clause-some c = some_rect_is_exact c.args.width c.args.height (test_atoms c.args.tests.now ++ c.args.effects.now) c.unless_empty.result (value c)

pub returns-clause-none : goal.returns-clause-none
returns-clause-none c none = no_rect_fits_nothing c.args.width c.args.height (test_atoms c.args.tests.now ++ c.args.effects.now) (sym (value c) ∙ none)
