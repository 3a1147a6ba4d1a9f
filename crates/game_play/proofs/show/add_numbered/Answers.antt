use Rattle.std.proofs.Common.{◌++◌, refl}
use Rattle.std.specs.Prelude.{codes}
use Rattle.std.specs.Fmt.{decimal}
use Rattle.bddl_model.specs.Play.{move_text}
use Rattle.bddl_model.specs.declared.game.Side.TheVariants.{White}
use Rattle.io_edge.proofs.Added.{added_nothing, added_more, added_stops, added_last}
use Rattle.game_play.specs.Shown.{one_numbered}
use Rattle.game_play.proofs.show.add_numbered.Goals as goal

pub returns-in_err-add_number-clause-text : goal.returns-in_err-add_number-clause-text
returns-in_err-add_number-clause-text g c =
    added_stops _ (one_numbered c.args.game.now c.args.number c.args.mv) (decimal c.args.number ++ codes " ") (move_text c.args.game.now White c.args.mv) refl _ _ _ _ _ _ (added_nothing _ _ _) _ c.from_residual.ensures.0 c.in_err-add_number.ensures.text

pub returns-clause-text : goal.returns-clause-text
returns-clause-text g c =
    added_last _ _ _ refl _ _ _ _ _ _ _
    (added_more _ (one_numbered c.args.game.now c.args.number c.args.mv) (decimal c.args.number ++ codes " ") (move_text c.args.game.now White c.args.mv) refl _ _ _ _ _ _ (added_nothing _ _ _) c.in_ok-add_number.ensures.text)
    c.add_move.ensures.text
