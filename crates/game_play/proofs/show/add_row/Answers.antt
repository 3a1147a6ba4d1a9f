use Rattle.std.proofs.Common.{[], ◌∷◌, ◌++◌, map, refl}
use Rattle.bddl_model.specs.Play.{mark_byte}
use Rattle.io_edge.proofs.Added.{added_nothing, added_more, added_stops, added_last}
use Rattle.game_play.proofs.show.add_row.Goals as goal

pub returns-in_err-add_marks-clause-text : goal.returns-in_err-add_marks-clause-text
returns-in_err-add_marks-clause-text g c =
    added_stops _ (map mark_byte c.args.row.now ++ 10 ∷ []) (map mark_byte c.args.row.now) (10 ∷ []) refl _ _ _ _ _ _ (added_nothing _ _ _) _ c.from_residual.ensures.0 c.in_err-add_marks.ensures.text

pub returns-clause-text : goal.returns-clause-text
returns-clause-text g c =
    added_last _ _ _ refl _ _ _ _ _ _ _ (added_more _ (map mark_byte c.args.row.now ++ 10 ∷ []) (map mark_byte c.args.row.now) (10 ∷ []) refl _ _ _ _ _ _ (added_nothing _ _ _) c.in_ok-add_marks.ensures.text) c.add.ensures.text
