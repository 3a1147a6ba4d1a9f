use Rattle.std.proofs.Common.{refl, ap, ap₂, ◌∙◌}
use Rattle.bddl_model.specs.Board.{SizedBoard}
use Rattle.bddl_model.specs.Certificate.{same_board}
use Rattle.grid_game.proofs.SameMarks.{mark_by_mark, each_mark}
use Rattle.grid_game.proofs.board.Board.same_marks.Goals as goal

pub returns : goal.returns
returns c =
    c.eq.ensures
    ∙ mark_by_mark _ (each_mark _ refl refl refl refl refl refl refl refl refl) c.self.inside.marks.items c.other.inside.marks.items
    ∙ ap₂ same_board (ap (λ (b : SizedBoard). b.marks) c.self.view_is) (ap (λ (b : SizedBoard). b.marks) c.other.view_is)
