use Rattle.std.proofs.Common.{ap}
use Rattle.bddl_model.specs.Board.{SizedBoard}
use Rattle.game_play.proofs.Following.{is_of, is_legal, chosen_goes, chosen_stops}
use Rattle.game_play.proofs.ply.follow.Goals as goal

pub show_made-requires : goal.show_made-requires
show_made-requires g c = is_of c.args.game.now c.args.answers.now c.args.shown.now c.in-Choice.number c.requires.answers c.requires.actions c.if-number-count.false

pub returns-in_err-show_made-in-Choice-clause-ply : goal.returns-in_err-show_made-in-Choice-clause-ply
returns-in_err-show_made-in-Choice-clause-ply g c =
    chosen_stops c.args.game.now c.args.answers.now c.args.shown.now c.in-Choice.number c.requires.answers c.if-number-count.false c.args.board.now.marks c.requires.shown c.args.reply c.in-Choice.is _ _ _
    c.from_residual.ensures.0 c.in_err-show_made-in-Choice.ensures.text

pub apply-requires-clause-legal : goal.apply-requires-clause-legal
apply-requires-clause-legal g c = is_legal c.args.game.now c.args.board.now.marks c.args.answers.now c.args.shown.now c.in-Choice.number c.requires.shown c.requires.answers c.if-number-count.false

pub returns-in_ok-show_made-in-Choice-clause-ply : goal.returns-in_ok-show_made-in-Choice-clause-ply
returns-in_ok-show_made-in-Choice-clause-ply g c =
    chosen_goes c.args.game.now c.args.answers.now c.args.shown.now c.in-Choice.number c.requires.answers c.if-number-count.false c.args.board.now.marks c.requires.shown c.args.reply c.in-Choice.is _ _ _
    (ap (λ (b : SizedBoard). b.marks) c.apply.ensures) c.in_ok-show_made-in-Choice.ensures.text
