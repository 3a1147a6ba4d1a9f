use Rattle.std.proofs.Common.{sym}
use Rattle.grid_game.proofs.Actions.{effects_fit, after_legal}
use Rattle.grid_game.proofs.turns.apply.Goals as goal

pub write_effects-requires : goal.write_effects-requires
write_effects-requires c =
    let fit = effects_fit c.args.game.now c.args.board.now.marks c.args.side c.args.mv c.requires.legal in
    rw (c.requires.size.0, c.requires.size.1, c.effects.ensures) fit

pub returns : goal.returns
returns c =
    let marks = after_legal c.args.game.now c.args.board.now.marks c.args.side c.args.mv c.requires.legal in
    let written = c.write_effects.ensures c.args.game.now (sym c.requires.size.0) in
    cc
