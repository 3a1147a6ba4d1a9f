use Rattle.std.proofs.Common.{◌*◌, ap₂, ◌∙◌}
use Rattle.lifted_encode.specs.Encoded.{setup_of}
use Rattle.strategy.proofs.Growth.{start_waits, white_start_pays, spent_before, used_before, left_before}
use Rattle.strategy.proofs.extracting.begin.Goals as goal

pub returns-in-White-clause-spent : goal.returns-in-White-clause-spent
returns-in-White-clause-spent g c was =
    let size = c.keeps_the_size.ensures.marks ∙ ap₂ (λ h w. h * w) c.requires.board.1 c.requires.board.0 in
    let spent = c.white_begins.ensures.spent was in
    (spent.0, spent_before _ _ _ _ _ spent.1 (white_start_pays c.args.game.now c.args.board.now.marks c.args.depth c.args.first c.in-White.is size))

pub returns-in-White-clause-used : goal.returns-in-White-clause-used
returns-in-White-clause-used g c =
    let size = c.keeps_the_size.ensures.marks ∙ ap₂ (λ h w. h * w) c.requires.board.1 c.requires.board.0 in
    let taken = c.white_begins.ensures.used in
    (taken.0, used_before _ _ _ _ _ taken.1 (white_start_pays c.args.game.now c.args.board.now.marks c.args.depth c.args.first c.in-White.is size))

pub returns-in-White-clause-left : goal.returns-in-White-clause-left
returns-in-White-clause-left g c was =
    let size = c.keeps_the_size.ensures.marks ∙ ap₂ (λ h w. h * w) c.requires.board.1 c.requires.board.0 in
    left_before _ _ _ _ _ _ c.white_begins.ensures.used.1 (white_start_pays c.args.game.now c.args.board.now.marks c.args.depth c.args.first c.in-White.is size)
    (start_waits (setup_of c.args.game.now c.args.board.now.marks c.args.first c.args.depth) c.args.growing.now c.requires.places c.requires.nodes)
