use Rattle.std.proofs.Common.{◌*◌, ap₂, ◌∙◌}
use Rattle.symbol_cell.proofs.Following.{stands_first, none_added}
use Rattle.symbol_cell.proofs.run.SymbolRun.start.Goals as goal

pub returns-clause-stands : goal.returns-clause-stands
returns-clause-stands c =
    stands_first c.args.game.now _ c.args.dag.now c.put_board.new.dag c.put_board.ensures.grows _ c.args.board.now.marks c.args.place.now c.in_ok-first.first
    (none_added c.args.place.now c.in_ok-place.place.items c.in_ok-first.first c.new.result.items c.in_ok-place.ensures.items c.new.ensures.items)
    c.requires.place c.requires.place_bits c.in_ok-first.ensures.pair
    (c.keeps_the_size.ensures.marks ∙ ap₂ (λ h w. h * w) c.requires.board.1 c.requires.board.0) c.in_ok-first.ensures.shown
