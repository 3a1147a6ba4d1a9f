use Rattle.std.proofs.Common.{◌≡◌, ◌≤◌, ◌<◌, ◌+◌, ◌*◌, ◌/◌, ◌%◌, length, get_or, sym, subst, ap, ap₂, ◌∙◌, arith}
use Rattle.bddl_model.specs.declared.game.Mark.{Mark}
use Rattle.bddl_model.specs.declared.game.Mark.TheVariants.{Free}
use Rattle.bddl_model.specs.Bits.{bits}
use Rattle.bddl_model.specs.Board.{mark_at}
use Rattle.bddl_model.specs.Growth.{HasRoom, Grows}
use Rattle.bddl_model.specs.OneCell.{spelled_cell}
use Rattle.bddl_model.proofs.GrowthSums.{item_room, item_grows, item_within}
use Rattle.bddl_model.proofs.WireWords.{word_stays, word_kept}
use Rattle.symbol_cell.specs.Starts.{filled, placed, cell_gates}
use Rattle.symbol_cell.specs.Runs.{place_named}
use Rattle.symbol_cell.proofs.CodeParts.{anchor_short}
use Rattle.symbol_cell.proofs.Starting.{all_cells, cell_within, mark_of_cell, on_column, on_row, cell_turn}
use Rattle.symbol_cell.proofs.start.put_board.Goals as goal

pub put_cell-requires-clause-place : goal.put_cell-requires-clause-place
put_cell-requires-clause-place c = word_stays _ c.args.dag.now c.cells.dag c.args.place.now c.cells.invariant.grows c.requires.place

pub put_cell-requires-clause-short : goal.put_cell-requires-clause-short
put_cell-requires-clause-short c = let short = anchor_short c.args.game.now c.keeps_the_limits.ensures in omega (arith, short, c.requires.place_bits)

pub put_cell-requires-clause-room : goal.put_cell-requires-clause-room
put_cell-requires-clause-room c =
    let u = cell_gates (length c.args.place.now) in
    let marks = c.args.board.now.marks in
    let lt : c.cells.cell < length marks = cell_within c.args.board.now c.height.result c.width-width.result c.cells.cell c.height.ensures.value c.width-width.ensures.value c.keeps_the_size.ensures.marks (omega (arith, c.cells-test.true)) in
    let is : c.at.result ≡ get_or marks c.cells.cell Free = mark_of_cell c.args.board.now c.width-width.result c.cells.cell c.at.result c.width-width.ensures.value c.at.ensures in
    subst (λ (m : Mark). HasRoom c.cells.dag (u * filled m)) (sym is) (item_room u filled marks c.cells.cell Free c.args.dag.now c.cells.dag lt c.cells.invariant.grows c.requires.room)

pub returns-in_err-pair-clause-grows : goal.returns-in_err-pair-clause-grows
returns-in_err-pair-clause-grows c =
    let u = cell_gates (length c.args.place.now) in
    let marks = c.args.board.now.marks in
    let lt : c.cells.cell < length marks = cell_within c.args.board.now c.height.result c.width-width.result c.cells.cell c.height.ensures.value c.width-width.ensures.value c.keeps_the_size.ensures.marks (omega (arith, c.cells-test.true)) in
    let is : c.at.result ≡ get_or marks c.cells.cell Free = mark_of_cell c.args.board.now c.width-width.result c.cells.cell c.at.result c.width-width.ensures.value c.at.ensures in
    item_within u filled marks c.cells.cell Free c.args.dag.now c.cells.dag lt c.cells.invariant.grows c.put_cell.new.dag
    (subst (λ (m : Mark). Grows (u * filled m) c.cells.dag c.put_cell.new.dag) is c.put_cell.ensures.grows)

pub cells-preserved : goal.cells-preserved
cells-preserved c =
    let u = cell_gates (length c.args.place.now) in
    let b = c.args.board.now in
    let g = c.args.game.now in
    let lt : c.cells.cell < length b.marks = cell_within c.args.board.now c.height.result c.width-width.result c.cells.cell c.height.ensures.value c.width-width.ensures.value c.keeps_the_size.ensures.marks (omega (arith, c.cells-test.true)) in
    let is : c.at.result ≡ get_or b.marks c.cells.cell Free = mark_of_cell b c.width-width.result c.cells.cell c.at.result c.width-width.ensures.value c.at.ensures in
    let wide : c.width-width.result ≡ g.width = c.width-width.ensures.value ∙ c.requires.board.0 in
    let size : length b.marks ≡ g.height * g.width = c.keeps_the_size.ensures.marks ∙ ap₂ (λ n m. n * m) c.requires.board.1 c.requires.board.0 in
    record {
      pair = c.in_ok-pair.ensures.pair;
      grows = item_grows u filled b.marks c.cells.cell Free c.args.dag.now c.cells.dag lt c.cells.invariant.grows c.put_cell.new.dag
          (subst (λ (m : Mark). Grows (u * filled m) c.cells.dag c.put_cell.new.dag) is c.in_ok-pair.ensures.grows);
      shown = λ a.
          c.in_ok-pair.ensures.shown a
          ∙ ap₂ (λ p m. placed c.at.result (c.cells.cell % c.width-width.result + 1) (c.cells.cell / c.width-width.result + 1) p m)
          (ap₂ spelled_cell (c.bits-x_bits.ensures.value ∙ ap bits wide) (word_kept _ c.args.dag.now c.cells.dag c.args.place.now a c.cells.invariant.grows c.requires.place))
          (c.cells.invariant.shown a)
          ∙ cell_turn g b.marks c.cells.cell c.at.result (place_named g c.args.dag.now a c.args.place.now) size (omega (arith, lt, size)) c.keeps_the_limits.ensures.width.0 is
          (c.cells.cell % c.width-width.result + 1) (c.cells.cell / c.width-width.result + 1) (ap (λ w. c.cells.cell % w + 1) wide) (ap (λ w. c.cells.cell / w + 1) wide)
          (on_column c.cells.cell g.width c.width-width.result wide c.keeps_the_limits.ensures.width.0) (on_row c.cells.cell g.width g.height c.width-width.result wide c.keeps_the_limits.ensures.width.0 (omega (arith, lt, size)));
    }

pub returns-clause-shown : goal.returns-clause-shown
returns-clause-shown c =
    let b = c.args.board.now in
    let g = c.args.game.now in
    let size : length b.marks ≡ g.height * g.width = c.keeps_the_size.ensures.marks ∙ ap₂ (λ n m. n * m) c.requires.board.1 c.requires.board.0 in
    λ a. c.cells.invariant.shown a ∙ all_cells g b.marks c.cells.cell (place_named g c.args.dag.now a c.args.place.now) size (let all = ap₂ (λ n m. n * m) (c.height.ensures.value ∙ c.requires.board.1) (c.width-width.ensures.value ∙ c.requires.board.0) in omega (arith, c.cells-test.false, c.cells.auto.cell-end, all))
