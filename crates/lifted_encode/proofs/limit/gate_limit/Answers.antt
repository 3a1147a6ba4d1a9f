use Rattle.std.proofs.Common.{ℕ, ◌≡◌, ◌≤◌, ◌+◌, ◌*◌, refl, sym, subst, ap₂, ◌∙◌, arith}
use Rattle.std.specs.List.{sum_by}
use Rattle.bddl_model.specs.Layout.{anchor_bits}
use Rattle.bddl_model.specs.Setup.{Setup}
use Rattle.bddl_model.specs.Size.{filled_cells, gate_limit, line_units, plies_units, units}
use Rattle.lifted_encode.specs.Encoded.{setup_of}
use Rattle.lifted_encode.proofs.limit.gate_limit.Goals as goal

limit_is : (s : Setup) (bits plies black white filled : ℕ) → bits ≡ anchor_bits s.game → plies ≡ plies_units s.game s.first s.depth
    → black ≡ sum_by line_units s.game.black_lines → white ≡ sum_by line_units s.game.white_lines → filled ≡ filled_cells s.board
    → 24 * (bits + 6) * (plies + 4 * (s.depth + 1) + (black + white) + filled + 1) ≡ gate_limit s
unfolding gate_limit units
limit_is s bits plies black white filled e p b w f =
    let sum : plies + 4 * (s.depth + 1) + (black + white) + filled + 1 ≡ plies + 4 * (s.depth + 1) + (black + white) + (filled + 1) = omega arith in
    ap₂ (λ b u. 24 * (b + 6) * u) e (sum ∙ rw (p, b, w, f) refl)

pub returns-clause-limit : goal.returns-clause-limit
returns-clause-limit c =
    limit_is (setup_of c.args.game.now c.args.board.now.marks c.args.first c.args.depth) _ _ _ _ _
    c.anchor_bits.ensures.value c.plies_units.ensures.units c.lines_units.ensures.units c.lines_units-2.ensures.units c.filled_cells.ensures.cells

pub returns-clause-few : goal.returns-clause-few
returns-clause-few c =
    let s = setup_of c.args.game.now c.args.board.now.marks c.args.first c.args.depth in
    let size = c.keeps_the_size.ensures.marks ∙ ap₂ (λ h w. h * w) c.requires.board.1 c.requires.board.0 in
    subst (λ n. n ≤ 7859376) (sym (returns-clause-limit c)) (c.sizes_have_limits.ensures.gates s c.keeps_the_limits.ensures size c.requires.depth)
