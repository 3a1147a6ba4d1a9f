-- Boards of a game, and room for the moves of either side.
use Rattle.std.proofs.Common.{◌≡◌, ℕ, ◌≤◌, ◌*◌, max, length, sym, subst, arith}
use Rattle.std.proofs.Math.Nat.{mul-le-mul_right}
use Rattle.bddl_model.specs.declared.game.Side.{Side}
use Rattle.bddl_model.specs.declared.game.Side.TheVariants.{Black, White}
use Rattle.bddl_model.specs.Board.{SizedBoard}
use Rattle.bddl_model.specs.Game.{Game, actions}
use Rattle.bddl_model.specs.Limits.{IsBoardOf}
use Rattle.cert_checker.specs.declared.bench.Bench.{Bench}
use Rattle.cert_checker.specs.Benches.{IsBench}

abbrev room_for : ℕ → Game → ℕ
room_for actions g = actions * g.width * g.height

more_actions : (a b : ℕ) (g : Game) → a ≤ b → room_for a g ≤ room_for b g
more_actions a b g h = mul-le-mul_right g.height (mul-le-mul_right g.width h)

abbrev most_actions : Game → ℕ
most_actions g = max (length g.black_actions) (length g.white_actions)

either_has_room : (g : Game) (room : ℕ) → room ≡ room_for (most_actions g) g → (side : Side) → room_for (length (actions g side)) g ≤ room
either_has_room g room e Black = subst (λ k. room_for (length g.black_actions) g ≤ k) (sym e) (more_actions (length g.black_actions) (most_actions g) g (omega arith))
either_has_room g room e White = subst (λ k. room_for (length g.white_actions) g ≤ k) (sym e) (more_actions (length g.white_actions) (most_actions g) g (omega arith))

pub is_bench : (g h : Game) (start : SizedBoard) (b : Bench) → g ≡ h → IsBoardOf g start → b.here ≡ start → b.behind ≡ start → b.known ≡ start → b.moves.room ≡ room_for (most_actions g) g → IsBench h b
is_bench g h start b game size here behind known room = subst (λ k. IsBench k b) game (record {
  here = subst (IsBoardOf g) (sym here) size;
  behind = subst (IsBoardOf g) (sym behind) size;
  known = subst (IsBoardOf g) (sym known) size;
  room = either_has_room g b.moves.room room;
})
