-- Moves that may be played have codes, which an assignment gives to the plies one after the other.
use Rattle.std.proofs.Common.{◌≡◌, ℕ, ◌+◌, true, List, [], ◌∷◌, refl, sym, ap, ◌∙◌, arith}
use Rattle.bddl_model.specs.declared.formula.Quant.TheVariants.{Exists}
use Rattle.bddl_model.specs.declared.game.Side.{Side}
use Rattle.bddl_model.specs.declared.game.Side.TheVariants.{Black, White}
use Rattle.bddl_model.specs.declared.game.Move.{Move}
use Rattle.bddl_model.specs.Truth.{Assignment, no_values}
use Rattle.bddl_model.specs.Game.{Game, opponent}
use Rattle.bddl_model.specs.Board.{Board}
use Rattle.bddl_model.specs.Moves.{legal, after}
use Rattle.bddl_model.specs.Setup.{Setup}
use Rattle.bddl_model.specs.Layout.{Sizes, sizes_of, ply_at, end}
use Rattle.bddl_model.specs.Exact.{coded_move, own_code, MayPlay, MayPlayFrom, Plays, PlaysFrom}
use Rattle.bddl_model.proofs.Blocks.{SameBelow, below_block}
use Rattle.bddl_laws.proofs.Codes.{writes_code, move_same}
use Rattle.bddl_laws.proofs.Played.{ply_end_is_later, own_same, code_move_same, own_ends_first}

module _ (g : Game) (depth : ℕ) where
  abbrev z : Sizes
  z = sizes_of g depth

  -- the move stands in the ply's bits, and as the sample of a White ply too
  abbrev IsWritten : Side → ℕ → Assignment → Move → Type 0
  IsWritten side v a m = (coded_move g side a (own_code (ply_at z side v)) ≡ m) × (coded_move g side a (ply_at z side v).code ≡ m)

  writes_ply : (side : Side) (v : ℕ) (b : Board) (a : Assignment) (m : Move) → legal g b side m ≡ true → (c : Assignment) × SameBelow v a c × IsWritten side v c m
  writes_ply Black v b a m l = let c = writes_code g Exists Black v z.black_code b a m l in (c.0, below_block Exists z.black_code v a c.0 c.1, (c.2, c.2))
  writes_ply White v b a m l =
      let w = z.white_code in
      let sample = writes_code g Exists White v w b a m l in
      let c = writes_code g Exists White (v + w) w b sample.0 m l in
      let front = below_block Exists w (v + w) sample.0 c.0 c.1 in
      (c.0, (λ u lt. below_block Exists w v a sample.0 sample.1 u lt ∙ front u (omega (arith, lt))), (move_same g b White v w sample.0 c.0 m front l sample.2, c.2))

  plays_line : (side : Side) (b : Board) (v : ℕ) (a : Assignment) (ms : List Move) → MayPlay g side b ms → (c : Assignment) × SameBelow v a c × Plays g depth c side b v ms
  plays_line side b v a [] h = (a, (λ u lt. refl), tt)
  plays_line side b v a (m ∷ ms) (no_black, no_white, may, rest) =
      let x = writes_ply side v b a m may in
      let y = plays_line (opponent side) (after g b side m) (end (ply_at z side v).code) x.0 ms rest in
      let later = ply_end_is_later z side v in
      let own = own_ends_first g depth side v in (
        y.0,
        (λ u lt. x.1 u lt ∙ y.1 u (omega (arith, later, lt))),
        (
          no_black,
          no_white,
          sym (own_same g depth b side v x.0 y.0 (λ u lt. y.1 u (omega (arith, own, lt)))) ∙ ap (legal g b side) x.2.0 ∙ may,
          may,
          code_move_same g depth b side v x.0 y.0 m y.1 may x.2.1,
          y.2,
        ),
      )

pub line_is_played : (s : Setup) (ms : List Move) → MayPlayFrom s ms → (a : Assignment) × PlaysFrom s a ms
line_is_played s ms h = let x = plays_line s.game s.depth s.first s.board 1 no_values ms h.1 in (x.0, (h.0, x.2))
