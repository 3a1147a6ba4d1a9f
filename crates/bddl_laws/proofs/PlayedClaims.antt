-- The layout's codes, and a test that meets the conditions, are codes and claims as the argument asks for.
use Rattle.std.proofs.Common.{◌≡◌, ℕ, suc, ◌+◌, Bool, true, false, List, [], ◌∷◌, ◌++◌, length, refl, sym, ap, ap₂, ◌∙◌, subst, arith}
use Rattle.std.proofs.lemmas.List.{length-append}
use Rattle.bddl_model.specs.declared.formula.Quant.{Quant}
use Rattle.bddl_model.specs.declared.game.Side.{Side}
use Rattle.bddl_model.specs.declared.game.Side.TheVariants.{Black, White}
use Rattle.bddl_model.specs.declared.game.Move.{Move}
use Rattle.bddl_model.specs.Truth.{Assignment, value}
use Rattle.bddl_model.specs.Game.{Game, opponent}
use Rattle.bddl_model.specs.Board.{Board}
use Rattle.bddl_model.specs.Moves.{legal, after}
use Rattle.bddl_model.specs.Goal.{goal}
use Rattle.bddl_model.specs.Setup.{Setup}
use Rattle.bddl_model.specs.Layout.{Sizes, sizes_of, span, ply_at, bounds, end}
use Rattle.bddl_model.specs.Exact.{coded_move, own_code, to_move, position, ply_from, PlaysFrom}
use Rattle.bddl_model.proofs.Assignments.{SameOutside}
use Rattle.bddl_model.proofs.Blocks.{SameBelow}
use Rattle.bddl_model.specs.Encoding.{layout_of, MeetsConditions}
use Rattle.bddl_laws.proofs.Claiming.{closing}
use Rattle.bddl_laws.proofs.Codes.{writes_code, legal_same}
use Rattle.bddl_laws.proofs.ExactGame.{code_size, Claims}
use Rattle.bddl_laws.proofs.Played.{side_after-more, board_after-more, plies_end-more, plays_more, plays_same}
use Rattle.bddl_laws.proofs.ClosingInputs.{claim_span, attack_span}
use Rattle.bddl_laws.proofs.ServedClaims as after_moves

-- moves from the start that an assignment plays, and where they led
pub record Carried (s : Setup) (left : ℕ) (side : Side) (v : ℕ) (board : Board) (a : Assignment) : Type 0 where
  pub moves : List Move
  pub plays : PlaysFrom s a moves
  pub adds_up : length moves + left ≡ s.depth
  pub side_is : to_move s moves ≡ side
  pub from_is : ply_from s (length moves) ≡ v
  pub board_is : position s moves ≡ board

module _ (s : Setup) where
  abbrev g : Game
  g = s.game

  abbrev z : Sizes
  z = sizes_of s.game s.depth

  -- the move that the code from a variable on names
  abbrev pub read : Side → ℕ → Assignment → Move
  read side v a = coded_move g side a (span v (code_size z side))

  own_read : (side : Side) (v : ℕ) (a : Assignment) → coded_move g side a (own_code (ply_at z side v)) ≡ read side v a
  own_read Black v a = refl
  own_read White v a = refl

  module _ (n : ℕ) (side : Side) (v : ℕ) (board : Board) (a : Assignment) (c : Carried s n side v board a) where
    -- what is said of the last position
    there : {X : Type 0} (f : Side → ℕ → Board → X) → f (to_move s c.moves) (ply_from s (length c.moves)) (position s c.moves) ≡ f side v board
    there f = ap₂ (λ x y. f x y (position s c.moves)) c.side_is c.from_is ∙ ap (f side v) c.board_is

    pub carried_same : (other : Assignment) → SameBelow v a other → Carried s n side v board other
    carried_same other same = record {
      moves = c.moves;
      plays = (c.plays.0, plays_same g s.depth a other s.first s.board 1 c.moves (subst (λ u. SameBelow u a other) (sym c.from_is) same) c.plays.1);
      adds_up = c.adds_up;
      side_is = c.side_is;
      from_is = c.from_is;
      board_is = c.board_is;
    }

  carried_more : (n : ℕ) (side : Side) (v : ℕ) (board : Board) (a : Assignment) → Carried s (suc n) side v board a → goal g board Black ≡ false → goal g board White ≡ false
      → legal g board side (coded_move g side a (own_code (ply_at z side v))) ≡ true → legal g board side (coded_move g side a (ply_at z side v).code) ≡ true
      → Carried s n (opponent side) (end (ply_at z side v).code) (after g board side (coded_move g side a (ply_at z side v).code)) a
  carried_more n side v board a c gb gw own code =
      let ms = c.moves in
      let m = coded_move g (to_move s ms) a (ply_at z (to_move s ms) (ply_from s (length ms))).code in
      let one_more = length-append ms (m ∷ []) in
      record {
        moves = ms ++ m ∷ [];
        plays = (
          omega (arith, one_more, c.adds_up),
          plays_more g s.depth a s.first s.board 1 ms c.plays.1
              (there (suc n) side v board a c (λ x y b. goal g b Black) ∙ gb)
              (there (suc n) side v board a c (λ x y b. goal g b White) ∙ gw)
              (there (suc n) side v board a c (λ x y b. legal g b x (coded_move g x a (own_code (ply_at z x y)))) ∙ own)
              (there (suc n) side v board a c (λ x y b. legal g b x (coded_move g x a (ply_at z x y).code)) ∙ code),
        );
        adds_up = omega (arith, one_more, c.adds_up);
        side_is = side_after-more s.first ms m ∙ ap opponent c.side_is;
        from_is = plies_end-more g s.depth s.first 1 ms m ∙ there (suc n) side v board a c (λ x y b. end (ply_at z x y).code);
        board_is = board_after-more g s.first s.board ms m ∙ there (suc n) side v board a c (λ x y b. after g b x (coded_move g x a (ply_at z x y).code));
      }

  codes_write : (q : Quant) (side : Side) (v : ℕ) (board : Board) (a : Assignment) (m : Move) → legal g board side m ≡ true
      → (other : Assignment) × SameOutside (bounds q v (code_size z side)) a other × (read side v other ≡ m)
  codes_write q Black v board a m l = writes_code g q Black v z.black_code board a m l
  codes_write q White v board a m l = writes_code g q White v z.white_code board a m l

  codes_read : (side : Side) (v : ℕ) (board : Board) (a other : Assignment) → SameBelow (v + code_size z side) a other → legal g board side (read side v a) ≡ legal g board side (read side v other)
  codes_read Black v board a other same = legal_same g board Black v z.black_code a other same
  codes_read White v board a other same = legal_same g board White v z.white_code a other same

  module _ (out : Assignment → Bool) (met : MeetsConditions s out) where
    -- the value of the blocks behind the plies
    abbrev pub served : Assignment → Bool
    served a = value (closing (claim_span s) (attack_span s) (layout_of s).refuting (layout_of s).place) out a

    pub claims : Claims g z read served (Carried s)
    claims = record {
      keeps = λ n side v b a other c same. carried_same n side v b a c other same;
      black_step = λ n v b a c gb gw l. carried_more n Black v b a c gb gw l l;
      white_step = λ n v b a c gb gw sample l. carried_more n White v b a c gb gw sample l;
      writes = codes_write;
      reads = codes_read;
      black_stands = λ n side v b a c h. after_moves.black_stands s out met a c.moves c.plays (there n side v b a c (λ x y d. goal g d Black) ∙ h);
      white_stands = λ n side v b a c nb h. after_moves.white_stands s out met a c.moves c.plays (there n side v b a c (λ x y d. goal g d Black) ∙ nb) (there n side v b a c (λ x y d. goal g d White) ∙ h);
      spent = λ side v b a c nb. after_moves.spent s out met a c.moves c.plays (omega (arith, c.adds_up)) (there 0 side v b a c (λ x y d. goal g d Black) ∙ nb);
      own_illegal = λ n side v b a c nb illegal. after_moves.own_illegal s out met a c.moves c.plays (there (suc n) side v b a c (λ x y d. goal g d Black) ∙ nb)
          (there (suc n) side v b a c (λ x y d. legal g d x (coded_move g x a (own_code (ply_at z x y)))) ∙ ap (legal g b side) (own_read side v a) ∙ illegal);
      code_illegal = λ n v b a c nw sample illegal. after_moves.code_illegal s out met a c.moves c.plays (omega (arith, c.adds_up)) c.side_is (there (suc n) White v b a c (λ x y d. goal g d White) ∙ nw)
          (there (suc n) White v b a c (λ x y d. legal g d x (coded_move g x a (own_code (ply_at z x y)))) ∙ sample)
          (there (suc n) White v b a c (λ x y d. legal g d x (coded_move g x a (ply_at z x y).code)) ∙ illegal);
    }
