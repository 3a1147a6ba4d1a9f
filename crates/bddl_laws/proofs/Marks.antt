-- Some test meets the conditions: the one whose marks are those of the boards that the codes lead to.
use Rattle.std.proofs.Common.{◌≡◌, ℕ, zero, suc, Bool, List, [], ◌∷◌, length, refl, ap, ◌∙◌}
use Rattle.bddl_model.specs.declared.game.Mark.{Mark}
use Rattle.bddl_model.specs.declared.game.Side.{Side}
use Rattle.bddl_model.specs.declared.game.Move.{Move}
use Rattle.bddl_model.specs.Truth.{Assignment}
use Rattle.bddl_model.specs.Game.{Game, opponent}
use Rattle.bddl_model.specs.Board.{Board}
use Rattle.bddl_model.specs.Moves.{after}
use Rattle.bddl_model.specs.Setup.{Setup}
use Rattle.bddl_model.specs.Layout.{sizes_of, ply_at, end}
use Rattle.bddl_model.specs.Conditions.{conditions}
use Rattle.bddl_model.specs.Exact.{coded_move, board_after}
use Rattle.bddl_model.specs.Encoding.{shown, ply_read, claim_read, attack_read, refuting_read, place_read, AreCoded, MeetsConditions}

-- the board that so many codes lead to, legal or not
coded_board : Game → ℕ → Assignment → Side → Board → ℕ → ℕ → Board
coded_board g depth a side b v zero = b
coded_board g depth a side b v (suc n) = let p = ply_at (sizes_of g depth) side v in coded_board g depth a (opponent side) (after g b side (coded_move g side a p.code)) (end p.code) n

coded_board_is : (g : Game) (depth : ℕ) (a : Assignment) (side : Side) (b : Board) (v : ℕ) (ms : List Move) → AreCoded g depth a side b v ms → coded_board g depth a side b v (length ms) ≡ board_after g side b ms
unfolding coded_board
coded_board_is g depth a side b v [] coded = refl
coded_board_is g depth a side b v (m ∷ ms) coded =
    let next = end (ply_at (sizes_of g depth) side v).code in
    ap (λ n. coded_board g depth a (opponent side) (after g b side n) next (length ms)) coded.1 ∙ coded_board_is g depth a (opponent side) (after g b side m) next ms coded.2

pub some_test_meets : (s : Setup) → (out : Assignment → Bool) × MeetsConditions s out
some_test_meets s = (
  (λ a. conditions s.depth (ply_read s a) (marks a) (claim_read s a) (attack_read s a) (refuting_read s a) (place_read s a)),
  record {
    marks = marks;
    are_shown = λ a ms few coded. ap (λ b. shown s.game b (place_read s a)) (coded_board_is s.game s.depth a s.first s.board 1 ms coded);
    tells = λ a. refl;
  },
)
  where
    marks : Assignment → ℕ → Mark
    marks a n = shown s.game (coded_board s.game s.depth a s.first s.board 1 n) (place_read s a)
