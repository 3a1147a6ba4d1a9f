-- An assignment that plays moves plays the first few of them, and one more where its next codes are legal; so does one that agrees on their bits.
use Rattle.std.proofs.Common.{◌≡◌, ℕ, zero, suc, ◌≤◌, ◌<◌, ◌+◌, true, false, List, [], ◌∷◌, ◌++◌, length, take, refl, sym, ap, ◌∙◌, arith}
use Rattle.bddl_model.specs.declared.game.Side.{Side}
use Rattle.bddl_model.specs.declared.game.Side.TheVariants.{Black, White}
use Rattle.bddl_model.specs.declared.game.Move.{Move}
use Rattle.bddl_model.specs.declared.game.PlyBits.{PlyBits}
use Rattle.bddl_model.specs.Truth.{Assignment}
use Rattle.bddl_model.specs.Game.{Game, opponent, side_after}
use Rattle.bddl_model.specs.Board.{Board}
use Rattle.bddl_model.specs.Moves.{legal, after}
use Rattle.bddl_model.specs.Goal.{goal}
use Rattle.bddl_model.specs.Layout.{Sizes, sizes_of, ply_at, plies_end, end}
use Rattle.bddl_model.specs.Exact.{coded_move, own_code, board_after, Plays}
use Rattle.bddl_model.proofs.Blocks.{SameBelow}
use Rattle.bddl_model.specs.Encoding.{AreCoded, move_tests}
use Rattle.bddl_laws.proofs.Codes.{legal_same, move_same}
use Rattle.bddl_laws.proofs.GameTests.{move_tests_same}

-- ---- where plies stand

pub ply_end_is_later : (z : Sizes) (side : Side) (v : ℕ) → v ≤ end (ply_at z side v).code
ply_end_is_later z Black v = omega arith
ply_end_is_later z White v = omega arith

pub plies_end_is_later : (z : Sizes) (n : ℕ) (side : Side) (v : ℕ) → v ≤ plies_end z n side v
plies_end_is_later z zero side v = omega arith
plies_end_is_later z (suc n) side v = omega (arith, ply_end_is_later z side v, plies_end_is_later z n (opponent side) (end (ply_at z side v).code))

pub more_plies_end_later : (z : Sizes) (k n : ℕ) (side : Side) (v : ℕ) → k ≤ n → plies_end z k side v ≤ plies_end z n side v
more_plies_end_later z zero n side v le = plies_end_is_later z n side v
more_plies_end_later z (suc k) zero side v le = absurd (omega arith)
more_plies_end_later z (suc k) (suc n) side v le = more_plies_end_later z k n (opponent side) (end (ply_at z side v).code) (omega arith)

pub plies_end-suc : (z : Sizes) (k : ℕ) (side : Side) (v : ℕ) → plies_end z (suc k) side v ≡ end (ply_at z (side_after side k) (plies_end z k side v)).code
plies_end-suc z zero side v = refl
plies_end-suc z (suc k) side v = plies_end-suc z k (opponent side) (end (ply_at z side v).code)

-- ---- one move more

pub side_after-more : (side : Side) (ms : List Move) (m : Move) → side_after side (length (ms ++ m ∷ [])) ≡ opponent (side_after side (length ms))
side_after-more side [] m = refl
side_after-more side (l ∷ ms) m = side_after-more (opponent side) ms m

pub board_after-more : (g : Game) (side : Side) (b : Board) (ms : List Move) (m : Move) → board_after g side b (ms ++ m ∷ []) ≡ after g (board_after g side b ms) (side_after side (length ms)) m
board_after-more g side b [] m = refl
board_after-more g side b (l ∷ ms) m = board_after-more g (opponent side) (after g b side l) ms m

module _ (g : Game) (depth : ℕ) where
  abbrev z : Sizes
  z = sizes_of g depth

  -- the bits of the ply behind these moves
  abbrev pub ply_behind : Side → ℕ → List Move → PlyBits
  ply_behind side v ms = ply_at z (side_after side (length ms)) (plies_end z (length ms) side v)

  pub plies_end-more : (side : Side) (v : ℕ) (ms : List Move) (m : Move) → plies_end z (length (ms ++ m ∷ [])) side v ≡ end (ply_behind side v ms).code
  plies_end-more side v [] m = refl
  plies_end-more side v (l ∷ ms) m = plies_end-more (opponent side) (end (ply_at z side v).code) ms m

  pub plays_more : (a : Assignment) (side : Side) (b : Board) (v : ℕ) (ms : List Move) → Plays g depth a side b v ms
      → goal g (board_after g side b ms) Black ≡ false → goal g (board_after g side b ms) White ≡ false
      → legal g (board_after g side b ms) (side_after side (length ms)) (coded_move g (side_after side (length ms)) a (own_code (ply_behind side v ms))) ≡ true
      → legal g (board_after g side b ms) (side_after side (length ms)) (coded_move g (side_after side (length ms)) a (ply_behind side v ms).code) ≡ true
      → Plays g depth a side b v (ms ++ coded_move g (side_after side (length ms)) a (ply_behind side v ms).code ∷ [])
  plays_more a side b v [] h gb gw own code = (gb, gw, own, code, refl, tt)
  plays_more a side b v (m ∷ ms) h gb gw own code =
      (h.0, h.1, h.2, h.3, h.4, plays_more a (opponent side) (after g b side m) (end (ply_at z side v).code) ms h.5 gb gw own code)

  -- ---- the first few

  pub plays_front : (a : Assignment) (side : Side) (b : Board) (v i : ℕ) (ms : List Move) → Plays g depth a side b v ms → Plays g depth a side b v (take i ms)
  plays_front a side b v zero ms h = tt
  plays_front a side b v (suc i) [] h = tt
  plays_front a side b v (suc i) (m ∷ ms) h = (h.0, h.1, h.2, h.3, h.4, plays_front a (opponent side) (after g b side m) (end (ply_at z side v).code) i ms h.5)

  pub plays_coded : (a : Assignment) (side : Side) (b : Board) (v : ℕ) (ms : List Move) → Plays g depth a side b v ms → AreCoded g depth a side b v ms
  plays_coded a side b v [] h = tt
  plays_coded a side b v (m ∷ ms) h = (h.3, h.4, plays_coded a (opponent side) (after g b side m) (end (ply_at z side v).code) ms h.5)

  -- what is known of the moment before a ply
  pub record Moment (a : Assignment) (side : Side) (board : Board) (ply : PlyBits) : Type 0 where
    pub no_black : goal g board Black ≡ false
    pub no_white : goal g board White ≡ false
    pub own : legal g board side (coded_move g side a (own_code ply)) ≡ true
    pub code : legal g board side (coded_move g side a ply.code) ≡ true

  pub plays_at : (a : Assignment) (side : Side) (b : Board) (v i : ℕ) (ms : List Move) → Plays g depth a side b v ms → i < length ms
      → Moment a (side_after side i) (board_after g side b (take i ms)) (ply_at z (side_after side i) (plies_end z i side v))
  plays_at a side b v i [] h lt = absurd (omega arith)
  plays_at a side b v zero (m ∷ ms) h lt = record { no_black = h.0; no_white = h.1; own = h.2; code = ap (legal g b side) h.4 ∙ h.3 }
  plays_at a side b v (suc i) (m ∷ ms) h lt = plays_at a (opponent side) (after g b side m) (end (ply_at z side v).code) i ms h.5 (omega arith)

  -- ---- the same bits

  pub own_same : (board : Board) (side : Side) (v : ℕ) (a other : Assignment) → SameBelow (end (own_code (ply_at z side v))) a other
      → legal g board side (coded_move g side a (own_code (ply_at z side v))) ≡ legal g board side (coded_move g side other (own_code (ply_at z side v)))
  own_same board Black v a other s = legal_same g board Black v z.black_code a other s
  own_same board White v a other s = legal_same g board White v z.white_code a other s

  pub code_move_same : (board : Board) (side : Side) (v : ℕ) (a other : Assignment) (m : Move) → SameBelow (end (ply_at z side v).code) a other
      → legal g board side m ≡ true → coded_move g side a (ply_at z side v).code ≡ m → coded_move g side other (ply_at z side v).code ≡ m
  code_move_same board Black v a other m s = move_same g board Black v z.black_code a other m s
  code_move_same board White v a other m s = move_same g board White (v + z.white_code) z.white_code a other m s

  pub own_ends_first : (side : Side) (v : ℕ) → end (own_code (ply_at z side v)) ≤ end (ply_at z side v).code
  own_ends_first Black v = omega arith
  own_ends_first White v = omega arith

  pub plays_same : (a other : Assignment) (side : Side) (b : Board) (v : ℕ) (ms : List Move) → SameBelow (plies_end z (length ms) side v) a other → Plays g depth a side b v ms → Plays g depth other side b v ms
  plays_same a other side b v [] s h = tt
  plays_same a other side b v (m ∷ ms) s h =
      let behind = end (ply_at z side v).code in
      let later = plies_end_is_later z (length ms) (opponent side) behind in
      let own = own_ends_first side v in (
        h.0,
        h.1,
        sym (own_same b side v a other (λ w lt. s w (omega (arith, later, own, lt)))) ∙ h.2,
        h.3,
        code_move_same b side v a other m (λ w lt. s w (omega (arith, later, lt))) h.3 h.4,
        plays_same a other (opponent side) (after g b side m) behind ms s h.5,
      )

  -- ---- tests of codes

  pub own_tests_same : (side : Side) (v : ℕ) (a other : Assignment) → SameBelow (end (own_code (ply_at z side v))) a other
      → move_tests g side (coded_move g side a (own_code (ply_at z side v))) ≡ move_tests g side (coded_move g side other (own_code (ply_at z side v)))
  own_tests_same Black v a other s = move_tests_same g Black v z.black_code a other s
  own_tests_same White v a other s = move_tests_same g White v z.white_code a other s

  pub code_tests_same : (side : Side) (v : ℕ) (a other : Assignment) → SameBelow (end (ply_at z side v).code) a other
      → move_tests g side (coded_move g side a (ply_at z side v).code) ≡ move_tests g side (coded_move g side other (ply_at z side v).code)
  code_tests_same Black v a other s = move_tests_same g Black v z.black_code a other s
  code_tests_same White v a other s = move_tests_same g White (v + z.white_code) z.white_code a other s
