-- A test of assignments says of every position of a game what can be forced from there.
use Rattle.std.specs.Prelude.{ℕ, ◌≡◌, ◌+◌, ◌-◌, ◌<◌, ◌≤◌, Bool, true, false, not, List, [], ◌∷◌, ◌++◌, length, drop}
use Rattle.bddl_model.specs.declared.formula.Quant.TheVariants.{Exists}
use Rattle.bddl_model.specs.declared.formula.Bound.{Bound}
use Rattle.bddl_model.specs.declared.formula.Span.{Span}
use Rattle.bddl_model.specs.declared.game.Side.{Side}
use Rattle.bddl_model.specs.declared.game.Side.TheVariants.{Black, White}
use Rattle.bddl_model.specs.declared.game.Move.{Move}
use Rattle.bddl_model.specs.declared.game.PlyBits.{PlyBits}
use Rattle.bddl_model.specs.Truth.{Assignment, Formula, value, clauses_true}
use Rattle.bddl_model.specs.Bits.{bits, number_at}
use Rattle.bddl_model.specs.Game.{Game, actions, opponent, side_after}
use Rattle.bddl_model.specs.Board.{Board}
use Rattle.bddl_model.specs.Moves.{legal, after}
use Rattle.bddl_model.specs.Goal.{goal}
use Rattle.bddl_model.specs.Win.{win}
use Rattle.bddl_model.specs.Setup.{Setup}
use Rattle.bddl_model.specs.Layout.{sizes_of, layout, ply_at, plies_end, blocks, prefix_of, bounds, end}

-- ---- moves in bits

-- the move that the bits of a side's code name: the action, x - 1, y - 1
abbrev pub coded_move : Game → Side → Assignment → Span → Move
coded_move g side a s = record {
  action = number_at a s.from (bits (length (actions g side)));
  x = number_at a (s.from + bits (length (actions g side))) (bits g.width) + 1;
  y = number_at a (s.from + bits (length (actions g side)) + bits g.width) (bits g.height) + 1;
}

-- it is a legal one; that of a side without actions never is
abbrev pub codes_legal : Game → Board → Side → Assignment → Span → Bool
codes_legal g b side a s = legal g b side (coded_move g side a s)

-- the code of the ply's player, as far as it must be legal: a Black code, or a White sample
abbrev pub own_code : PlyBits → Span
own_code p = elim p.side [ Black ↦ p.code | White ↦ p.sample ]

-- ---- positions

-- the board after these moves
abbrev pub board_after : Game → Side → Board → List Move → Board
board_after g side b [] = b
board_after g side b (m ∷ ms) = board_after g (opponent side) (after g b side m) ms

-- From variable v on, the assignment gives the plies the codes of these legal moves, and each White ply a sample of some legal move; no goal stands before the last board.
abbrev pub Plays : Game → ℕ → Assignment → Side → Board → ℕ → List Move → Type 0
Plays g depth a side b v [] = Unit {0}
Plays g depth a side b v (m ∷ ms) =
    let p = ply_at (sizes_of g depth) side v in
    (goal g b Black ≡ false) × (goal g b White ≡ false)
    × (codes_legal g b side a (own_code p) ≡ true)
    × (legal g b side m ≡ true) × (coded_move g side a p.code ≡ m)
    × Plays g depth a (opponent side) (after g b side m) (end p.code) ms

-- legal moves, sides in turn, of which no one is made where a goal stands
abbrev pub MayPlay : Game → Side → Board → List Move → Type 0
MayPlay g side b [] = Unit {0}
MayPlay g side b (m ∷ ms) =
    (goal g b Black ≡ false) × (goal g b White ≡ false)
    × (legal g b side m ≡ true)
    × MayPlay g (opponent side) (after g b side m) ms

-- ---- exactness

-- these moves may be played from the start
abbrev pub MayPlayFrom : Setup → List Move → Type 0
MayPlayFrom s ms = (length ms ≤ s.depth) × MayPlay s.game s.first s.board ms

-- the assignment plays these moves from the start
abbrev pub PlaysFrom : Setup → Assignment → List Move → Type 0
PlaysFrom s a ms = (length ms ≤ s.depth) × Plays s.game s.depth a s.first s.board 1 ms

-- the first variable of the ply that comes after so many
abbrev pub ply_from : Setup → ℕ → ℕ
ply_from s k = plies_end (sizes_of s.game s.depth) k s.first 1

-- the value of the test under the quantifiers of a prefix from this variable on
abbrev pub value_from : List Bound → (Assignment → Bool) → ℕ → Assignment → Bool
value_from prefix matrix v a = value (drop (v - 1) prefix) matrix a

-- After the moves, the side to move, the board, the plies left, and the bits of the next ply.
abbrev pub to_move : Setup → List Move → Side
to_move s ms = side_after s.first (length ms)

abbrev pub position : Setup → List Move → Board
position s ms = board_after s.game s.first s.board ms

abbrev pub next_ply : Setup → List Move → PlyBits
next_ply s ms = ply_at (sizes_of s.game s.depth) (to_move s ms) (ply_from s (length ms))

-- a ply is left, and Black's goal doesn't stand
abbrev pub GoesOn : Setup → List Move → Type 0
GoesOn s ms = (length ms < s.depth) × (goal s.game (position s ms) Black ≡ false)

pub record IsExact (prefix : List Bound) (matrix : Assignment → Bool) (s : Setup) : Type 0 where
  -- the value is that of winning from there
  pub won : (a : Assignment) (ms : List Move) → PlaysFrom s a ms
      → value_from prefix matrix (ply_from s (length ms)) a ≡ win s.game (to_move s ms) (position s ms) (s.depth - length ms)
  -- a code of Black that is no legal move loses
  pub black_illegal : (a : Assignment) (ms : List Move) → PlaysFrom s a ms → GoesOn s ms → to_move s ms ≡ Black
      → codes_legal s.game (position s ms) Black a (next_ply s ms).code ≡ false
      → value_from prefix matrix (end (next_ply s ms).code) a ≡ false
  -- so does a sample of White that is none
  pub sample_illegal : (a : Assignment) (ms : List Move) → PlaysFrom s a ms → GoesOn s ms → to_move s ms ≡ White
      → codes_legal s.game (position s ms) White a (next_ply s ms).sample ≡ false
      → value_from prefix matrix (end (next_ply s ms).sample) a ≡ false
  -- a code of White that is none wins, unless White's goal stands
  pub white_illegal : (a : Assignment) (ms : List Move) → PlaysFrom s a ms → GoesOn s ms → to_move s ms ≡ White
      → codes_legal s.game (position s ms) White a (next_ply s ms).sample ≡ true
      → codes_legal s.game (position s ms) White a (next_ply s ms).code ≡ false
      → value_from prefix matrix (end (next_ply s ms).code) a ≡ not (goal s.game (position s ms) White)

-- the form's prefix is that of the inputs, with existential variables behind them, and the form is exact
abbrev pub IsExactForm : Formula → Setup → Type 0
IsExactForm f s =
    let inputs = layout s.game s.first s.depth in
    ((gates : ℕ) × (f.prefix ≡ prefix_of (blocks inputs) ++ bounds Exists (inputs.inputs + 1) gates))
    × IsExact f.prefix (clauses_true f.clauses) s
