-- A play under a certificate, as an end and a transcript that White's replies decide.
use Rattle.std.specs.Prelude.{ℕ, zero, suc, ◌+◌, ◌≤◌, Bool, true, ◌&&◌, List, [], ◌∷◌, ◌++◌, map, length, take, drop, slice_get, Option, None, Some, nat_lt, if◌then◌else◌, codes}
use Rattle.std.specs.Fmt.{decimal}
use Rattle.bddl_model.specs.declared.game.Mark.{Mark}
use Rattle.bddl_model.specs.declared.game.Mark.TheVariants as marks
use Rattle.bddl_model.specs.declared.game.Side.{Side}
use Rattle.bddl_model.specs.declared.game.Side.TheVariants.{Black, White}
use Rattle.bddl_model.specs.declared.game.Move.{Move}
use Rattle.bddl_model.specs.declared.certificate.Answered.{Answered}
use Rattle.bddl_model.specs.declared.certificate.Node.{Node}
use Rattle.bddl_model.specs.declared.certificate.Node.TheVariants as nodes
use Rattle.bddl_model.specs.declared.play.Played.{Played}
use Rattle.bddl_model.specs.declared.play.Played.TheVariants as ends
use Rattle.bddl_model.specs.Board.{Board}
use Rattle.bddl_model.specs.Game.{Game, action_at}
use Rattle.bddl_model.specs.Moves.{moves, after}
use Rattle.bddl_model.specs.Setup.{Setup}

-- ---- what is shown

abbrev pub mark_byte : Mark → ℕ
mark_byte marks.Free = 46
mark_byte marks.Black = 66
mark_byte marks.White = 87

-- so many rows of this width, the first row first
unfoldable pub rows_text : ℕ → ℕ → Board → List ℕ
rows_text width zero board = []
rows_text width (suc rows) board = map mark_byte (take width board) ++ (10 ∷ rows_text width rows (drop width board))

unfoldable pub board_text : Game → Board → List ℕ
board_text g board = codes "board\n" ++ rows_text g.width g.height board

-- the name of the move's action, and its cell
unfoldable pub move_text : Game → Side → Move → List ℕ
move_text g side m = (action_at g side m.action).name ++ (32 ∷ (decimal m.x ++ (32 ∷ (decimal m.y ++ 10 ∷ []))))

unfoldable pub numbered_text : Game → ℕ → List Move → List ℕ
numbered_text g n [] = []
numbered_text g n (m ∷ ms) = decimal n ++ (32 ∷ (move_text g White m ++ numbered_text g (n + 1) ms))

-- how many moves White has, and each with its number
unfoldable pub moves_text : Game → List Move → List ℕ
moves_text g ms = codes "moves " ++ (decimal (length ms) ++ (10 ∷ numbered_text g 0 ms))

abbrev pub side_word : Side → List ℕ
side_word Black = codes "black "
side_word White = codes "white "

-- a move that the side made
unfoldable pub made_text : Game → Side → Move → List ℕ
made_text g side m = side_word side ++ move_text g side m

unfoldable pub goal_text : List ℕ
goal_text = codes "goal\n"

-- ---- the play

pub record Told : Type 0 where
  pub end : Played
  pub text : List ℕ

abbrev pub with_text : List ℕ → Told → Told
with_text front t = record { end = t.end; text = front ++ t.text }

abbrev pub told : Played → List ℕ → Told
told end text = record { end = end; text = text }

-- what follows the next of the replies, these being the answers of the node and the moves that were shown
abbrev pub replied : Game → (Answered → List ℕ → Told) → List Answered → List Move → List ℕ → Told
replied g next answers shown [] = told ends.Gone []
replied g next answers shown (k ∷ replies) =
    if nat_lt k (length shown) then elim (slice_get answers k) [ None ↦ told ends.Gone [] | Some a ↦ with_text (made_text g White a.mv) (next a replies) ]
    else told (ends.BadReply k (length shown)) []

-- the play at a node, after so many plies, and what follows the answer that is made there
abbrev pub played_at : Game → (Side → Answered → List ℕ → Told) → ℕ → Node → Board → List ℕ → Told
played_at g next made nodes.Goal board replies = told (ends.Reached made) goal_text
played_at g next made (nodes.Black mv n) board replies = with_text (made_text g Black mv) (next Black (record { mv = mv; next = n }) replies)
played_at g next made (nodes.White answers) board replies = with_text (moves_text g (moves g board White)) (replied g (next White) answers (moves g board White) replies)

-- the play from node id on, over so many nodes at most
unfoldable pub play_on : Game → List Node → ℕ → ℕ → ℕ → Board → List ℕ → Told
play_on g all zero made id board replies = told ends.Gone []
play_on g all (suc n) made id board replies =
    with_text (board_text g board) (elim (slice_get all id) [ None ↦ told ends.Gone [] | Some node ↦ played_at g (λ side a. play_on g all n (made + 1) a.next.0 (after g board side a.mv)) made node board replies ])

-- from the start on, with a node for each moment
unfoldable pub plays : Setup → List Node → List ℕ → Told
plays s all replies = play_on s.game all (suc s.depth) 0 0 s.board replies

-- ---- replies that are among the moves shown

abbrev pub reply_in_range : (Answered → List ℕ → Bool) → List Answered → List Move → List ℕ → Bool
reply_in_range next answers shown [] = true
reply_in_range next answers shown (k ∷ replies) = nat_lt k (length shown) && elim (slice_get answers k) [ None ↦ true | Some a ↦ next a replies ]

abbrev pub in_range_at : Game → (Side → Answered → List ℕ → Bool) → Node → Board → List ℕ → Bool
in_range_at g next nodes.Goal board replies = true
in_range_at g next (nodes.Black mv n) board replies = next Black (record { mv = mv; next = n }) replies
in_range_at g next (nodes.White answers) board replies = reply_in_range (next White) answers (moves g board White) replies

unfoldable pub in_range_on : Game → List Node → ℕ → ℕ → Board → List ℕ → Bool
in_range_on g all zero id board replies = true
in_range_on g all (suc n) id board replies = elim (slice_get all id) [ None ↦ true | Some node ↦ in_range_at g (λ side a. in_range_on g all n a.next.0 (after g board side a.mv)) node board replies ]

-- each reply that the play takes is the number of a move that was shown
unfoldable pub in_range : Setup → List Node → List ℕ → Bool
in_range s all replies = in_range_on s.game all (suc s.depth) 0 s.board replies

-- ---- ends

-- Black's goal was reached, within so many plies
abbrev pub Reaches : ℕ → Played → Type 0
Reaches depth (ends.Reached plies) = plies ≤ depth
Reaches depth ends.Gone = ⊥
Reaches depth (ends.BadReply number count) = ⊥
Reaches depth ends.WriteFault = ⊥

-- so it was, or no reply came
abbrev pub ReachesOrGone : ℕ → Played → Type 0
ReachesOrGone depth (ends.Reached plies) = plies ≤ depth
ReachesOrGone depth ends.Gone = Unit {0}
ReachesOrGone depth (ends.BadReply number count) = ⊥
ReachesOrGone depth ends.WriteFault = ⊥
