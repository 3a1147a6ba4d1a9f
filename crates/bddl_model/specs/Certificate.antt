-- Where the nodes of a certificate stand, what is wrong with one, and when it is valid.
use Rattle.std.specs.Prelude.{ℕ, zero, suc, ◌≡◌, ◌≢◌, ◌<◌, ◌-◌, Bool, true, false, not, ◌&&◌, ◌||◌, ◌==◌, is_none, if◌then◌else◌, List, [], ◌∷◌, map, length, slice_get, Option, None, Some}
use Rattle.std.specs.List.{list_all}
use Rattle.bddl_model.specs.declared.game.Side.{Side}
use Rattle.bddl_model.specs.declared.game.Side.TheVariants as sides
use Rattle.bddl_model.specs.declared.game.Move.{Move}
use Rattle.bddl_model.specs.declared.certificate.Answered.{Answered}
use Rattle.bddl_model.specs.declared.certificate.Node.{Node}
use Rattle.bddl_model.specs.declared.certificate.Node.TheVariants.{Goal, Black, White}
use Rattle.bddl_model.specs.declared.certificate.TurnFault.{TurnFault}
use Rattle.bddl_model.specs.declared.certificate.TurnFault.TheVariants as turn
use Rattle.bddl_model.specs.declared.certificate.CertFault.{CertFault}
use Rattle.bddl_model.specs.declared.certificate.CertFault.TheVariants as fault
use Rattle.bddl_model.specs.Game.{Game, opponent}
use Rattle.bddl_model.specs.Board.{Board, same_mark}
use Rattle.bddl_model.specs.Moves.{legal, moves, after}
use Rattle.bddl_model.specs.Goal.{goal}
use Rattle.bddl_model.specs.Setup.{Setup}
use Rattle.bddl_model.specs.CertificateGraph.{Links, links, Naming, namings, first_naming, linked, breadth_first}

-- ---- places

-- a side to move, a board, and how many plies are left
pub record Place : Type 0 where
  pub side : Side
  pub board : Board
  pub left : ℕ

abbrev pub start : Setup → Place
start s = record { side = s.first; board = s.board; left = s.depth }

-- where a move leads
abbrev pub behind : Game → Place → Move → Place
behind g p m = record { side = opponent p.side; board = after g p.board p.side m; left = p.left - 1 }

-- where the first naming of node m leads, or the start where there is none; so many namings back are followed at most
abbrev pub place_back : ℕ → Setup → List Naming → ℕ → Place
place_back zero s ws m = start s
place_back (suc steps) s ws m = elim (first_naming m ws) [ None ↦ start s | Some w ↦ behind s.game (place_back steps s ws w.from) w.mv ]

-- where node m stands; where each naming is from an earlier node, m namings lead back to the start
unfoldable pub place : Setup → Links → ℕ → Place
place s ls m = place_back m s (namings ls) m

abbrev pub same_side : Side → Side → Bool
same_side sides.Black sides.Black = true
same_side sides.White sides.White = true
same_side _ _ = false

abbrev pub same_board : Board → Board → Bool
same_board [] [] = true
same_board [] (y ∷ ys) = false
same_board (x ∷ xs) [] = false
same_board (x ∷ xs) (y ∷ ys) = same_mark x y && same_board xs ys

abbrev pub same_place : Place → Place → Bool
same_place p q = same_side p.side q.side && (p.left == q.left && same_board p.board q.board)

-- a naming, if it is one of node m, leads to where node m stands
abbrev pub leads_to : Setup → Links → ℕ → Naming → Bool
leads_to s ls m w = not (w.to == m) || same_place (behind s.game (place s ls w.from) w.mv) (place s ls m)

-- ---- what one node needs, whosever strategy it is

-- a node of the side: it is to move, White's goal doesn't stand, and a ply is left
abbrev pub turn_fault : Game → Side → Place → Option TurnFault → Option TurnFault
turn_fault g side p more =
    if not (same_side p.side side) then Some turn.WrongSide
    else if goal g p.board sides.White then Some turn.WhiteGoalStands
    else if p.left == 0 then Some turn.PliesSpent
    else more

-- a node at which the side makes this move
abbrev pub move_fault : Game → Side → Place → Move → Option TurnFault
move_fault g side p m = turn_fault g side p (if legal g p.board side m then None else Some turn.IllegalMove)

abbrev pub same_move : Move → Move → Bool
same_move m k = m.action == k.action && (m.x == k.x && m.y == k.y)

-- the first number from n on at which the replies aren't the moves, an end being a difference
abbrev pub difference : ℕ → List Answered → List Move → Option ℕ
difference n [] [] = None
difference n [] (m ∷ ms) = Some n
difference n (a ∷ rest) [] = Some n
difference n (a ∷ rest) (m ∷ ms) = if same_move a.mv m then difference (suc n) rest ms else Some n

abbrev pub differ_at : Option ℕ → Option TurnFault
differ_at None = None
differ_at (Some n) = Some (turn.RepliesDiffer n)

abbrev pub answers_fault : List Answered → List Move → Option TurnFault
answers_fault replies [] = Some turn.Stuck
answers_fault replies (m ∷ ms) = differ_at (difference 0 replies (m ∷ ms))

-- a node at which the side may make any move, and these are the replies to all of them
abbrev pub replies_fault : Game → Side → Place → List Answered → Option TurnFault
replies_fault g side p replies = turn_fault g side p (answers_fault replies (moves g p.board side))

-- ---- a node of Black's strategy

abbrev pub at_node : ℕ → TurnFault → CertFault
at_node n turn.WrongSide = fault.WrongSide n
at_node n turn.WhiteGoalStands = fault.WhiteGoalStands n
at_node n turn.PliesSpent = fault.PliesSpent n
at_node n turn.IllegalMove = fault.IllegalMove n
at_node n turn.Stuck = fault.Stuck n
at_node n (turn.RepliesDiffer k) = fault.RepliesDiffer n k

abbrev pub turn_at : ℕ → Option TurnFault → Option CertFault
turn_at n None = None
turn_at n (Some f) = Some (at_node n f)

-- node n at this place
abbrev pub node_fault : Game → ℕ → Place → Node → Option CertFault
node_fault g n p Goal = if goal g p.board sides.Black then None else Some (fault.GoalDoesNotStand n)
node_fault g n p (Black mv next) = turn_at n (move_fault g sides.Black p mv)
node_fault g n p (White replies) = turn_at n (replies_fault g sides.White p replies)

-- ---- the whole certificate

-- all namings of node n lead to its place, and there is no fault at that place
abbrev pub fault_at : Setup → Links → ℕ → Node → Option CertFault
fault_at s ls n node = if list_all (leads_to s ls n) (namings ls) then node_fault s.game n (place s ls n) node else Some (fault.TwoPlaces n)

abbrev pub or_next : Option CertFault → Option CertFault → Option CertFault
or_next (Some f) next = Some f
or_next None next = next

-- the first fault, these being the nodes from number n on
abbrev pub faults_from : Setup → Links → ℕ → List Node → Option CertFault
faults_from s ls n [] = None
faults_from s ls n (node ∷ rest) = or_next (fault_at s ls n node) (faults_from s ls (suc n) rest)

unfoldable pub cert_fault : Setup → List Node → Option CertFault
cert_fault s nodes = faults_from s (links nodes) 0 nodes

unfoldable pub valid : Setup → List Node → Bool
valid s nodes = linked (links nodes) && is_none (cert_fault s nodes)

-- ---- shared nodes

-- no two nodes stand at one place
abbrev pub AreApart : Setup → Links → Type 0
AreApart s ls = (m k : ℕ) → m < k → k < length ls → place s ls m ≢ place s ls k

-- the nodes are the same but for the numbers of next nodes
abbrev pub IsLike : Node → Node → Type 0
IsLike Goal Goal = Unit {0}
IsLike (Black m next) (Black k other) = m ≡ k
IsLike (White rs) (White ts) = map (λ a. a.mv) rs ≡ map (λ a. a.mv) ts
IsLike _ _ = ⊥

-- node k is the one with the least number of those at a place
pub record IsLeastAt (s : Setup) (nodes : List Node) (p : Place) (k : ℕ) (node : Node) : Type 0 where
  pub found : slice_get nodes k ≡ Some node
  pub there : place s (links nodes) k ≡ p
  pub least : (j : ℕ) → j < k → place s (links nodes) j ≢ p

-- it is valid, one node stands at a place, and nodes are numbered breadth first
pub record IsShared (s : Setup) (nodes : List Node) : Type 0 where
  pub valid : valid s nodes ≡ true
  pub apart : AreApart s (links nodes)
  pub order : breadth_first (links nodes) ≡ true

-- the shared form of a certificate: each node is the one that has the least number of those that stand at its place in the certificate
pub record IsSharedForm (s : Setup) (nodes shared : List Node) : Type 0 where
  pub form : IsShared s shared
  pub alike : (m : ℕ) (node : Node) → slice_get shared m ≡ Some node → (k : ℕ) × (old : Node) × IsLeastAt s nodes (place s (links shared) m) k old × IsLike node old
