-- A certificate as it grows: the places that were met, and the nodes of the first of them.
use Rattle.std.specs.Prelude.{ℕ, ◌≡◌, ◌⊎◌, ◌-◌, ◌*◌, ◌≤◌, true, false, All, List, [], ◌∷◌, ◌++◌, length, drop, slice_get, None, Some}
use Rattle.std.specs.List.{sum_by}
use Rattle.bddl_model.specs.declared.certificate.Node.{Node}
use Rattle.bddl_model.specs.declared.game.Side.TheVariants.{Black, White}
use Rattle.bddl_model.specs.declared.game.Move.{Move}
use Rattle.bddl_model.specs.Game.{Game, opponent}
use Rattle.bddl_model.specs.Board.{Board}
use Rattle.bddl_model.specs.Goal.{goal}
use Rattle.bddl_model.specs.Moves.{legal, moves, after}
use Rattle.bddl_model.specs.Win.{win}
use Rattle.bddl_model.specs.Setup.{Setup}
use Rattle.bddl_model.specs.Bounds.{game_bound}
use Rattle.bddl_model.specs.CertificateGraph.{answers}
use Rattle.bddl_model.specs.Certificate.{Place, node_fault}
use Rattle.bddl_laws.specs.BreadthFirst.{AreNumbered, AreMade}
use Rattle.bddl_laws.specs.PlaceCosts.{MayBeMet, cost_at}
use Rattle.strategy.specs.declared.growing.Growing.{Growing}

-- ---- one node more

-- the next node is this one, and its answers are numbered
pub record Adds (g : Game) (p : Place) (node : Node) (old new : Growing) : Type 0 where
  pub nodes : new.nodes ≡ old.nodes ++ node ∷ []
  pub places : AreNumbered g p (answers node) old.places new.places

-- a place with White to move, which may make these moves
pub record AwaitsReplies (g : Game) (p : Place) (replies : List Move) : Type 0 where
  pub size : length p.board ≡ g.height * g.width
  pub side : p.side ≡ White
  pub left : 1 ≤ p.left
  pub legal : All (λ m. legal g p.board White m ≡ true) replies

-- a place with White to move on this board, where Black's goal doesn't stand and can be forced
pub record AwaitsWhite (g : Game) (board : Board) (p : Place) : Type 0 where
  pub here : p.board ≡ board
  pub side : p.side ≡ White
  pub unfinished : goal g board Black ≡ false
  pub won : win g White board p.left ≡ true

-- a place whose node can be made: where White is to move, Black can force its goal
pub record AwaitsNode (g : Game) (p : Place) : Type 0 where
  pub size : length p.board ≡ g.height * g.width
  pub left : p.left ≤ 31
  pub won : p.side ≡ White → win g White p.board p.left ≡ true

abbrev pub most_answers : Game → Place → ℕ
most_answers g p = elim p.side [ Black ↦ 1 | White ↦ length (moves g p.board White) ]

-- the steps that a search from the place may take, if it needs one
abbrev pub search_at : Game → Place → ℕ
search_at g p = elim p.side [ Black ↦ game_bound (record { game = g; board = p.board; first = Black; depth = p.left }) | White ↦ 0 ]

-- the node has no fault at the place, and Black can force its goal there and behind each of the answers
pub record IsNodeAt (g : Game) (p : Place) (node : Node) : Type 0 where
  pub fine : (n : ℕ) → node_fault g n p node ≡ None
  pub left : (1 ≤ p.left) ⊎ (answers node ≡ [])
  pub few : length (answers node) ≤ most_answers g p
  pub won : win g p.side p.board p.left ≡ true
  pub wins : All (λ a. win g (opponent p.side) (after g p.board p.side a.mv) (p.left - 1) ≡ true) (answers node)

-- ---- all nodes

-- of what was met and made
pub record Grows (s : Setup) (g : Growing) : Type 0 where
  pub made : AreMade s g.places g.nodes
  pub met : (k : ℕ) (p : Place) → slice_get g.places k ≡ Some p → MayBeMet s p
  -- Black can force its goal from each place that waits
  pub won : (k : ℕ) (p : Place) → length g.nodes ≤ k → slice_get g.places k ≡ Some p → win s.game p.side p.board p.left ≡ true

-- the steps that the nodes from number i on may take, with all that follows
abbrev pub waiting : Setup → List Place → ℕ → ℕ
waiting s places i = sum_by (λ p. cost_at s p.side p.left) (drop i places)
