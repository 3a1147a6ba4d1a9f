-- The places that a certificate may have, and how many steps each may take.
use Rattle.std.specs.Prelude.{ℕ, zero, suc, ◌≡◌, ◌+◌, ◌*◌, length}
use Rattle.bddl_model.specs.declared.game.Side.{Side}
use Rattle.bddl_model.specs.declared.game.Side.TheVariants.{Black, White}
use Rattle.bddl_model.specs.Game.{side_after}
use Rattle.bddl_model.specs.Setup.{Setup}
use Rattle.bddl_model.specs.Certificate.{Place}
use Rattle.bddl_model.specs.Bounds.{game_bound, filled, most_replies}

-- so many plies after the start, on a board of the same size
pub record MayBeMet (s : Setup) (p : Place) : Type 0 where
  pub made : ℕ
  pub left : made + p.left ≡ s.depth
  pub side : p.side ≡ side_after s.first made
  pub size : length p.board ≡ s.game.height * s.game.width

-- the setup with its start at this place
abbrev pub begun_at : Setup → Place → Setup
begun_at s p = record { game = s.game; board = p.board; first = p.side; depth = p.left }

-- A node where the side is to move takes a step, and before it, if this is Black, a search; and then the nodes behind it,
-- with so many plies left, each as if no other led to it.
abbrev pub tree_cost : ℕ → ℕ → Side → ℕ → ℕ
tree_cost search replies Black zero = search + 1
tree_cost search replies Black (suc n) = search + 1 + tree_cost search replies White n
tree_cost search replies White zero = 1
tree_cost search replies White (suc n) = 1 + replies * tree_cost search replies Black n

-- with no search longer than one over a full board, and no more replies than White may have
abbrev pub cost_at : Setup → Side → ℕ → ℕ
cost_at s side left = tree_cost (game_bound (filled s)) (most_replies s) side left
