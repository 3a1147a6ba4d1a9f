-- A run whose plies carry the codes of a layout's, and the gates that it takes.
use Rattle.std.specs.Prelude.{ℕ, ◌≡◌, ◌+◌, List, [], ◌∷◌}
use Rattle.std.specs.List.{sum_by}
use Rattle.bddl_model.specs.declared.game.PlyBits.{PlyBits}
use Rattle.bddl_model.specs.Board.{Board}
use Rattle.bddl_model.specs.Circuit.{Circuit}
use Rattle.bddl_model.specs.Game.{Game, actions}
use Rattle.symbol_cell.specs.Coded.{Carries}
use Rattle.symbol_cell.specs.Runs.{Ply}
use Rattle.symbol_cell.specs.Starts.{filled}
use Rattle.symbol_cell.specs.Steps.{parts}

-- as many plies, of the same sides and with the same codes
abbrev pub CarryPlies : Circuit → List PlyBits → List Ply → Type 0
CarryPlies c [] [] = Unit {0}
CarryPlies c (p ∷ ps) (s ∷ ss) = (s.side ≡ p.side) × Carries c p.code s.code × CarryPlies c ps ss
CarryPlies c _ _ = ⊥

-- ---- parts, each of which takes a unit of gates at most

abbrev pub step_parts : Game → PlyBits → ℕ
step_parts g p = sum_by parts (actions g p.side)

abbrev pub run_parts : Game → Board → List PlyBits → ℕ
run_parts g board plies = sum_by filled board + sum_by (step_parts g) plies
