-- Where nodes stand by the first namings that are known.
use Rattle.std.specs.Prelude.{◌≡◌, ℕ, zero, suc, ◌<◌, true, List, [], ◌∷◌}
use Rattle.std.specs.List.{slice_index_or}
use Rattle.bddl_model.specs.declared.game.Move.{Move}
use Rattle.bddl_model.specs.Game.{Game}
use Rattle.bddl_model.specs.Board.{Board}
use Rattle.bddl_model.specs.Moves.{legal}
use Rattle.bddl_model.specs.Setup.{Setup}
use Rattle.bddl_model.specs.Certificate.{Place, start, behind}
use Rattle.cert_checker.specs.declared.known.Known.{Known}
use Rattle.cert_checker.specs.declared.known.Known.TheVariants.{Unnamed, First, Two}
use Rattle.cert_checker.specs.declared.turn.Turn.{Turn}

abbrev pub place_at : Turn → Board → Place
place_at turn board = record { side = turn.side; board = board; left = turn.left }

-- a list of entries, one for each node
abbrev pub Table : Type 0
Table = List Known

abbrev pub known_at : Table → ℕ → Known
known_at t m = slice_index_or t m Unnamed

-- where node m stands by the table, so many namings back being followed at most
unfoldable pub place_back_in : ℕ → Setup → Table → ℕ → Place
place_back_in zero s t m = start s
place_back_in (suc steps) s t m = elim (known_at t m) [ Unnamed ↦ start s | First from mv ↦ behind s.game (place_back_in steps s t from) mv | Two ↦ start s ]

abbrev pub place_in : Setup → Table → ℕ → Place
place_in s t m = place_back_in m s t m

-- the side whose turn it is may make the move, and a ply is left
pub record MayMove (g : Game) (p : Place) (m : Move) : Type 0 where
  pub legal : legal g p.board p.side m ≡ true
  pub left : 0 < p.left

-- each first naming is of a later node, and by a move that the namer may make
abbrev pub IsTable : Setup → Table → Type 0
IsTable s t = (m from : ℕ) (mv : Move) → known_at t m ≡ First from mv → (from < m) × MayMove s.game (place_in s t from) mv

-- the first namings are by the first n nodes
abbrev pub IsNamedBelow : ℕ → Table → Type 0
IsNamedBelow n t = (m from : ℕ) (mv : Move) → known_at t m ≡ First from mv → from < n

-- where these moves lead
abbrev pub played : Game → Place → List Move → Place
played g p [] = p
played g p (m ∷ ms) = played g (behind g p m) ms

-- each of them may be made
abbrev pub MayPlay : Game → Place → List Move → Type 0
MayPlay g p [] = Unit {0}
MayPlay g p (m ∷ ms) = MayMove g p m × MayPlay g (behind g p m) ms
