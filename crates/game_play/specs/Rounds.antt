-- A play so far, and how it ends.
use Rattle.std.specs.Prelude.{ℕ, suc, Bool, true, false, ◌≡◌, ◌+◌, ◌-◌, ◌*◌, ◌<◌, ◌≤◌, List, [], ◌++◌, length, Option, Result, Ok, Err}
use Rattle.bddl_model.specs.declared.certificate.Node.{Node}
use Rattle.bddl_model.specs.declared.game.Side.{Side}
use Rattle.bddl_model.specs.declared.game.Side.TheVariants.{Black, White}
use Rattle.bddl_model.specs.declared.play.Played.{Played}
use Rattle.bddl_model.specs.declared.play.Played.TheVariants.{Reached, Gone, WriteFault}
use Rattle.bddl_model.specs.Board.{Board}
use Rattle.bddl_model.specs.CertificateGraph.{links}
use Rattle.bddl_model.specs.Certificate.{place}
use Rattle.bddl_model.specs.Play.{with_text, play_on, plays}
use Rattle.bddl_model.specs.Setup.{Setup}
use Rattle.io_edge.specs.Outside.{with_bytes, WithFront}
use Rattle.io_edge.specs.declared.sink.SinkEnd.{SinkEnd}
use Rattle.game_play.specs.Plies.{EndsWith}

-- White has answered at most every second ply
abbrev pub Alternates : Side → ℕ → List ℕ → Type 0
Alternates White made said = 2 * length said ≤ made
Alternates Black made said = 2 * length said ≤ made + 1

-- so many plies were made, and node id is reached on this board; what was put is the front of the play under what was answered, whatever comes
pub record SoFar (s : Setup) (nodes : List Node) (id made : ℕ) (board : Board) (said : List ℕ) (w_old w_new : Option (List ℕ)) : Type 0 where
  pub inside : id < length nodes
  pub here : (place s (links nodes) id).board ≡ board
  pub left : made + (place s (links nodes) id).left ≡ s.depth
  pub turns : Alternates (place s (links nodes) id).side made said
  pub text : List ℕ
  pub written : w_new ≡ with_bytes w_old text
  pub goes : (rest : List ℕ) → plays s nodes (said ++ rest) ≡ with_text text (play_on s.game nodes (suc (s.depth - made)) made id board rest)

abbrev pub is_gone_end : Result Played SinkEnd → Bool
is_gone_end (Ok Gone) = true
is_gone_end r = false

-- the end and the transcript are those of the play under what was answered, whatever else might have come; of a refusal a front was put
abbrev pub RoundsEnd : Setup → List Node → List ℕ → Option (List ℕ) → Option (List ℕ) → Result Played SinkEnd → Type 0
RoundsEnd s nodes said w_old w_new (Ok e) = (rest : List ℕ) → (e ≡ Gone → rest ≡ []) → EndsWith (plays s nodes (said ++ rest)) e w_old w_new
RoundsEnd s nodes said w_old w_new (Err e) = (rest : List ℕ) → WithFront w_old w_new (plays s nodes (said ++ rest)).text

abbrev pub IsReached : ℕ → Played → Type 0
IsReached depth (Reached plies) = plies ≤ depth
IsReached depth end = ⊥

-- a goal is reached within the depth, and no write is told to be refused
abbrev pub IsEnd : ℕ → Played → Type 0
IsEnd depth (Reached plies) = plies ≤ depth
IsEnd depth WriteFault = ⊥
IsEnd depth end = Unit {0}
