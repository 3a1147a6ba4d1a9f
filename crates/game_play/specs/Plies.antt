-- One ply of a play, whatever follows.
use Rattle.std.specs.Prelude.{ℕ, ◌<◌, ◌≤◌, length, map, Bool, true, false, ◌≡◌, List, [], ◌∷◌, ◌++◌, Option, None, Some, Result, Ok, Err, Contains}
use Rattle.bddl_model.specs.declared.certificate.Answered.{Answered}
use Rattle.bddl_model.specs.declared.certificate.Node.{Node}
use Rattle.bddl_model.specs.declared.certificate.Node.TheVariants as nodes
use Rattle.bddl_model.specs.declared.game.Side.{Side}
use Rattle.bddl_model.specs.declared.game.Side.TheVariants.{Black, White}
use Rattle.bddl_model.specs.declared.play.Played.{Played}
use Rattle.bddl_model.specs.declared.play.Played.TheVariants as ends
use Rattle.bddl_model.specs.Board.{Board}
use Rattle.bddl_model.specs.CertificateGraph.{answers}
use Rattle.bddl_model.specs.Game.{Game}
use Rattle.bddl_model.specs.Moves.{legal, moves, after}
use Rattle.bddl_model.specs.Play.{Told, with_text, replied, played_at}
use Rattle.io_edge.specs.Outside.{with_bytes, WithFront}
use Rattle.io_edge.specs.declared.sink.SinkEnd.{SinkEnd}
use Rattle.game_play.specs.declared.opponent.Reply.{Reply}
use Rattle.game_play.specs.declared.opponent.Reply.TheVariants.{Choice, Gone}
use Rattle.game_play.specs.declared.ply.Ply.{Ply}
use Rattle.game_play.specs.declared.ply.Ply.TheVariants.{Ended, Next}

abbrev pub taken : Reply → List ℕ
taken (Choice n) = n ∷ []
taken Gone = []

-- what is left of the numbers that were to come, once these were taken
abbrev pub LeftAfter : Option (List ℕ) → Option (List ℕ) → List ℕ → Bool → Type 0
LeftAfter None new taken gone = new ≡ None
LeftAfter (Some numbers) new taken gone = (rest : List ℕ) × (numbers ≡ taken ++ rest) × (new ≡ Some rest) × (gone ≡ true → rest ≡ [])

abbrev pub ply_is_gone : Result Ply SinkEnd → Bool
ply_is_gone (Ok (Ended ends.Gone)) = true
ply_is_gone r = false

-- the end and the text, where the replies are these
abbrev pub EndsWith : Told → Played → Option (List ℕ) → Option (List ℕ) → Type 0
EndsWith t e old new = (t.end ≡ e) × (new ≡ with_bytes old t.text)

-- what a ply did that took these replies of all that are to come: it ended the play, or it goes on behind an answer, or a write was refused
abbrev pub Goes : (List ℕ → (Side → Answered → List ℕ → Told) → Told) → Game → Side → List Answered → Board → Board → List ℕ → Option (List ℕ) → Option (List ℕ) → Result Ply SinkEnd → Type 0
Goes play g side all old new taken w_old w_new (Ok (Ended e)) = (next : Side → Answered → List ℕ → Told) (rest : List ℕ) → (e ≡ ends.Gone → rest ≡ []) → EndsWith (play (taken ++ rest) next) e w_old w_new
Goes play g side all old new taken w_old w_new (Ok (Next id)) = (a : Answered) × (text : List ℕ) × Contains all a × (a.next.0 ≡ id) × (new ≡ after g old side a.mv) × (w_new ≡ with_bytes w_old text)
    × ((next : Side → Answered → List ℕ → Told) (rest : List ℕ) → play (taken ++ rest) next ≡ with_text text (next side a rest))
Goes play g side all old new taken w_old w_new (Err e) = (next : Side → Answered → List ℕ → Told) (rest : List ℕ) → WithFront w_old w_new (play (taken ++ rest) next).text

abbrev pub mover : Node → Side
mover nodes.Goal = Black
mover (nodes.Black mv next) = Black
mover (nodes.White all) = White

-- of a node on a board, after so many plies
abbrev pub Plied : Game → ℕ → Node → Board → Board → List ℕ → Option (List ℕ) → Option (List ℕ) → Result Ply SinkEnd → Type 0
Plied g made node old new taken w_old w_new r = Goes (λ replies next. played_at g next made node old replies) g (mover node) (answers node) old new taken w_old w_new r

-- of the answers of White's node, once its moves were shown
abbrev pub Followed : Game → List Answered → Board → Board → List ℕ → Option (List ℕ) → Option (List ℕ) → Result Ply SinkEnd → Type 0
Followed g all old new taken w_old w_new r = Goes (λ replies next. replied g (next White) all (moves g old White) replies) g White all old new taken w_old w_new r

-- the play goes on, or a write was refused
abbrev pub GoesOn : Result Ply SinkEnd → Type 0
GoesOn (Ok (Ended ends.Gone)) = ⊥
GoesOn (Ok (Ended (ends.BadReply number count))) = ⊥
GoesOn r = Unit {0}

-- the node's move may be made on the board, or its answers are all moves of White, of which there is one
abbrev pub Fits : Game → Board → Node → Type 0
Fits g board nodes.Goal = Unit {0}
Fits g board (nodes.Black mv next) = legal g board Black mv ≡ true
Fits g board (nodes.White all) = (map (λ a. a.mv) all ≡ moves g board White) × (0 < length all)

abbrev pub IsWhites : Node → Type 0
IsWhites (nodes.White all) = Unit {0}
IsWhites node = ⊥

-- one reply is taken at White's node, and none at another
abbrev pub TakesFew : Node → List ℕ → Type 0
TakesFew (nodes.White all) replies = length replies ≤ 1
TakesFew node replies = replies ≡ []
