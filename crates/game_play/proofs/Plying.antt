-- One ply: what is shown before and behind it, and what is taken of the replies.
use Rattle.std.proofs.Common.{◌≡◌, ℕ, ◌<◌, ◌≤◌, Bool, true, false, List, [], ◌∷◌, ◌++◌, length, slice_get, Option, Some, None, Result, Ok, Err, refl, sym, ap, ◌∙◌, subst, arith, append_assoc, append-nil}
use Rattle.std.specs.Prelude.{IsErr}
use Rattle.std.proofs.lemmas.Bool.{false≢true}
use Rattle.std.proofs.lemmas.List.Elements.{All-weaker, filter_passes}
use Rattle.std.proofs.lemmas.Option.{slice_get_within}
use Rattle.bddl_model.specs.declared.certificate.Answered.{Answered}
use Rattle.bddl_model.specs.declared.certificate.Node.{Node}
use Rattle.bddl_model.specs.declared.certificate.Node.TheVariants as nodes
use Rattle.bddl_model.specs.declared.certificate.NodeNo.{NodeNo}
use Rattle.bddl_model.specs.declared.game.Move.{Move}
use Rattle.bddl_model.specs.declared.game.Side.{Side}
use Rattle.bddl_model.specs.declared.game.Side.TheVariants.{Black, White}
use Rattle.bddl_model.specs.Board.{Board}
use Rattle.bddl_model.specs.Game.{Game, Action, actions}
use Rattle.bddl_model.specs.Moves.{legal, legal_with, moves, all_moves, after}
use Rattle.bddl_model.specs.Play.{Told, with_text, made_text, moves_text, replied}
use Rattle.io_edge.specs.Outside.{with_bytes, WithFront}
use Rattle.io_edge.specs.declared.sink.SinkEnd.{SinkEnd}
use Rattle.io_edge.proofs.Fronts.{front_first, front_then, written_more}
use Rattle.game_play.specs.declared.opponent.Reply.{Reply}
use Rattle.game_play.specs.declared.opponent.Reply.TheVariants.{Choice, Gone}
use Rattle.game_play.specs.declared.ply.Ply.{Ply}
use Rattle.game_play.specs.declared.ply.Ply.TheVariants.{Ended, Next}
use Rattle.game_play.specs.Plies.{taken, LeftAfter, ply_is_gone, Followed, Plied, TakesFew}
use Rattle.game_play.specs.Replies.{is_gone, said_after, Follows}
use Rattle.game_play.specs.Shown.{AreOf}

pub has_action : (g : Game) (board : Board) (side : Side) (m : Move) → legal g board side m ≡ true → m.action < length (actions g side)
has_action g board side m h = at (slice_get (actions g side) m.action) refl h
  where
    at : (o : Option Action) → slice_get (actions g side) m.action ≡ o → legal_with g board o m.x m.y ≡ true → m.action < length (actions g side)
    at None e h = absurd (false≢true h)
    at (Some a) e h = slice_get_within (actions g side) m.action a e

pub moves_are_of : (g : Game) (board : Board) (shown : List Move) → shown ≡ moves g board White → AreOf g White shown
moves_are_of g board shown is =
    subst (AreOf g White) (sym is)
    (All-weaker (λ m. legal g board White m ≡ true) (λ m. m.action < length (actions g White)) (λ m. has_action g board White m) (moves g board White) (filter_passes (legal g board White) (all_moves g White)))

texts_more : (a b : List ℕ) (t : Told) → with_text a (with_text b t) ≡ with_text (a ++ b) t
texts_more a b t = ap (λ (x : List ℕ). record { end = t.end; text = x }) (sym (append_assoc a b t.text))

-- ---- what is taken

pub said_taken : (reply : Reply) (said : List ℕ) → said_after reply said ≡ said ++ taken reply
said_taken (Choice n) said = refl
said_taken Gone said = sym (append-nil said)

pub one_taken : (reply : Reply) → length (taken reply) ≤ 1
one_taken (Choice n) = omega arith
one_taken Gone = omega arith

pub left_after : (old new : Option (List ℕ)) (reply : Reply) (gone : Bool) → gone ≡ is_gone reply → Follows old new reply → LeftAfter old new (taken reply) gone
left_after None new reply gone same follows = follows
left_after (Some []) new reply gone same (is, left) = ([], sym (ap (λ r. taken r ++ []) is), left, λ g. refl)
left_after (Some (n ∷ numbers)) new reply gone same (is, left) = (numbers, sym (ap (λ r. taken r ++ numbers) is), left, λ g. absurd (false≢true (sym (same ∙ ap is_gone is) ∙ g)))

pub left_still : (old : Option (List ℕ)) (gone : Bool) → gone ≡ false → LeftAfter old old [] gone
left_still None gone none = refl
left_still (Some numbers) gone none = (numbers, refl, refl, λ g. absurd (false≢true (sym none ∙ g)))

-- ---- White

module _ (g : Game) (all : List Answered) (old : Board) (w0 w1 : Option (List ℕ)) where
  pub white_goes : (new : Board) (shown : List Move) (replies : List ℕ) (w2 : Option (List ℕ)) (r : Result Ply SinkEnd) → shown ≡ moves g old White → w1 ≡ with_bytes w0 (moves_text g shown) → Followed g all old new replies w1 w2 r
      → (made : ℕ) → Plied g made (nodes.White all) old new replies w0 w2 r
  white_goes new shown replies w2 (Ok (Ended e)) is put f made = λ next rest h.
      let told = f next rest h in
      (told.0, written_more w0 w1 w2 (moves_text g (moves g old White)) (replied g (next White) all (moves g old White) (replies ++ rest)).text (put ∙ ap (λ ms. with_bytes w0 (moves_text g ms)) is) told.1)
  white_goes new shown replies w2 (Ok (Next id)) is put (a, text, among, there, made_so, written, same) made = (
    a,
    moves_text g (moves g old White) ++ text,
    among,
    there,
    made_so,
    written_more w0 w1 w2 (moves_text g (moves g old White)) text (put ∙ ap (λ ms. with_bytes w0 (moves_text g ms)) is) written,
    λ next rest. ap (with_text (moves_text g (moves g old White))) (same next rest) ∙ texts_more (moves_text g (moves g old White)) text (next White a rest),
  )
  white_goes new shown replies w2 (Err e) is put f made = λ next rest.
      front_then (moves_text g (moves g old White)) (replied g (next White) all (moves g old White) (replies ++ rest)).text w0 w1 w2 (put ∙ ap (λ ms. with_bytes w0 (moves_text g ms)) is) (f next rest)

  pub white_stops : (shown : List Move) (r : Result Ply SinkEnd) → shown ≡ moves g old White → IsErr r → WithFront w0 w1 (moves_text g shown) → (made : ℕ) → Plied g made (nodes.White all) old old [] w0 w1 r
  white_stops shown (Ok p) is stopped front made = cc
  white_stops shown (Err e) is stopped front made = λ next rest.
      front_first (moves_text g (moves g old White)) (replied g (next White) all (moves g old White) rest).text w0 w1 (subst (λ ms. WithFront w0 w1 (moves_text g ms)) is front)

-- ---- Black

module _ (g : Game) (mv : Move) (n : NodeNo) (old : Board) (w0 w1 : Option (List ℕ)) where
  pub black_goes : (new : Board) → new ≡ after g old Black mv → w1 ≡ with_bytes w0 (made_text g Black mv) → (made : ℕ) → Plied g made (nodes.Black mv n) old new [] w0 w1 (Ok (Next n.0))
  black_goes new made_so written made = (record { mv = mv; next = n }, made_text g Black mv, (0, omega arith, refl), refl, made_so, written, λ next rest. refl)

  pub black_stops : (r : Result Ply SinkEnd) → IsErr r → WithFront w0 w1 (made_text g Black mv) → (made : ℕ) → Plied g made (nodes.Black mv n) old old [] w0 w1 r
  black_stops (Ok p) stopped front made = cc
  black_stops (Err e) stopped front made = λ next rest. front_first (made_text g Black mv) (next Black (record { mv = mv; next = n }) rest).text w0 w1 front

pub err_is_no_end : (r : Result Ply SinkEnd) → IsErr r → ply_is_gone r ≡ false
err_is_no_end (Ok p) stopped = cc
err_is_no_end (Err e) stopped = refl

-- ---- at any node

abbrev pub AtNode : Game → ℕ → Node → Board → Board → List ℕ → List ℕ → Option (List ℕ) → Option (List ℕ) → Option (List ℕ) → Option (List ℕ) → Result Ply SinkEnd → Type 0
AtNode g made node old new said_old said_new left_old left_new w_old w_new r =
    (all : List ℕ) × (said_new ≡ said_old ++ all) × LeftAfter left_old left_new all (ply_is_gone r) × TakesFew node all × Plied g made node old new all w_old w_new r

module _ (g : Game) (made : ℕ) (node : Node) (old new : Board) (w_old w_new : Option (List ℕ)) (r : Result Ply SinkEnd) where
  pub at_goal : (said : List ℕ) (left : Option (List ℕ)) → node ≡ nodes.Goal → ply_is_gone r ≡ false → Plied g made nodes.Goal old new [] w_old w_new r → AtNode g made node old new said said left left w_old w_new r
  at_goal said left is gone plied = subst (λ n. AtNode g made n old new said said left left w_old w_new r) (sym is) ([], sym (append-nil said), left_still left (ply_is_gone r) gone, refl, plied)

  pub at_black : (said : List ℕ) (left : Option (List ℕ)) (mv : Move) (n : NodeNo) → node ≡ nodes.Black mv n → ply_is_gone r ≡ false → Plied g made (nodes.Black mv n) old new [] w_old w_new r → AtNode g made node old new said said left left w_old w_new r
  at_black said left mv n is gone plied = subst (λ k. AtNode g made k old new said said left left w_old w_new r) (sym is) ([], sym (append-nil said), left_still left (ply_is_gone r) gone, refl, plied)

  pub at_white : (said_old said_new : List ℕ) (left_old left_new : Option (List ℕ)) (answers shown : List Answered) → node ≡ nodes.White answers → shown ≡ answers
      → (all : List ℕ) × (said_new ≡ said_old ++ all) × LeftAfter left_old left_new all (ply_is_gone r) × (length all ≤ 1) × ((k : ℕ) → Plied g k (nodes.White shown) old new all w_old w_new r)
      → AtNode g made node old new said_old said_new left_old left_new w_old w_new r
  at_white said_old said_new left_old left_new answers shown is same (all, said, left, few, plied) =
      subst (λ k. AtNode g made k old new said_old said_new left_old left_new w_old w_new r) (sym is)
      (subst (λ xs. AtNode g made (nodes.White xs) old new said_old said_new left_old left_new w_old w_new r) same (all, said, left, few, plied made))
