-- A reply that is one of White's moves.
use Rattle.std.proofs.Common.{◌≡◌, ℕ, ◌<◌, true, List, ◌∷◌, ◌++◌, length, map, Option, Result, Ok, Err, refl, sym, ap, ◌∙◌, subst, arith, lt-ltb}
use Rattle.std.specs.Prelude.{All, IsErr}
use Rattle.std.specs.List.{slice_index_or}
use Rattle.std.proofs.lemmas.List.{get_or-map, length-map}
use Rattle.std.proofs.lemmas.List.Elements.{All-contains_itself, filter_passes}
use Rattle.std.proofs.lemmas.Option.{slice_get-get_or}
use Rattle.bddl_model.specs.declared.certificate.Answered.{Answered}
use Rattle.bddl_model.specs.declared.game.Move.{Move}
use Rattle.bddl_model.specs.declared.game.Side.{Side}
use Rattle.bddl_model.specs.declared.game.Side.TheVariants.{White}
use Rattle.bddl_model.specs.Board.{Board}
use Rattle.bddl_model.specs.Game.{Game, actions}
use Rattle.bddl_model.specs.Moves.{legal, moves, all_moves, after}
use Rattle.bddl_model.specs.Play.{Told, with_text, made_text, replied}
use Rattle.io_edge.specs.Outside.{with_bytes, WithFront}
use Rattle.io_edge.specs.declared.sink.SinkEnd.{SinkEnd}
use Rattle.io_edge.proofs.Fronts.{front_first}
use Rattle.game_play.specs.declared.opponent.Reply.{Reply}
use Rattle.game_play.specs.declared.opponent.Reply.TheVariants.{Choice}
use Rattle.game_play.specs.declared.ply.Ply.{Ply}
use Rattle.game_play.specs.declared.ply.Ply.TheVariants.{Next}
use Rattle.game_play.specs.Plies.{taken, Followed}
use Rattle.game_play.specs.Shown.{AreOf}

abbrev pub no_answer : Answered
no_answer = record { mv = record { action = 0; x = 0; y = 0 }; next = record { 0 = 0 } }

abbrev pub answer_at : List Answered → ℕ → Answered
answer_at all k = slice_index_or all k no_answer

-- the reply's move is the one that was shown
move_shown : (all : List Answered) (shown : List Move) (k : ℕ) → map (λ a. a.mv) all ≡ shown → k < length shown → slice_index_or shown k (no_answer).mv ≡ (answer_at all k).mv
move_shown all shown k same lt =
    let count = sym (length-map all (λ (a : Answered). a.mv)) ∙ ap length same in
    ap (λ ms. slice_index_or ms k (no_answer).mv) (sym same) ∙ get_or-map (λ (a : Answered). a.mv) all k no_answer (no_answer).mv (omega (arith, lt, count))

pub is_of : (g : Game) (all : List Answered) (shown : List Move) (k : ℕ) → map (λ a. a.mv) all ≡ shown → AreOf g White shown → k < length shown → (answer_at all k).mv.action < length (actions g White)
is_of g all shown k same are lt = subst (λ (m : Move). m.action < length (actions g White)) (move_shown all shown k same lt) (are k (no_answer).mv lt)

pub is_legal : (g : Game) (board : Board) (all : List Answered) (shown : List Move) (k : ℕ) → shown ≡ moves g board White → map (λ a. a.mv) all ≡ shown → k < length shown → legal g board White (answer_at all k).mv ≡ true
is_legal g board all shown k is same lt =
    subst (λ m. legal g board White m ≡ true) (move_shown all shown k same lt)
    (subst (All (λ m. legal g board White m ≡ true)) (sym is) (filter_passes (legal g board White) (all_moves g White)) k (no_answer).mv lt)

module _ (g : Game) (all : List Answered) (shown : List Move) (k : ℕ) (same : map (λ a. a.mv) all ≡ shown) (lt : k < length shown) where
  abbrev a : Answered
  a = answer_at all k

  inside : k < length all
  inside = let count = sym (length-map all (λ (b : Answered). b.mv)) ∙ ap length same in omega (arith, lt, count)

  replied_is : (next : Answered → List ℕ → Told) (rest : List ℕ) → replied g next all shown (k ∷ rest) ≡ with_text (made_text g White a.mv) (next a rest)
  replied_is next rest =
      let test = lt-ltb k (length shown) lt in
      let found = slice_get-get_or all k no_answer inside in
      rw (test, found) refl

  module _ (board : Board) (is : shown ≡ moves g board White) (reply : Reply) (chosen : reply ≡ Choice k) where
    goes : (next : Side → Answered → List ℕ → Told) (rest : List ℕ) → replied g (next White) all (moves g board White) (taken reply ++ rest) ≡ with_text (made_text g White a.mv) (next White a rest)
    goes next rest =
        ap (λ r. replied g (next White) all (moves g board White) (taken r ++ rest)) chosen
        ∙ ap (λ ms. replied g (next White) all ms (k ∷ rest)) (sym is)
        ∙ replied_is (next White) rest

    pub chosen_goes : (new : Board) (w_old w_new : Option (List ℕ)) → new ≡ after g board White a.mv → w_new ≡ with_bytes w_old (made_text g White a.mv) → Followed g all board new (taken reply) w_old w_new (Ok (Next a.next.0))
    chosen_goes new w_old w_new made written = (a, made_text g White a.mv, All-contains_itself all k no_answer inside, refl, made, written, goes)

    pub chosen_stops : (w_old w_new : Option (List ℕ)) (r : Result Ply SinkEnd) → IsErr r → WithFront w_old w_new (made_text g White a.mv) → Followed g all board board (taken reply) w_old w_new r
    chosen_stops w_old w_new (Ok p) stopped front = cc
    chosen_stops w_old w_new (Err e) stopped front = λ next rest.
        subst (λ (t : Told). WithFront w_old w_new t.text) (sym (goes next rest)) (front_first (made_text g White a.mv) (next White a rest).text w_old w_new front)
