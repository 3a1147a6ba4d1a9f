-- A play from round to round.
use Rattle.std.proofs.Common.{◌≡◌, ℕ, suc, ◌+◌, ◌-◌, ◌<◌, ◌≤◌, Bool, true, false, not, List, [], ◌∷◌, ◌++◌, length, map, slice_get, Option, Some, None, Result, Ok, Err, refl, sym, ap, ◌∙◌, subst, arith, append_assoc, append-nil, length-append}
use Rattle.std.specs.List.{slice_index_or}
use Rattle.std.proofs.lemmas.Option.{slice_get-get_or}
use Rattle.std.specs.Prelude.{Contains, IsErr, ◌==◌, nat_lt, if◌then◌else◌}
use Rattle.std.proofs.lemmas.Bool.{false≢true}
use Rattle.std.proofs.lemmas.Bool.Decides.{nat_tests}
use Rattle.std.proofs.lemmas.List.Elements.{All-contains_itself}
use Rattle.bddl_model.specs.declared.certificate.Answered.{Answered}
use Rattle.bddl_model.specs.declared.certificate.Node.{Node}
use Rattle.bddl_model.specs.declared.certificate.Node.TheVariants as kinds
use Rattle.bddl_model.specs.declared.certificate.TurnFault.{TurnFault}
use Rattle.bddl_model.specs.declared.certificate.TurnFault.TheVariants as turn
use Rattle.bddl_model.specs.declared.game.Move.{Move}
use Rattle.bddl_model.specs.declared.game.Side.{Side}
use Rattle.bddl_model.specs.declared.game.Side.TheVariants.{Black, White}
use Rattle.bddl_model.specs.declared.play.Played.{Played}
use Rattle.bddl_model.specs.declared.play.Played.TheVariants as ends
use Rattle.bddl_model.specs.Board.{Board}
use Rattle.bddl_model.specs.Game.{Game, opponent}
use Rattle.bddl_model.specs.Goal.{goal}
use Rattle.bddl_model.specs.Moves.{legal, moves, after}
use Rattle.bddl_model.specs.Setup.{Setup}
use Rattle.bddl_model.specs.CertificateGraph.{answers, links, namings}
use Rattle.bddl_model.specs.Certificate.{Place, behind, place, same_side, same_move, turn_fault, difference, differ_at, answers_fault, turn_at, node_fault, valid}
use Rattle.bddl_model.specs.Play.{Told, told, with_text, board_text, made_text, replied, played_at, play_on, plays}
use Rattle.bddl_model.proofs.PlaceTests.{sides_equal, moves_equal}
use Rattle.bddl_laws.proofs.Named.{linked_namings}
use Rattle.bddl_laws.proofs.PlacedNodes.{of_answers, links_length, valid_linked, valid_places}
use Rattle.io_edge.specs.Outside.{with_bytes, WithFront}
use Rattle.io_edge.specs.declared.sink.SinkEnd.{SinkEnd}
use Rattle.io_edge.proofs.Fronts.{front_first, front_then, written_more, with_bytes_none}
use Rattle.game_play.specs.declared.ply.Ply.{Ply}
use Rattle.game_play.specs.declared.ply.Ply.TheVariants.{Ended, Next}
use Rattle.game_play.specs.Plies.{EndsWith, Fits, GoesOn, IsWhites, LeftAfter, Plied, TakesFew, mover}
use Rattle.game_play.specs.Rounds.{Alternates, IsEnd, IsReached, SoFar, RoundsEnd, is_gone_end}
use Rattle.game_play.specs.Plays.{EndsSo}

-- ---- a node without fault fits

no_turn : (n : ℕ) (o : Option TurnFault) → turn_at n o ≡ None → o ≡ None
no_turn n None h = refl
no_turn n (Some f) h = absurd cc

passed : (same white spent : Bool) (more : Option TurnFault) → (if not same then Some turn.WrongSide else if white then Some turn.WhiteGoalStands else if spent then Some turn.PliesSpent else more) ≡ None → (same ≡ true) × (spent ≡ false) × (more ≡ None)
passed true true spent more h = absurd cc
passed true false true more h = absurd cc
passed true false false more h = (refl, refl, h)
passed false white spent more h = absurd cc

some_left : (n : ℕ) → (n == 0) ≡ false → 1 ≤ n
some_left n h = grind (arith, nat_tests, h)

may_turn : (g : Game) (side : Side) (p : Place) (more : Option TurnFault) → turn_fault g side p more ≡ None → (p.side ≡ side) × (1 ≤ p.left) × (more ≡ None)
may_turn g side p more h =
    let three = passed (same_side p.side side) (goal g p.board White) (p.left == 0) more h in
    (sides_equal p.side side three.0, some_left p.left three.1, three.2)

legal_so : (b : Bool) → (if b then None else Some turn.IllegalMove) ≡ None → b ≡ true
legal_so true h = refl
legal_so false h = absurd cc

none_differ : (o : Option ℕ) → differ_at o ≡ None → o ≡ None
none_differ None h = refl
none_differ (Some n) h = absurd cc

same_moves : (n : ℕ) (replies : List Answered) (ms : List Move) → difference n replies ms ≡ None → map (λ a. a.mv) replies ≡ ms
same_moves n [] [] h = refl
same_moves n [] (m ∷ ms) h = absurd cc
same_moves n (a ∷ rest) [] h = absurd cc
same_moves n (a ∷ rest) (m ∷ ms) h = by (same_move a.mv m) refl h (same_moves (suc n) rest ms)
  where
    by : (b : Bool) → same_move a.mv m ≡ b → (if b then difference (suc n) rest ms else Some n) ≡ None → (difference (suc n) rest ms ≡ None → map (λ a. a.mv) rest ≡ ms) → a.mv ∷ map (λ a. a.mv) rest ≡ m ∷ ms
    by true e h f = (let one = moves_equal a.mv m e in let more = f h in cc)
    by false e h f = absurd cc

all_moves_answered : (replies : List Answered) (ms : List Move) → answers_fault replies ms ≡ None → (map (λ a. a.mv) replies ≡ ms) × (0 < length replies)
all_moves_answered replies [] h = absurd cc
all_moves_answered [] (m ∷ ms) h = absurd cc
all_moves_answered (a ∷ rest) (m ∷ ms) h = (same_moves 0 (a ∷ rest) (m ∷ ms) (none_differ _ h), omega arith)

-- whose turn it is at a node that doesn't end the play
abbrev Moves : Place → Node → Type 0
Moves p kinds.Goal = Unit {0}
Moves p node = (p.side ≡ mover node) × (1 ≤ p.left)

pub fits : (g : Game) (n : ℕ) (p : Place) (node : Node) → node_fault g n p node ≡ None → Fits g p.board node × Moves p node
fits g n p kinds.Goal h = (tt, tt)
fits g n p (kinds.Black mv next) h =
    let three = may_turn g Black p _ (no_turn n _ h) in
    (legal_so (legal g p.board Black mv) three.2, (three.0, three.1))
fits g n p (kinds.White replies) h =
    let three = may_turn g White p _ (no_turn n _ h) in
    let all = all_moves_answered replies (moves g p.board White) three.2 in
    (all, (three.0, three.1))

-- ---- texts

texts_more : (a b : List ℕ) (t : Told) → with_text a (with_text b t) ≡ with_text (a ++ b) t
texts_more a b t = ap (λ (x : List ℕ). record { end = t.end; text = x }) (sym (append_assoc a b t.text))

-- what follows the answer of a node, over so many nodes at most
abbrev next_on : Game → List Node → ℕ → ℕ → Board → Side → Answered → List ℕ → Told
next_on g all n made board side a replies = play_on g all n (made + 1) a.next.0 (after g board side a.mv) replies

round_is : (g : Game) (all : List Node) (n made id : ℕ) (board : Board) (node : Node) (replies : List ℕ) → slice_get all id ≡ Some node
    → play_on g all (suc n) made id board replies ≡ with_text (board_text g board) (played_at g (next_on g all n made board) made node board replies)
unfolding play_on
round_is g all n made id board node replies found = rw (play_on, found) refl

-- ---- a valid certificate

module _ (s : Setup) (nodes : List Node) (v : valid s nodes ≡ true) where
  abbrev at : ℕ → Place
  at id = place s (links nodes) id

  pub begins : (board : Board) (w : Option (List ℕ)) → board ≡ s.board → SoFar s nodes 0 0 board [] w w
  unfolding place plays
  begins board w same =
      let some = (linked_namings (links nodes) (valid_linked s nodes v)).some in
      let count = links_length nodes in
      record {
        inside = omega (arith, some, count);
        here = sym same;
        left = omega arith;
        turns = none s.first;
        text = [];
        written = sym (with_bytes_none w);
        goes = λ rest. plays_is rest ∙ no_text (play_on s.game nodes (suc (s.depth - 0)) 0 0 board rest);
      }
    where
      no_text : (t : Told) → t ≡ with_text [] t
      no_text t = refl

      plays_is : (rest : List ℕ) → plays s nodes rest ≡ play_on s.game nodes (suc (s.depth - 0)) 0 0 board rest
      plays_is rest =
          let whole : s.depth ≡ s.depth - 0 = omega arith in
          ap (λ b. play_on s.game nodes (suc s.depth) 0 0 b rest) (sym same) ∙ ap (λ n. play_on s.game nodes (suc n) 0 0 board rest) whole

      none : (side : Side) → Alternates side 0 []
      none Black = omega arith
      none White = omega arith

  module _ (id made : ℕ) (board : Board) (said : List ℕ) (w0 w1 : Option (List ℕ)) (so_far : SoFar s nodes id made board said w0 w1) (node : Node) (found : slice_get nodes id ≡ Some node) where
    fit : Fits s.game (at id).board node × Moves (at id) node
    fit = fits s.game id (at id) node ((valid_places s nodes v).fine id node found)

    pub node_fits : Fits s.game board node
    node_fits = subst (λ b. Fits s.game b node) so_far.here fit.0

    pub few_said : s.depth ≤ 31 → IsWhites node → length said < 16
    few_said depth white = by node fit.1 white
      where
        few : (side : Side) → side ≡ White → 1 ≤ (at id).left → Alternates side made said → length said < 16
        few Black is low turns = absurd cc
        few White is low turns = let left = so_far.left in omega (arith, left, low, turns, depth)

        by : (n : Node) → Moves (at id) n → IsWhites n → length said < 16
        by kinds.Goal moves white = absurd white
        by (kinds.Black mv next) moves white = absurd white
        by (kinds.White all) moves white = few (at id).side moves.0 moves.1 so_far.turns

    -- the play from here, with the board that is shown first
    abbrev shown : List ℕ
    shown = so_far.text ++ board_text s.game board

    from_here : (rest : List ℕ) → plays s nodes (said ++ rest) ≡ with_text shown (played_at s.game (next_on s.game nodes (s.depth - made) made board) made node board rest)
    from_here rest =
        so_far.goes rest
        ∙ ap (with_text so_far.text) (round_is s.game nodes (s.depth - made) made id board node rest found)
        ∙ texts_more so_far.text (board_text s.game board) _

    -- the board can't be shown
    pub board_stops : (w2 : Option (List ℕ)) (e : SinkEnd) → WithFront w1 w2 (board_text s.game board) → RoundsEnd s nodes said w0 w2 (Err e)
    board_stops w2 e front = λ rest.
        let told = played_at s.game (next_on s.game nodes (s.depth - made) made board) made node board rest in
        subst (λ (t : Told). WithFront w0 w2 t.text) (sym (from_here rest))
        (front_first shown told.text w0 w2 (front_then so_far.text (board_text s.game board) w0 w1 w2 so_far.written front))

    module _ (w2 w3 : Option (List ℕ)) (put : w2 ≡ with_bytes w1 (board_text s.game board)) (new : Board) (now all : List ℕ) (takes : now ≡ said ++ all) (few : TakesFew node all) where
      written_so : w2 ≡ with_bytes w0 shown
      written_so = written_more w0 w1 w2 so_far.text (board_text s.game board) so_far.written put

      replies_are : (rest : List ℕ) → plays s nodes (now ++ rest) ≡ with_text shown (played_at s.game (next_on s.game nodes (s.depth - made) made board) made node board (all ++ rest))
      replies_are rest = ap (plays s nodes) (ap (λ xs. xs ++ rest) takes ∙ append_assoc said all rest) ∙ from_here (all ++ rest)

      -- the play ends here
      pub round_ends : (e : Played) → Plied s.game made node board new all w2 w3 (Ok (Ended e)) → RoundsEnd s nodes now w0 w3 (Ok e)
      round_ends e plied = λ rest gone.
          let told = played_at s.game (next_on s.game nodes (s.depth - made) made board) made node board (all ++ rest) in
          let end = plied (next_on s.game nodes (s.depth - made) made board) rest gone in
          subst (λ t. EndsWith t e w0 w3) (sym (replies_are rest)) (end.0, written_more w0 w2 w3 shown told.text written_so end.1)

      -- a write is refused
      pub round_stops : (e : SinkEnd) → Plied s.game made node board new all w2 w3 (Err e) → RoundsEnd s nodes now w0 w3 (Err e)
      round_stops e plied = λ rest.
          let told = played_at s.game (next_on s.game nodes (s.depth - made) made board) made node board (all ++ rest) in
          subst (λ (t : Told). WithFront w0 w3 t.text) (sym (replies_are rest)) (front_then shown told.text w0 w2 w3 written_so (plied (next_on s.game nodes (s.depth - made) made board) rest))

      -- it goes on
      pub round_goes_on : (next : ℕ) → Plied s.game made node board new all w2 w3 (Ok (Next next)) → SoFar s nodes next (made + 1) new now w0 w3
      round_goes_on next (a, text, among, there, made_so, written, same) = record {
        inside = inside;
        here = ap (λ (p : Place). p.board) (sym leads) ∙ board_is ∙ sym made_so;
        left = (let left = so_far.left in let low = turn.1 in let less = ap (λ (p : Place). p.left) leads in omega (arith, left, low, less));
        turns = subst (λ side. Alternates side (made + 1) now) (ap (λ (p : Place). p.side) leads) (alternates node turn.0 few);
        text = shown ++ text;
        written = written_more w0 w2 w3 shown text written_so written;
        goes = λ rest. replies_are rest ∙ ap (with_text shown) (same (next_on s.game nodes (s.depth - made) made board) rest) ∙ texts_more shown text _ ∙ ap (with_text (shown ++ text)) (on rest);
      }
        where
          -- an answer stands at a node that moves
          moves_so : (n : Node) → Contains (answers n) a → Moves (at id) n → ((at id).side ≡ mover n) × (1 ≤ (at id).left)
          moves_so kinds.Goal (k, low, here) moves = absurd (omega (arith, low))
          moves_so (kinds.Black mv n) among moves = moves
          moves_so (kinds.White xs) among moves = moves

          turn : ((at id).side ≡ mover node) × (1 ≤ (at id).left)
          turn = moves_so node among fit.1

          leads : behind s.game (at id) a.mv ≡ at next
          leads = of_answers (λ w. behind s.game (at w.from) w.mv ≡ at w.to) nodes id node a (valid_places s nodes v).leads found among ∙ ap at there

          inside : next < length nodes
          inside =
              let later = of_answers (λ w. (w.from < w.to) × (w.to < length (links nodes))) nodes id node a
              (λ j e lt. (linked_namings (links nodes) (valid_linked s nodes v)).later _ (All-contains_itself (namings (links nodes)) j e lt)) found among in
              let count = links_length nodes in
              omega (arith, later.1, there, count)

          board_is : after s.game (at id).board (at id).side a.mv ≡ after s.game board (mover node) a.mv
          board_is = ap (λ b. after s.game b (at id).side a.mv) so_far.here ∙ ap (λ side. after s.game board side a.mv) turn.0

          alternates : (n : Node) → (at id).side ≡ mover n → TakesFew n all → Alternates (opponent (at id).side) (made + 1) now
          alternates kinds.Goal is few = black (at id).side is so_far.turns few
            where
              black : (side : Side) → side ≡ Black → Alternates side made said → all ≡ [] → Alternates (opponent side) (made + 1) now
              black Black e turns none = (let count = ap length (takes ∙ ap (λ xs. said ++ xs) none ∙ append-nil said) in omega (arith, count, turns))
              black White e turns none = absurd cc
          alternates (kinds.Black mv n) is few = black (at id).side is so_far.turns few
            where
              black : (side : Side) → side ≡ Black → Alternates side made said → all ≡ [] → Alternates (opponent side) (made + 1) now
              black Black e turns none = (let count = ap length (takes ∙ ap (λ xs. said ++ xs) none ∙ append-nil said) in omega (arith, count, turns))
              black White e turns none = absurd cc
          alternates (kinds.White xs) is few = white (at id).side is so_far.turns few
            where
              white : (side : Side) → side ≡ White → Alternates side made said → length all ≤ 1 → Alternates (opponent side) (made + 1) now
              white Black e turns one = absurd cc
              white White e turns one = (let count = ap length takes ∙ length-append said all in omega (arith, count, turns, one))

          on : (rest : List ℕ) → next_on s.game nodes (s.depth - made) made board (mover node) a rest ≡ play_on s.game nodes (suc (s.depth - (made + 1))) (made + 1) next new rest
          on rest =
              let left = so_far.left in
              let low = turn.1 in
              let fuel : s.depth - made ≡ suc (s.depth - (made + 1)) = omega (arith, left, low) in
              ap (λ n. play_on s.game nodes n (made + 1) a.next.0 (after s.game board (mover node) a.mv) rest) fuel
              ∙ ap (λ k. play_on s.game nodes (suc (s.depth - (made + 1))) (made + 1) k (after s.game board (mover node) a.mv) rest) there
              ∙ ap (λ b. play_on s.game nodes (suc (s.depth - (made + 1))) (made + 1) next b rest) (sym made_so)

-- ---- ends

abbrev no_more : Side → Answered → List ℕ → Told
no_more side a rest = told ends.Gone []

reply_ends : (depth : ℕ) (g : Game) (all : List Answered) (listed : List Move) (replies : List ℕ) → IsEnd depth (replied g (no_more White) all listed replies).end
reply_ends depth g all listed [] = tt
reply_ends depth g all listed (k ∷ replies) = by (nat_lt k (length listed)) (slice_get all k)
  where
    by : (b : Bool) (o : Option Answered) → IsEnd depth (if b then elim o [ None ↦ told ends.Gone [] | Some a ↦ with_text (made_text g White a.mv) (no_more White a replies) ] else told (ends.BadReply k (length listed)) []).end
    by true None = tt
    by true (Some a) = tt
    by false o = tt

node_ends : (depth made : ℕ) (g : Game) (node : Node) (board : Board) (replies : List ℕ) → made ≤ depth → IsEnd depth (played_at g no_more made node board replies).end
node_ends depth made g kinds.Goal board replies le = le
node_ends depth made g (kinds.Black mv n) board replies le = tt
node_ends depth made g (kinds.White all) board replies le = reply_ends depth g all (moves g board White) replies

pub ply_ends : (depth made : ℕ) (g : Game) (node : Node) (old new : Board) (all : List ℕ) (w0 w1 : Option (List ℕ)) (e : Played) → made ≤ depth → Plied g made node old new all w0 w1 (Ok (Ended e)) → IsEnd depth e
ply_ends depth made g node old new all w0 w1 e le plied =
    subst (IsEnd depth) (plied no_more [] (λ gone. refl)).0 (node_ends depth made g node old (all ++ []) le)

pub goes_on_reached : (depth : ℕ) (e : Played) → GoesOn (Ok (Ended e)) → IsEnd depth e → IsReached depth e
goes_on_reached depth (ends.Reached plies) on end = end
goes_on_reached depth ends.Gone on end = absurd on
goes_on_reached depth (ends.BadReply number count) on end = absurd on
goes_on_reached depth ends.WriteFault on end = absurd end

-- ---- in a sink's result

pub board_refused : (s : Setup) (nodes : List Node) (said : List ℕ) (w0 w2 : Option (List ℕ)) (r : Result Played SinkEnd) → IsErr r → ((e : SinkEnd) → RoundsEnd s nodes said w0 w2 (Err e)) → RoundsEnd s nodes said w0 w2 r
board_refused s nodes said w0 w2 (Ok p) stopped f = cc
board_refused s nodes said w0 w2 (Err e) stopped f = f e

pub all_left : (old mid new : Option (List ℕ)) (said all now : List ℕ) (gone : Bool) → now ≡ said ++ all → LeftAfter old mid said false → LeftAfter mid new all gone → LeftAfter old new now gone
all_left None mid new said all now gone same first second = subst (λ m. LeftAfter m new all gone) first second
all_left (Some numbers) mid new said all now gone same (rest, is, left, more) second =
    let later = subst (λ m. LeftAfter m new all gone) left second in
    (later.0, is ∙ ap (λ xs. said ++ xs) later.1 ∙ sym (append_assoc said all later.0) ∙ ap (λ xs. xs ++ later.0) (sym same), later.2, later.3)

pub left_begins : (old : Option (List ℕ)) (said : List ℕ) → said ≡ [] → LeftAfter old old said false
left_begins None said none = refl
left_begins (Some numbers) said none = (numbers, sym (ap (λ xs. xs ++ numbers) none), refl, λ gone. absurd (false≢true gone))

-- ---- as the code has them

pub node_there : (nodes : List Node) (id : ℕ) → id < length nodes → (node : Node) × (slice_get nodes id ≡ Some node)
node_there nodes id lt = (slice_index_or nodes id kinds.Goal, slice_get-get_or nodes id kinds.Goal lt)

pub node_read : (nodes : List Node) (id : ℕ) (node : Node) → id < length nodes → node ≡ slice_index_or nodes id node → slice_get nodes id ≡ Some node
node_read nodes id node lt is = slice_get-get_or nodes id node lt ∙ ap (λ n. Some n) (sym is)

-- what a ply took, and what it did
abbrev pub Ply1 : Game → ℕ → Node → Board → Board → List ℕ → List ℕ → Option (List ℕ) → Option (List ℕ) → Option (List ℕ) → Option (List ℕ) → Bool → Result Ply SinkEnd → Type 0
Ply1 g made node old new said_old said_new left_old left_new w_old w_new gone r =
    (all : List ℕ) × (said_new ≡ said_old ++ all) × LeftAfter left_old left_new all gone × TakesFew node all × Plied g made node old new all w_old w_new r

module _ (s : Setup) (nodes : List Node) (v : valid s nodes ≡ true) (g : Game) (same : g ≡ s.game) (id made : ℕ) (board : Board) (said : List ℕ) (w0 w1 w2 : Option (List ℕ)) (so_far : SoFar s nodes id made board said w0 w1) where
  pub board_fails : (r : Result Played SinkEnd) → IsErr r → WithFront w1 w2 (board_text g board) → RoundsEnd s nodes said w0 w2 r
  board_fails r stopped front =
      let there = node_there nodes id so_far.inside in
      board_refused s nodes said w0 w2 r stopped (λ e. board_stops s nodes v id made board said w0 w1 so_far there.0 there.1 w2 e (subst (λ h. WithFront w1 w2 (board_text h board)) same front))

  module _ (node : Node) (is : node ≡ slice_index_or nodes id node) (put : w2 ≡ with_bytes w1 (board_text g board)) (new : Board) (now : List ℕ) (left_old left_new : Option (List ℕ)) (w3 : Option (List ℕ)) (gone : Bool) where
    found : slice_get nodes id ≡ Some node
    found = node_read nodes id node so_far.inside is

    put_so : w2 ≡ with_bytes w1 (board_text s.game board)
    put_so = subst (λ h. w2 ≡ with_bytes w1 (board_text h board)) same put

    pub ends_here : (e : Played) → Ply1 g made node board new said now left_old left_new w2 w3 gone (Ok (Ended e)) → RoundsEnd s nodes now w0 w3 (Ok e)
    ends_here e (all, takes, left, few, plied) =
        round_ends s nodes v id made board said w0 w1 so_far node found w2 w3 put_so new now all takes few e (subst (λ h. Plied h made node board new all w2 w3 (Ok (Ended e))) same plied)

    pub stops_here : (r : Result Played SinkEnd) (e : SinkEnd) → IsErr r → Ply1 g made node board new said now left_old left_new w2 w3 gone (Err e) → RoundsEnd s nodes now w0 w3 r
    stops_here r e stopped (all, takes, left, few, plied) =
        board_refused s nodes now w0 w3 r stopped (λ f. round_stops s nodes v id made board said w0 w1 so_far node found w2 w3 put_so new now all takes few f (subst (λ h. Plied h made node board new all w2 w3 (Err f)) same plied))

    pub goes_here : (next : ℕ) → Ply1 g made node board new said now left_old left_new w2 w3 gone (Ok (Next next)) → SoFar s nodes next (made + 1) new now w0 w3
    goes_here next (all, takes, left, few, plied) =
        round_goes_on s nodes v id made board said w0 w1 so_far node found w2 w3 put_so new now all takes few next (subst (λ h. Plied h made node board new all w2 w3 (Ok (Next next))) same plied)

    pub is_end : (e : Played) → Ply1 g made node board new said now left_old left_new w2 w3 gone (Ok (Ended e)) → IsEnd s.depth e
    is_end e (all, takes, left, few, plied) = (let fits = so_far.left in ply_ends s.depth made g node board new all w2 w3 e (omega (arith, fits)) plied)

    pub left_now : (first : Option (List ℕ)) (r : Result Ply SinkEnd) → LeftAfter first left_old said false → Ply1 g made node board new said now left_old left_new w2 w3 gone r → LeftAfter first left_new now gone
    left_now first r before (all, takes, left, few, plied) = all_left first left_old left_new said all now gone takes before left

-- ---- the whole play

pub told_so : (s : Setup) (nodes : List Node) (said : List ℕ) (w0 w1 : Option (List ℕ)) (e : Played) → RoundsEnd s nodes said w0 w1 (Ok e) → IsEnd s.depth e → EndsSo (plays s nodes said) w0 w1 e
told_so s nodes said w0 w1 e told end = by e end (subst (λ rs. EndsWith (plays s nodes rs) e w0 w1) (append-nil said) (told [] (λ gone. refl)))
  where
    by : (e : Played) → IsEnd s.depth e → EndsWith (plays s nodes said) e w0 w1 → EndsSo (plays s nodes said) w0 w1 e
    by (ends.Reached plies) end told = told
    by ends.Gone end told = told
    by (ends.BadReply number count) end told = told
    by ends.WriteFault end told = absurd end

pub front_so : (s : Setup) (nodes : List Node) (said : List ℕ) (w0 w1 : Option (List ℕ)) (e : SinkEnd) → RoundsEnd s nodes said w0 w1 (Err e) → WithFront w0 w1 (plays s nodes said).text
front_so s nodes said w0 w1 e told = subst (λ rs. WithFront w0 w1 (plays s nodes rs).text) (append-nil said) (told [])

pub front_left : (s : Setup) (nodes : List Node) (said numbers : List ℕ) (first old new : Option (List ℕ)) (w0 w1 : Option (List ℕ)) (e : SinkEnd) (gone : Bool) → RoundsEnd s nodes said w0 w1 (Err e) → old ≡ first → first ≡ Some numbers → LeftAfter old new said gone
    → WithFront w0 w1 (plays s nodes numbers).text
front_left s nodes said numbers first old new w0 w1 e gone told same is left =
    let (rest, whole, after, none) = subst (λ o. LeftAfter o new said gone) (same ∙ is) left in
    subst (λ rs. WithFront w0 w1 (plays s nodes rs).text) (sym whole) (told rest)

pub told_left : (s : Setup) (nodes : List Node) (said numbers : List ℕ) (first old new : Option (List ℕ)) (w0 w1 : Option (List ℕ)) (e : Played) → RoundsEnd s nodes said w0 w1 (Ok e) → IsEnd s.depth e → old ≡ first → first ≡ Some numbers → LeftAfter old new said (is_gone_end (Ok e))
    → EndsSo (plays s nodes numbers) w0 w1 e
told_left s nodes said numbers first old new w0 w1 e told end same is left = by e end told (subst (λ o. LeftAfter o new said (is_gone_end (Ok e))) (same ∙ is) left)
  where
    by : (e : Played) → IsEnd s.depth e → RoundsEnd s nodes said w0 w1 (Ok e) → LeftAfter (Some numbers) new said (is_gone_end (Ok e)) → EndsSo (plays s nodes numbers) w0 w1 e
    by (ends.Reached plies) end told (rest, whole, after, none) = subst (λ rs. EndsWith (plays s nodes rs) (ends.Reached plies) w0 w1) (sym whole) (told rest (λ gone. absurd cc))
    by ends.Gone end told (rest, whole, after, none) = subst (λ rs. EndsWith (plays s nodes rs) ends.Gone w0 w1) (sym whole) (told rest (λ gone. none refl))
    by (ends.BadReply number count) end told (rest, whole, after, none) = subst (λ rs. EndsWith (plays s nodes rs) (ends.BadReply number count) w0 w1) (sym whole) (told rest (λ gone. absurd cc))
    by ends.WriteFault end told left = absurd end
