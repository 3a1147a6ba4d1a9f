-- How a play under a valid certificate ends.
use Rattle.std.proofs.Common.{◌≡◌, ℕ, zero, suc, ◌+◌, ◌-◌, ◌*◌, ◌<◌, ◌≤◌, Bool, true, List, [], ◌∷◌, length, slice_get, Some, None, refl, sym, ap, subst, arith}
use Rattle.std.specs.Prelude.{nat_lt, Contains}
use Rattle.std.proofs.lemmas.Bool.Decides.{nat_tests}
use Rattle.std.proofs.lemmas.List.Elements.{All-contains_itself}
use Rattle.bddl_model.specs.declared.game.Side.{Side}
use Rattle.bddl_model.specs.declared.game.Side.TheVariants as sides
use Rattle.bddl_model.specs.declared.game.Move.{Move}
use Rattle.bddl_model.specs.declared.certificate.Answered.{Answered}
use Rattle.bddl_model.specs.declared.certificate.Node.{Node}
use Rattle.bddl_model.specs.declared.certificate.Node.TheVariants.{Goal, Black, White}
use Rattle.bddl_model.specs.declared.play.Played.{Played}
use Rattle.bddl_model.specs.declared.play.Played.TheVariants as ends
use Rattle.bddl_model.specs.Game.{Game, opponent}
use Rattle.bddl_model.specs.Board.{Board}
use Rattle.bddl_model.specs.Moves.{moves, after}
use Rattle.bddl_model.specs.Setup.{Setup}
use Rattle.bddl_model.specs.CertificateGraph.{answers, links, namings, linked}
use Rattle.bddl_model.specs.Certificate.{Place, place, behind, same_move, difference, answers_fault, node_fault, valid}
use Rattle.bddl_model.specs.Play.{Told, replied, played_at, play_on, plays, in_range_at, in_range_on, in_range, Reaches, ReachesOrGone}
use Rattle.bddl_model.proofs.PlaceTests.{both}
use Rattle.bddl_laws.specs.PlacedNodes.{ArePlaced}
use Rattle.bddl_laws.proofs.Named.{linked_namings, head_in, tail_in}
use Rattle.bddl_laws.proofs.PlacedNodes.{node_at, of_answers, links_length, valid_linked, valid_places}
use Rattle.bddl_laws.proofs.CertificateWins.{no_turn, has_turn, same_until, no_difference}

-- ---- replies

abbrev Answer : List Answered → ℕ → Type 0
Answer replies k = (a : Answered) × (slice_get replies k ≡ Some a) × Contains replies a

-- where the replies are the moves, each number of a move has its reply
numbered : (n : ℕ) (replies : List Answered) (ms : List Move) (k : ℕ) → difference n replies ms ≡ None → k < length ms → Answer replies k
numbered n replies [] k h lt = absurd (omega (arith, lt))
numbered n [] (m ∷ ms) k h lt = absurd cc
numbered n (a ∷ rest) (m ∷ ms) zero h lt = (a, refl, head_in a rest)
numbered n (a ∷ rest) (m ∷ ms) (suc k) h lt =
    let b = numbered (suc n) rest ms k (same_until (same_move a.mv m) _ n h).1 (omega (arith, lt)) in
    (b.0, b.1, tail_in a b.0 rest b.2)

answer_at : (replies : List Answered) (ms : List Move) (k : ℕ) → answers_fault replies ms ≡ None → k < length ms → Answer replies k
answer_at replies [] k h lt = absurd (omega (arith, lt))
answer_at replies (m ∷ ms) k h lt = numbered 0 replies (m ∷ ms) k (no_difference _ h) lt

-- ---- one step of a play

abbrev Next : Type 0
Next = Side → Answered → List ℕ → Told

abbrev Range : Type 0
Range = Side → Answered → List ℕ → Bool

-- what follows an answer that is made on this board, over so many nodes at most
abbrev next_on : Game → List Node → ℕ → ℕ → Board → Next
next_on g nodes n made board side a replies = play_on g nodes n made a.next.0 (after g board side a.mv) replies

abbrev range_on : Game → List Node → ℕ → Board → Range
range_on g nodes n board side a replies = in_range_on g nodes n a.next.0 (after g board side a.mv) replies

play_here : (Well : Played → Type 0) (g : Game) (nodes : List Node) (n made k : ℕ) (board : Board) (replies : List ℕ) (node : Node) → slice_get nodes k ≡ Some node
    → Well (played_at g (next_on g nodes n (made + 1) board) made node board replies).end → Well (play_on g nodes (suc n) made k board replies).end
unfolding play_on
play_here Well g nodes n made k board replies node e h = rw (play_on, e) h

range_here : (g : Game) (nodes : List Node) (n k : ℕ) (board : Board) (replies : List ℕ) (node : Node) → slice_get nodes k ≡ Some node
    → in_range_on g nodes (suc n) k board replies ≡ true → in_range_at g (range_on g nodes n board) node board replies ≡ true
unfolding in_range_on
range_here g nodes n k board replies node e h = rw (in_range_on, e) at h

reply_here : (range : Answered → List ℕ → Bool) (all : List Answered) (j : ℕ) (replies : List ℕ) (a : Answered) → slice_get all j ≡ Some a
    → elim (slice_get all j) [ None ↦ true | Some b ↦ range b replies ] ≡ true → range a replies ≡ true
reply_here range all j replies a e h = rw e at h

-- ---- what ends well

-- what ends a play well, and which replies suffice where a side is to move and so many plies are left
pub record Suffice (Well : Played → Type 0) (Fit : Side → ℕ → List ℕ → Type 0) (depth : ℕ) : Type 0 where
  pub reached : (made : ℕ) → made ≤ depth → Well (ends.Reached made)
  pub gone : (n : ℕ) → Fit sides.White (suc n) [] → Well ends.Gone
  pub black : (n : ℕ) (replies : List ℕ) → Fit sides.Black (suc n) replies → Fit sides.White n replies
  pub white : (n k : ℕ) (replies : List ℕ) → Fit sides.White (suc n) (k ∷ replies) → Fit sides.Black n replies

-- half as many as there are plies, rounded up where White is to move
abbrev Enough : Side → ℕ → List ℕ → Type 0
Enough sides.Black n replies = n ≤ 2 * length replies + 1
Enough sides.White n replies = n ≤ 2 * length replies

any_suffice : (depth : ℕ) → Suffice (ReachesOrGone depth) (λ _ _ _. Unit {0}) depth
any_suffice depth = record {
  reached = λ made le. le;
  gone = λ _ _. tt;
  black = λ _ _ _. tt;
  white = λ _ _ _ _. tt;
}

enough_suffice : (depth : ℕ) → Suffice (Reaches depth) Enough depth
enough_suffice depth = record {
  reached = λ made le. le;
  gone = λ n e. absurd (omega (arith, e));
  black = λ n replies e. omega (arith, e);
  white = λ n k replies e. omega (arith, e);
}

half : (side : Side) (n : ℕ) (replies : List ℕ) → n ≤ 2 * length replies → Enough side n replies
half sides.Black n replies h = omega (arith, h)
half sides.White n replies h = h

-- ---- plays where each node has its place

module _ (s : Setup) (nodes : List Node) (at : ℕ → Place) (l : linked (links nodes) ≡ true) (placed : ArePlaced s nodes at)
    (Well : Played → Type 0) (Fit : Side → ℕ → List ℕ → Type 0) (suffice : Suffice Well Fit s.depth) where
  -- what follows the answers of node k ends well, n plies being left after it
  abbrev Follow : Next → Range → ℕ → ℕ → Node → Type 0
  Follow next range n k node = (side : Side) (a : Answered) (replies : List ℕ) → (at k).side ≡ side → Contains (answers node) a → range side a replies ≡ true → Fit (opponent side) n replies → Well (next side a replies).end

  white_ends : (next : Next) (range : Range) (n k : ℕ) (all : List Answered) (replies : List ℕ) → answers_fault all (moves s.game (at k).board sides.White) ≡ None → (at k).side ≡ sides.White
      → Follow next range n k (White all) → in_range_at s.game range (White all) (at k).board replies ≡ true → Fit sides.White (suc n) replies
      → Well (replied s.game (next sides.White) all (moves s.game (at k).board sides.White) replies).end
  white_ends next range n k all [] h e f i fit = suffice.gone n fit
  white_ends next range n k all (j ∷ replies) h e f i fit =
      let u = both (nat_lt j (length (moves s.game (at k).board sides.White))) _ i in
      let lt : j < length (moves s.game (at k).board sides.White) = (let t = u.0 in grind (arith, nat_tests, t)) in
      let a = answer_at all (moves s.game (at k).board sides.White) j h lt in
      let inside = reply_here (range sides.White) all j replies a.0 a.1 u.1 in
      let on = f sides.White a.0 replies e a.2 inside (suffice.white n j replies fit) in
      rw (u.0, a.1) on

  node_ends : (next : Next) (range : Range) (n made k : ℕ) (node : Node) (replies : List ℕ) → node_fault s.game k (at k) node ≡ None → made ≤ s.depth
      → Follow next range n k node → in_range_at s.game range node (at k).board replies ≡ true → Fit (at k).side (suc n) replies
      → Well (played_at s.game next made node (at k).board replies).end
  node_ends next range n made k Goal replies h le f i fit = suffice.reached made le
  node_ends next range n made k (Black mv next_id) replies h le f i fit =
      let t = has_turn s.game sides.Black (at k) _ (no_turn k _ h) in
      f sides.Black (record { mv = mv; next = next_id }) replies t.to_move (head_in _ []) i (suffice.black n replies (subst (λ side. Fit side (suc n) replies) t.to_move fit))
  node_ends next range n made k (White all) replies h le f i fit =
      let t = has_turn s.game sides.White (at k) _ (no_turn k _ h) in
      white_ends next range n k all replies t.rest t.to_move f i (subst (λ side. Fit side (suc n) replies) t.to_move fit)

  -- with no ply left, the goal stands
  last_ends : (next : Next) (made k : ℕ) (node : Node) (replies : List ℕ) → node_fault s.game k (at k) node ≡ None → made ≤ s.depth → (at k).left ≡ 0
      → Well (played_at s.game next made node (at k).board replies).end
  last_ends next made k Goal replies h le e = suffice.reached made le
  last_ends next made k (Black mv next_id) replies h le e = let t = has_turn s.game sides.Black (at k) _ (no_turn k _ h) in absurd (omega (arith, t.plies, e))
  last_ends next made k (White all) replies h le e = let t = has_turn s.game sides.White (at k) _ (no_turn k _ h) in absurd (omega (arith, t.plies, e))

  -- so many plies being made and n being left, the play from node k on ends well
  abbrev EndsWell : ℕ → ℕ → Place → Type 0
  EndsWell n k p = (made : ℕ) (replies : List ℕ) → made + n ≤ s.depth → in_range_on s.game nodes (suc n) k p.board replies ≡ true → Fit p.side n replies
      → Well (play_on s.game nodes (suc n) made k p.board replies).end

  abbrev AllEnd : ℕ → Type 0
  AllEnd n = (k : ℕ) (node : Node) → slice_get nodes k ≡ Some node → (at k).left ≡ n → EndsWell n k (at k)

  follow : (n made k : ℕ) (node : Node) → slice_get nodes k ≡ Some node → (at k).left ≡ suc n → suc made + n ≤ s.depth → AllEnd n
      → Follow (next_on s.game nodes (suc n) (made + 1) (at k).board) (range_on s.game nodes (suc n) (at k).board) n k node
  follow n made k node h e le all side a replies to_move c i fit =
      let lead = of_answers (λ w. behind s.game (at w.from) w.mv ≡ at w.to) nodes k node a placed.leads h c in
      let low = of_answers (λ w. w.to < length (links nodes)) nodes k node a (λ i d lt. ((linked_namings (links nodes) l).later _ (All-contains_itself (namings (links nodes)) i d lt)).1) h c in
      let there = node_at nodes a.next.0 (omega (arith, low, links_length nodes)) in
      let left : (behind s.game (at k) a.mv).left ≡ n = omega (arith, e) in
      let well = subst (EndsWell n a.next.0) (sym lead) (all a.next.0 there.0 there.1 (subst (λ (p : Place). p.left ≡ n) lead left)) in
      subst (λ t. EndsWell n a.next.0 (record { side = opponent t; board = after s.game (at k).board t a.mv; left = (at k).left - 1 })) to_move well (made + 1) replies (omega (arith, le)) i fit

  all_end : (n : ℕ) → AllEnd n
  all_end zero k node h e made replies le i fit =
      play_here Well s.game nodes zero made k (at k).board replies node h
      (last_ends (next_on s.game nodes zero (made + 1) (at k).board) made k node replies (placed.fine k node h) (omega (arith, le)) e)
  all_end (suc n) k node h e made replies le i fit =
      play_here Well s.game nodes (suc n) made k (at k).board replies node h
      (node_ends (next_on s.game nodes (suc n) (made + 1) (at k).board) (range_on s.game nodes (suc n) (at k).board) n made k node replies (placed.fine k node h) (omega (arith, le))
      (follow n made k node h e (omega (arith, le)) (all_end n)) (range_here s.game nodes (suc n) k (at k).board replies node h i) fit)

  pub play_ends : (replies : List ℕ) → in_range s nodes replies ≡ true → Fit s.first s.depth replies → Well (plays s nodes replies).end
  unfolding plays in_range
  play_ends replies i fit =
      let first = node_at nodes 0 (omega (arith, (linked_namings (links nodes) l).some, links_length nodes)) in
      subst (EndsWell s.depth 0) placed.root (all_end s.depth 0 first.0 first.1 (ap (λ (p : Place). p.left) placed.root)) 0 replies (omega arith) i fit

-- ---- plays under a valid certificate

pub valid_ends : (s : Setup) (nodes : List Node) (replies : List ℕ) → valid s nodes ≡ true → in_range s nodes replies ≡ true → ReachesOrGone s.depth (plays s nodes replies).end
valid_ends s nodes replies h i = play_ends s nodes (place s (links nodes)) (valid_linked s nodes h) (valid_places s nodes h) (ReachesOrGone s.depth) _ (any_suffice s.depth) replies i tt

pub valid_reaches : (s : Setup) (nodes : List Node) (replies : List ℕ) → valid s nodes ≡ true → in_range s nodes replies ≡ true → s.depth ≤ 2 * length replies
    → Reaches s.depth (plays s nodes replies).end
valid_reaches s nodes replies h i enough =
    play_ends s nodes (place s (links nodes)) (valid_linked s nodes h) (valid_places s nodes h) (Reaches s.depth) Enough (enough_suffice s.depth) replies i (half s.first s.depth replies enough)
