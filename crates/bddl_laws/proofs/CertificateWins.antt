-- Nodes that have places without fault win from these places.
use Rattle.std.proofs.Common.{◌≡◌, ℕ, zero, suc, ◌<◌, ◌≤◌, Bool, true, false, not, ◌&&◌, ◌||◌, List, [], ◌∷◌, length, slice_get, Option, Some, None, refl, sym, ap, subst, arith}
use Rattle.std.specs.Prelude.{◌==◌, Contains, if◌then◌else◌}
use Rattle.std.specs.List.{list_all}
use Rattle.std.proofs.lemmas.Bool.Decides.{nat_tests}
use Rattle.bddl_model.specs.declared.game.Side.{Side}
use Rattle.bddl_model.specs.declared.game.Side.TheVariants as sides
use Rattle.bddl_model.specs.declared.game.Move.{Move}
use Rattle.bddl_model.specs.declared.certificate.Answered.{Answered}
use Rattle.bddl_model.specs.declared.certificate.Node.{Node}
use Rattle.bddl_model.specs.declared.certificate.Node.TheVariants.{Goal, Black, White}
use Rattle.bddl_model.specs.declared.certificate.TurnFault.{TurnFault}
use Rattle.bddl_model.specs.declared.certificate.TurnFault.TheVariants as turn
use Rattle.bddl_model.specs.declared.certificate.CertFault.TheVariants as faults
use Rattle.bddl_model.specs.declared.certificate.CertFault.{CertFault}
use Rattle.bddl_model.specs.Game.{Game, opponent}
use Rattle.bddl_model.specs.Board.{Board}
use Rattle.bddl_model.specs.Moves.{legal, moves, after}
use Rattle.bddl_model.specs.Goal.{goal}
use Rattle.bddl_model.specs.Win.{win, has_any}
use Rattle.bddl_model.specs.Setup.{Setup}
use Rattle.bddl_model.specs.CertificateGraph.{answers, links, namings, linked}
use Rattle.bddl_model.specs.Certificate.{Place, behind, same_side, same_move, turn_fault, difference, differ_at, answers_fault, turn_at, node_fault}
use Rattle.bddl_model.proofs.PlaceTests.{together, sides_equal, moves_equal}
use Rattle.std.proofs.lemmas.List.Elements.{All-contains_itself}
use Rattle.bddl_laws.specs.PlacedNodes.{ArePlaced}
use Rattle.bddl_laws.proofs.LegalMoves.{any_move}
use Rattle.bddl_laws.proofs.Named.{linked_namings, head_in, tail_in}
use Rattle.bddl_laws.proofs.PlacedNodes.{node_at, of_answers, links_length}

-- ---- what a node without fault has

pub no_turn : (n : ℕ) (o : Option TurnFault) → turn_at n o ≡ None → o ≡ None
no_turn n None h = refl
no_turn n (Some f) h = absurd cc

not_taken : (b : Bool) (f : TurnFault) (o : Option TurnFault) → (if b then Some f else o) ≡ None → (b ≡ false) × (o ≡ None)
not_taken false f o h = (refl, h)
not_taken true f o h = absurd cc

taken : (b : Bool) (f : TurnFault) → (if b then None else Some f) ≡ None → b ≡ true
taken true f h = refl
taken false f h = absurd cc

not_false : (b : Bool) → not b ≡ false → b ≡ true
not_false true h = refl
not_false false h = absurd cc

-- the side is to move, White's goal doesn't stand, a ply is left, and what more is asked
pub record HasTurn (g : Game) (side : Side) (p : Place) (more : Option TurnFault) : Type 0 where
  pub to_move : p.side ≡ side
  pub no_goal : goal g p.board sides.White ≡ false
  pub plies : 1 ≤ p.left
  pub rest : more ≡ None

pub has_turn : (g : Game) (side : Side) (p : Place) (more : Option TurnFault) → turn_fault g side p more ≡ None → HasTurn g side p more
has_turn g side p more h =
    let a = not_taken (not (same_side p.side side)) turn.WrongSide _ h in
    let b = not_taken (goal g p.board sides.White) turn.WhiteGoalStands _ a.1 in
    let c = not_taken (p.left == 0) turn.PliesSpent more b.1 in
    record {
      to_move = sides_equal p.side side (not_false (same_side p.side side) a.0);
      no_goal = b.0;
      plies = some (p.left) c.0;
      rest = c.1;
    }
  where
    some : (n : ℕ) → (n == 0) ≡ false → 1 ≤ n
    some n e = grind (arith, nat_tests)

pub legal_move : (g : Game) (p : Place) (side : Side) (m : Move) → (if legal g p.board side m then None else Some turn.IllegalMove) ≡ None → legal g p.board side m ≡ true
legal_move g p side m h = taken (legal g p.board side m) turn.IllegalMove h

pub same_until : (b : Bool) (o : Option ℕ) (n : ℕ) → (if b then o else Some n) ≡ None → (b ≡ true) × (o ≡ None)
same_until true o n h = (refl, h)
same_until false o n h = absurd cc

pub no_difference : (o : Option ℕ) → differ_at o ≡ None → o ≡ None
no_difference None h = refl
no_difference (Some k) h = absurd cc

-- where the replies are the moves, what holds after each reply holds after each move
each_answered : (f : Move → Bool) (n : ℕ) (replies : List Answered) (ms : List Move) → difference n replies ms ≡ None → ((a : Answered) → Contains replies a → f a.mv ≡ true) → list_all f ms ≡ true
each_answered f n [] [] h k = refl
each_answered f n [] (m ∷ ms) h k = absurd cc
each_answered f n (a ∷ rest) [] h k = absurd cc
each_answered f n (a ∷ rest) (m ∷ ms) h k =
    let u = same_until (same_move a.mv m) _ n h in
    let e = moves_equal a.mv m u.0 in
    together (f m) _ (subst (λ v. f v ≡ true) e (k a (head_in a rest))) (each_answered f (suc n) rest ms u.1 (λ b c. k b (tail_in a b rest c)))

pub answered_all : (f : Move → Bool) (replies : List Answered) (ms : List Move) → answers_fault replies ms ≡ None → ((a : Answered) → Contains replies a → f a.mv ≡ true) → (has_any ms ≡ true) × (list_all f ms ≡ true)
answered_all f replies [] h k = absurd cc
answered_all f replies (m ∷ ms) h k = (refl, each_answered f 0 replies (m ∷ ms) (no_difference _ h) k)

goal_stands : (b : Bool) (f : CertFault) → (if b then None else Some f) ≡ None → b ≡ true
goal_stands true f h = refl
goal_stands false f h = absurd cc

-- ---- wins

by_goal : (g : Game) (side : Side) (board : Board) (n : ℕ) → goal g board sides.Black ≡ true → win g side board n ≡ true
by_goal g side board zero h = h
by_goal g sides.Black board (suc n) h = rw h refl
by_goal g sides.White board (suc n) h = rw h refl

or_both : (a b c : Bool) → b ≡ false → c ≡ true → (a || (not b && c)) ≡ true
or_both true b c h k = refl
or_both false b c h k = rw (h, k) refl

module _ (s : Setup) (nodes : List Node) (at : ℕ → Place) (l : linked (links nodes) ≡ true) (placed : ArePlaced s nodes at) where
  -- the place of each answer has the win, with a ply less
  abbrev Follow : ℕ → ℕ → Node → Type 0
  Follow n k node = (a : Answered) → Contains (answers node) a → win s.game (opponent (at k).side) (after s.game (at k).board (at k).side a.mv) n ≡ true

  node_wins : (n k : ℕ) (node : Node) → node_fault s.game k (at k) node ≡ None → (at k).left ≡ suc n → Follow n k node → win s.game (at k).side (at k).board (suc n) ≡ true
  node_wins n k Goal h e f = by_goal s.game (at k).side (at k).board (suc n) (goal_stands (goal s.game (at k).board sides.Black) (faults.GoalDoesNotStand k) h)
  node_wins n k (Black mv next) h e f =
      let t = has_turn s.game sides.Black (at k) _ (no_turn k _ h) in
      let m = legal_move s.game (at k) sides.Black mv t.rest in
      let next_wins = subst (λ side. win s.game (opponent side) (after s.game (at k).board side mv) n ≡ true) t.to_move (f (record { mv = mv; next = next }) (head_in _ [])) in
      rw t.to_move (or_both (goal s.game (at k).board sides.Black) (goal s.game (at k).board sides.White) _ t.no_goal (any_move s.game (at k).board sides.Black (λ v. win s.game sides.White (after s.game (at k).board sides.Black v) n) mv m next_wins))
  node_wins n k (White replies) h e f =
      let t = has_turn s.game sides.White (at k) _ (no_turn k _ h) in
      let all = answered_all (λ v. win s.game sides.Black (after s.game (at k).board sides.White v) n) replies (moves s.game (at k).board sides.White) t.rest (λ a c. subst (λ side. win s.game (opponent side) (after s.game (at k).board side a.mv) n ≡ true) t.to_move (f a c)) in
      rw t.to_move (or_both (goal s.game (at k).board sides.Black) (goal s.game (at k).board sides.White) _ t.no_goal (together (has_any (moves s.game (at k).board sides.White)) _ all.0 all.1))

  node_ended : (k : ℕ) (node : Node) → node_fault s.game k (at k) node ≡ None → (at k).left ≡ 0 → goal s.game (at k).board sides.Black ≡ true
  node_ended k Goal h e = goal_stands (goal s.game (at k).board sides.Black) (faults.GoalDoesNotStand k) h
  node_ended k (Black mv next) h e = let t = has_turn s.game sides.Black (at k) _ (no_turn k _ h) in absurd (omega (arith, t.plies, e))
  node_ended k (White replies) h e = let t = has_turn s.game sides.White (at k) _ (no_turn k _ h) in absurd (omega (arith, t.plies, e))

  abbrev Win : ℕ → Place → Type 0
  Win n p = win s.game p.side p.board n ≡ true

  follow : (n k : ℕ) (node : Node) → slice_get nodes k ≡ Some node → (at k).left ≡ suc n
      → ((m : ℕ) (there : Node) → slice_get nodes m ≡ Some there → (at m).left ≡ n → Win n (at m)) → Follow n k node
  follow n k node h e next a c =
      let lead = of_answers (λ w. behind s.game (at w.from) w.mv ≡ at w.to) nodes k node a placed.leads h c in
      let low = of_answers (λ w. w.to < length (links nodes)) nodes k node a (λ i d lt. ((linked_namings (links nodes) l).later _ (All-contains_itself (namings (links nodes)) i d lt)).1) h c in
      let there = node_at nodes a.next.0 (omega (arith, low, links_length nodes)) in
      let left : (behind s.game (at k) a.mv).left ≡ n = omega (arith, e) in
      subst (Win n) (sym lead) (next a.next.0 there.0 there.1 (subst (λ (p : Place). p.left ≡ n) lead left))

  pub places_win : (n k : ℕ) (node : Node) → slice_get nodes k ≡ Some node → (at k).left ≡ n → Win n (at k)
  places_win zero k node h e = by_goal s.game (at k).side (at k).board zero (node_ended k node (placed.fine k node h) e)
  places_win (suc n) k node h e = node_wins n k node (placed.fine k node h) e (follow n k node h e (places_win n))

  pub placed_win : win s.game s.first s.board s.depth ≡ true
  placed_win =
      let first = node_at nodes 0 (omega (arith, (linked_namings (links nodes) l).some, links_length nodes)) in
      subst (Win s.depth) placed.root (places_win s.depth 0 first.0 first.1 (ap (λ (p : Place). p.left) placed.root))
