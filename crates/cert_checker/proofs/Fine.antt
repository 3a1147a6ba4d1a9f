-- The answers of a node without fault: each is a move that the side may make, and a ply is left.
use Rattle.std.proofs.Common.{◌≡◌, ℕ, suc, ◌<◌, Bool, true, false, not, List, [], ◌∷◌, refl, sym, subst, arith}
use Rattle.std.specs.Prelude.{◌==◌, if◌then◌else◌, Option, None, Some, All}
use Rattle.std.specs.List.{slice_index_or}
use Rattle.std.proofs.lemmas.Bool.Decides.{nat_tests}
use Rattle.std.proofs.lemmas.List.Elements.{All-nil, All-cons, All-head, All-tail, All-weaker, filter_passes}
use Rattle.bddl_model.specs.declared.game.Side.{Side}
use Rattle.bddl_model.specs.declared.game.Side.TheVariants as sides
use Rattle.bddl_model.specs.declared.game.Move.{Move}
use Rattle.bddl_model.specs.declared.certificate.Answered.{Answered}
use Rattle.bddl_model.specs.declared.certificate.Node.{Node}
use Rattle.bddl_model.specs.declared.certificate.Node.TheVariants.{Goal, Black, White}
use Rattle.bddl_model.specs.declared.certificate.CertFault.{CertFault}
use Rattle.bddl_model.specs.declared.certificate.TurnFault.{TurnFault}
use Rattle.bddl_model.specs.declared.certificate.TurnFault.TheVariants as turn
use Rattle.bddl_model.specs.Game.{Game}
use Rattle.bddl_model.specs.Goal.{goal}
use Rattle.bddl_model.specs.Moves.{legal, moves, all_moves}
use Rattle.bddl_model.specs.Setup.{Setup}
use Rattle.bddl_model.specs.CertificateGraph.{answers}
use Rattle.bddl_model.specs.Certificate.{Place, same_side, same_move, turn_fault, difference, differ_at, answers_fault, turn_at, move_fault, replies_fault, node_fault}
use Rattle.cert_checker.specs.Places.{MayMove}
use Rattle.cert_checker.specs.Checking.{IsAnswer, IsLater}
use Rattle.bddl_model.proofs.PlaceTests.{sides_equal, moves_equal}

pub no_turn_fault : (n : ℕ) (o : Option TurnFault) → turn_at n o ≡ None → o ≡ None
no_turn_fault n None h = refl
no_turn_fault n (Some turn.WrongSide) h = absurd cc
no_turn_fault n (Some turn.WhiteGoalStands) h = absurd cc
no_turn_fault n (Some turn.PliesSpent) h = absurd cc
no_turn_fault n (Some turn.IllegalMove) h = absurd cc
no_turn_fault n (Some turn.Stuck) h = absurd cc
no_turn_fault n (Some (turn.RepliesDiffer k)) h = absurd cc

tests_passed : (same white spent : Bool) (more : Option TurnFault) → (if not same then Some turn.WrongSide else if white then Some turn.WhiteGoalStands else if spent then Some turn.PliesSpent else more) ≡ None
    → (same ≡ true) × (spent ≡ false) × (more ≡ None)
tests_passed true true spent more h = absurd cc
tests_passed true false true more h = absurd cc
tests_passed true false false more h = (refl, refl, h)
tests_passed false white spent more h = absurd cc

some_left : (n : ℕ) → (n == 0) ≡ false → 0 < n
some_left n h = grind (arith, nat_tests)

-- the side may move, and what else is asked of it is so
pub may_turn : (g : Game) (side : Side) (p : Place) (more : Option TurnFault) → turn_fault g side p more ≡ None → (p.side ≡ side) × (0 < p.left) × (more ≡ None)
may_turn g side p more h =
    let passed = tests_passed (same_side p.side side) (goal g p.board sides.White) (p.left == 0) more h in
    (sides_equal p.side side passed.0, some_left p.left passed.1, passed.2)

legal_passed : (b : Bool) → (if b then None else Some turn.IllegalMove) ≡ None → b ≡ true
legal_passed true h = refl
legal_passed false h = absurd cc

no_difference : (P : Move → Type 0) (n : ℕ) (replies : List Answered) (ms : List Move) → difference n replies ms ≡ None → All P ms → All (λ a. P a.mv) replies
no_difference P n [] ms h all = All-nil (λ a. P a.mv)
no_difference P n (a ∷ rest) [] h all = absurd cc
no_difference P n (a ∷ rest) (m ∷ ms) h all = by (same_move a.mv m) refl h (no_difference P (suc n) rest ms)
  where
    by : (b : Bool) → same_move a.mv m ≡ b → (if b then difference (suc n) rest ms else Some n) ≡ None → (difference (suc n) rest ms ≡ None → All P ms → All (λ a. P a.mv) rest) → All (λ a. P a.mv) (a ∷ rest)
    by true same none more = All-cons (λ a. P a.mv) a rest (subst P (sym (moves_equal a.mv m same)) (All-head P m ms all)) (more none (All-tail P m ms all))
    by false same none more = absurd cc

no_answers_fault : (P : Move → Type 0) (replies : List Answered) (ms : List Move) → answers_fault replies ms ≡ None → All P ms → All (λ a. P a.mv) replies
no_answers_fault P replies [] h all = absurd cc
no_answers_fault P replies (m ∷ ms) h all = no_difference P 0 replies (m ∷ ms) (none (difference 0 replies (m ∷ ms)) h) all
  where
    none : (o : Option ℕ) → differ_at o ≡ None → o ≡ None
    none None h = refl
    none (Some k) h = absurd cc

may_move : (g : Game) (side : Side) (p : Place) (m : Move) → p.side ≡ side → 0 < p.left → legal g p.board side m ≡ true → MayMove g p m
may_move g side p m turn left h = record { legal = subst (λ s. legal g p.board s m ≡ true) (sym turn) h; left = left }

one_may : (g : Game) (side : Side) (p : Place) (a : Answered) → move_fault g side p a.mv ≡ None → All (λ b. MayMove g p b.mv) (a ∷ [])
one_may g side p a h =
    let passed = may_turn g side p _ h in
    All-cons (λ b. MayMove g p b.mv) a [] (may_move g side p a.mv passed.0 passed.1 (legal_passed (legal g p.board side a.mv) passed.2)) (All-nil (λ b. MayMove g p b.mv))

all_may : (g : Game) (side : Side) (p : Place) (replies : List Answered) → replies_fault g side p replies ≡ None → All (λ b. MayMove g p b.mv) replies
all_may g side p replies h =
    let passed = may_turn g side p _ h in
    no_answers_fault (MayMove g p) replies (moves g p.board side) passed.2 (All-weaker (λ m. legal g p.board side m ≡ true) (MayMove g p) (λ m. may_move g side p m passed.0 passed.1) (moves g p.board side) (filter_passes (legal g p.board side) (all_moves g side)))

answers_may : (g : Game) (n : ℕ) (p : Place) (node : Node) → node_fault g n p node ≡ None → All (λ b. MayMove g p b.mv) (answers node)
answers_may g n p Goal h = All-nil (λ b. MayMove g p b.mv)
answers_may g n p (Black mv next) h = one_may g sides.Black p (record { mv = mv; next = next }) (no_turn_fault n _ h)
answers_may g n p (White replies) h = all_may g sides.White p replies (no_turn_fault n _ h)

pub are_answers : (s : Setup) (g : Game) (count n : ℕ) (p : Place) (node : Node) → g ≡ s.game → node_fault g n p node ≡ None → All (IsLater count n) (answers node) → All (IsAnswer s count n p) (answers node)
are_answers s g count n p node e h later k d lt =
    let a = slice_index_or (answers node) k d in
    let order = later k d lt in
    record { later = order.0; inside = order.1; may = subst (λ f. MayMove f p a.mv) e (answers_may g n p node h k d lt) }

pub answers_same : (s : Setup) (count n : ℕ) (p : Place) (node : Node) (all : List Answered) → all ≡ answers node → All (IsAnswer s count n p) (answers node) → All (IsAnswer s count n p) all
answers_same s count n p node all e h = subst (All (IsAnswer s count n p)) (sym e) h

pub no_fault : (o : Option CertFault) → ((f : CertFault) → o ≡ Some f → ⊥) → o ≡ None
no_fault None never = refl
no_fault (Some f) never = absurd (never f refl)
