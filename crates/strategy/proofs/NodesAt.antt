-- A node of a move by which Black wins has no fault, nor has one of all of White's moves where Black wins.
use Rattle.std.proofs.Common.{◌≡◌, ℕ, zero, suc, ◌-◌, ◌*◌, ◌≤◌, Bool, true, false, not, ◌&&◌, ◌||◌, List, [], ◌∷◌, length, map, None, inl, inr, refl, sym, ap, ap₂, ◌∙◌, subst, arith, eq-eqb, ne_eqb}
use Rattle.std.specs.Prelude.{◌==◌, All}
use Rattle.std.specs.List.{list_all}
use Rattle.std.proofs.lemmas.Bool.{and_parts, false≢true}
use Rattle.std.proofs.lemmas.List.{length-map}
use Rattle.std.proofs.lemmas.List.Sums.{AllPass-from_list_all}
use Rattle.bddl_model.specs.declared.certificate.Answered.{Answered}
use Rattle.bddl_model.specs.declared.certificate.Node.TheVariants as nodes
use Rattle.bddl_model.specs.declared.certificate.NodeNo.{NodeNo}
use Rattle.bddl_model.specs.declared.game.Move.{Move}
use Rattle.bddl_model.specs.declared.game.Side.{Side}
use Rattle.bddl_model.specs.declared.game.Side.TheVariants.{Black, White}
use Rattle.bddl_model.specs.Board.{Board}
use Rattle.bddl_model.specs.Game.{Game}
use Rattle.bddl_model.specs.Goal.{goal}
use Rattle.bddl_model.specs.Moves.{legal, moves, after}
use Rattle.bddl_model.specs.Win.{has_any, win}
use Rattle.bddl_model.specs.Certificate.{Place, same_move, difference, answers_fault}
use Rattle.bddl_laws.proofs.LegalMoves.{any_move, each_move}
use Rattle.strategy.specs.FirstMoves.{WinsBy}
use Rattle.strategy.specs.Growing.{AwaitsReplies, AwaitsWhite, IsNodeAt}
use Rattle.bddl_laws.proofs.BreadthFirst.{all_one}

all_mapped : {X Y : Type 0} (f : Y → Bool) (h : X → Y) (xs : List X) → list_all f (map h xs) ≡ true → All (λ x. f (h x) ≡ true) xs
all_mapped f h [] passes k d lt = absurd (omega (arith, lt))
all_mapped f h (x ∷ xs) passes zero d lt = (and_parts (f (h x)) _ passes).0
all_mapped f h (x ∷ xs) passes (suc k) d lt = all_mapped f h xs (and_parts (f (h x)) _ passes).1 k d (omega (arith, lt))

-- ---- Black's goal

pub goal_is_node : (g : Game) (p : Place) → goal g p.board Black ≡ true → IsNodeAt g p nodes.Goal
goal_is_node g p stands = record {
  fine = λ n. rw stands refl;
  left = inr refl;
  few = omega arith;
  won = goal_wins p.side p.left;
  wins = λ k d lt. absurd (omega (arith, lt));
}
  where
    goal_wins : (side : Side) (left : ℕ) → win g side p.board left ≡ true
    goal_wins side zero = stands
    goal_wins Black (suc n) = rw stands refl
    goal_wins White (suc n) = rw stands refl

-- ---- Black's move

module _ (g : Game) (board : Board) where
  black_wins : (left : ℕ) (m : Move) → 1 ≤ left → WinsBy g board left m → win g Black board left ≡ true
  black_wins zero m low by = absurd (omega (arith, low))
  black_wins (suc n) m low by =
      let less : suc n - 1 ≡ n = omega arith in
      rw (by.unfinished, any_move g board Black (λ k. win g White (after g board Black k) n) m by.legal (ap (win g White (after g board Black m)) (sym less) ∙ by.wins)) (or_true (goal g board Black))
    where
      or_true : (b : Bool) → (b || true) ≡ true
      or_true true = refl
      or_true false = refl

  pub move_is_node : (left : ℕ) (m : Move) (next : NodeNo) → 1 ≤ left → WinsBy g board left m → IsNodeAt g (record { side = Black; board = board; left = left }) (nodes.Black m next)
  move_is_node left m next low by = record {
    fine = λ n. rw (by.unfinished, ne_eqb left 0 (λ none. omega arith), by.legal) refl;
    left = inl low;
    few = omega arith;
    won = black_wins left m low by;
    wins = all_one (λ (a : Answered). win g White (after g board Black a.mv) (left - 1) ≡ true) (record { mv = m; next = next }) by.wins;
  }

-- ---- White's moves

same_number : (n : ℕ) → (n == n) ≡ true
same_number n = eq-eqb n n refl

move_itself : (m : Move) → same_move m m ≡ true
move_itself m = rw (same_number m.action, same_number m.x, same_number m.y) refl

none_differs : (n : ℕ) (all : List Answered) (mvs : List Move) → map (λ a. a.mv) all ≡ mvs → difference n all mvs ≡ None
none_differs n [] [] h = refl
none_differs n [] (m ∷ mvs) h = absurd cc
none_differs n (a ∷ all) [] h = absurd cc
none_differs n (a ∷ all) (m ∷ mvs) h =
    let same : a.mv ≡ m = cc in
    let rest : map (λ b. b.mv) all ≡ mvs = cc in
    rw (sym same, move_itself a.mv) (none_differs (suc n) all mvs rest)

all_answered : (all : List Answered) (mvs : List Move) → map (λ a. a.mv) all ≡ mvs → has_any mvs ≡ true → answers_fault all mvs ≡ None
all_answered all [] h some = absurd (false≢true some)
all_answered all (m ∷ mvs) h some = rw (none_differs 0 all (m ∷ mvs) h) refl

-- what it takes that Black can force its goal where White is to move
record AreWon (g : Game) (board : Board) (left : ℕ) : Type 0 where
  low : 1 ≤ left
  unfinished : goal g board White ≡ false
  some : has_any (moves g board White) ≡ true
  each : list_all (λ m. win g Black (after g board White m) (left - 1)) (moves g board White) ≡ true

are_won : (g : Game) (board : Board) (left : ℕ) → goal g board Black ≡ false → win g White board left ≡ true → AreWon g board left
are_won g board zero none wins = absurd (false≢true (sym none ∙ wins))
are_won g board (suc n) none wins =
    let rest : (not (goal g board White) && (has_any (moves g board White) && list_all (λ m. win g Black (after g board White m) n) (moves g board White))) ≡ true = rw none at wins in
    let parts = and_parts (not (goal g board White)) _ rest in
    let more = and_parts (has_any (moves g board White)) _ parts.1 in
    let less : n ≡ suc n - 1 = omega arith in
    record {
      low = omega arith;
      unfinished = is_false (goal g board White) parts.0;
      some = more.0;
      each = subst (λ k. list_all (λ m. win g Black (after g board White m) k) (moves g board White) ≡ true) less more.1;
    }
  where
    is_false : (b : Bool) → not b ≡ true → b ≡ false
    is_false true h = absurd (false≢true h)
    is_false false h = refl

white_is_node : (g : Game) (board : Board) (left : ℕ) (all : List Answered) → AreWon g board left → win g White board left ≡ true → map (λ a. a.mv) all ≡ moves g board White
    → IsNodeAt g (record { side = White; board = board; left = left }) (nodes.White all)
white_is_node g board left all won wins same = record {
  fine = λ n. rw (won.unfinished, ne_eqb left 0 (λ none. let low = won.low in omega arith), all_answered all (moves g board White) same won.some) refl;
  left = inl won.low;
  few = let count = sym (length-map all (λ (a : Answered). a.mv)) ∙ ap length same in omega (arith, count);
  won = wins;
  wins = all_mapped (λ m. win g Black (after g board White m) (left - 1)) (λ (a : Answered). a.mv) all (subst (λ mvs. list_all (λ m. win g Black (after g board White m) (left - 1)) mvs ≡ true) (sym same) won.each);
}

module _ (g : Game) (board : Board) (p : Place) (awaits : AwaitsWhite g board p) where
  abbrev there : Place
  there = record { side = White; board = board; left = p.left }

  is_there : there ≡ p
  is_there = ap₂ (λ s b. record { side = s; board = b; left = p.left }) (sym awaits.side) (sym awaits.here)

  pub replies_are_node : (all : List Answered) → map (λ a. a.mv) all ≡ moves g board White → IsNodeAt g p (nodes.White all)
  replies_are_node all same = subst (λ q. IsNodeAt g q (nodes.White all)) is_there
      (white_is_node g board p.left all (are_won g board p.left awaits.unfinished awaits.won) awaits.won same)

  pub awaits_replies : (mvs : List Move) → length board ≡ g.height * g.width → mvs ≡ moves g board White → AwaitsReplies g p mvs
  awaits_replies mvs size are =
      let won = are_won g board p.left awaits.unfinished awaits.won in
      record {
        size = ap length awaits.here ∙ size;
        side = awaits.side;
        left = won.low;
        legal = subst (λ b. All (λ m. legal g b White m ≡ true) mvs) (sym awaits.here) (subst (All (λ m. legal g board White m ≡ true)) (sym are) (AllPass-from_list_all (legal g board White) (moves g board White) (each_move g board White (legal g board White) (λ m may. may))));
      }
