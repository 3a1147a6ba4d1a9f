-- The conditions by the inputs of a layout are those of the setup.
use Rattle.std.proofs.Common.{◌≡◌, ℕ, zero, suc, ◌<◌, ◌≤◌, ◌+◌, Bool, true, false, not, ◌&&◌, ◌||◌, nat_le, nat_lt, List, [], ◌∷◌, if◌then◌else◌, Option, None, Some, inl, inr, refl, sym, ap, ap₂, ◌∙◌, arith, lt-ltb, le-ltb, eq-eqb, ne_eqb, leb-true}
use Rattle.std.proofs.lemmas.Bool.{cases_lt}
use Rattle.bddl_model.specs.declared.game.Mark.{Mark}
use Rattle.bddl_model.specs.declared.game.PlyBits.{PlyBits}
use Rattle.bddl_model.specs.declared.game.Side.{Side}
use Rattle.bddl_model.specs.declared.game.Side.TheVariants.{Black, White}
use Rattle.bddl_model.specs.Truth.{Assignment}
use Rattle.bddl_model.specs.Conditions as model
use Rattle.bddl_model.specs.Conditions.{Cell, PlacedTest, Ply, Claim, Attack, each_below, is_white, all_pass_at, one_fails_at, is_refused, moves_pass, illegal_claimed}
use Rattle.bddl_model.specs.Encoding.{move_tests, line_tests, number_in, cell_in, layout_of, ply_read, claim_read, attack_read, refuting_read, place_read}
use Rattle.bddl_model.specs.Exact.{coded_move, own_code}
use Rattle.bddl_model.specs.Game.{Game, opponent, side_after}
use Rattle.bddl_model.specs.Layout.{Inputs, Sizes, sizes_of, ply_at, plies_at, plies_end, end}
use Rattle.bddl_model.specs.Setup.{Setup}
use Rattle.lifted_encode.specs.Asking.{unrefuted, found_met}
use Rattle.lifted_encode.specs.Joined as joined
use Rattle.lifted_encode.specs.Telling.{mark_below, ply_passes, plies_pass, ply_refused, one_refused}
use Rattle.lifted_encode.proofs.Carrying.{side_of_ply}
use Rattle.lifted_encode.proofs.Booleans.{and_associates, not_not, or_false, or_true}

-- ---- tests of all numbers below one

and_swap : (x y z : Bool) → (x && (y && z)) ≡ (y && (x && z))
and_swap true y z = refl
and_swap false true z = refl
and_swap false false z = refl

-- the least number first
first_below : (n : ℕ) (test : ℕ → Bool) → (test n && each_below n test) ≡ (test 0 && each_below n (λ k. test (suc k)))
first_below zero test = refl
first_below (suc n) test =
    ap (λ b. test (suc n) && b) (first_below n test) ∙ and_swap (test (suc n)) (test 0) (each_below n (λ k. test (suc k)))

same_below : (n : ℕ) (one other : ℕ → Bool) → ((k : ℕ) → one k ≡ other k) → each_below n one ≡ each_below n other
same_below zero one other same = refl
same_below (suc n) one other same = ap₂ (λ x y. x && y) (same n) (same_below n one other same)

-- ---- plies, one after the other

module _ (g : Game) (a : Assignment) (time : ℕ) (place : Cell) (marks : ℕ → Mark) where
  -- at the time and behind it nothing is asked of a ply
  pass_behind : (i : ℕ) (plies : List PlyBits) → time ≤ i → plies_pass g a time place marks i plies ≡ true
  pass_behind i [] le = refl
  pass_behind i (p ∷ ps) le = rw (le-ltb i time le) (pass_behind (suc i) ps (omega arith))

  refused_behind : (n i : ℕ) (plies : List PlyBits) → time ≤ i → one_refused g a time place marks n i plies ≡ false
  refused_behind n i [] le = refl
  refused_behind n i (p ∷ ps) le = rw (ne_eqb time (i + 1) (λ e. omega arith)) (refused_behind n (suc i) ps (omega arith))

  module _ (z : Sizes) where
    -- of the ply that comes after k from this side and this variable on, with i before them: whether the code that is to be legal passes
    abbrev own_passes : Side → ℕ → ℕ → ℕ → Bool
    own_passes side v i k = all_pass_at place (marks (i + k)) (move_tests g (side_after side k) (coded_move g (side_after side k) a (own_code (ply_at z (side_after side k) (plies_end z k side v)))))

    -- and whether it is White's and its code is refused
    abbrev code_refused : ℕ → Side → ℕ → ℕ → ℕ → Bool
    code_refused n side v i k = is_white (side_after side k) && is_refused place (marks (i + k)) n (move_tests g (side_after side k) (coded_move g (side_after side k) a (ply_at z (side_after side k) (plies_end z k side v)).code))

    first_passes : (side : Side) (v i : ℕ) → i < time → ply_passes g a time place marks i (ply_at z side v) ≡ own_passes side v i 0
    first_passes side v i lt =
        let none : i ≡ i + 0 = omega arith in
        rw (lt-ltb i time lt) (ap₂ (λ k s. all_pass_at place (marks k) (move_tests g s (coded_move g s a (own_code (ply_at z side v))))) none (side_of_ply z side v))

    first_refused : (n : ℕ) (side : Side) (v i : ℕ) → time ≡ i + 1 → ply_refused g a time place marks n i (ply_at z side v) ≡ code_refused n side v i 0
    first_refused n side v i e =
        let none : i ≡ i + 0 = omega arith in
        rw (eq-eqb time (i + 1) e) (ap₂ (λ k s. is_white s && is_refused place (marks k) n (move_tests g s (coded_move g s a (ply_at z side v).code))) none (side_of_ply z side v))

    later_passes : (side : Side) (v i k : ℕ) → own_passes (opponent side) (end (ply_at z side v).code) (suc i) k ≡ own_passes side v i (suc k)
    later_passes side v i k =
        let next = end (ply_at z side v).code in
        let behind : suc i + k ≡ i + suc k = omega arith in
        ap (λ m. all_pass_at place (marks m) (move_tests g (side_after side (suc k)) (coded_move g (side_after side (suc k)) a (own_code (ply_at z (side_after side (suc k)) (plies_end z (suc k) side v)))))) behind

    later_refused : (n : ℕ) (side : Side) (v i k : ℕ) → code_refused n (opponent side) (end (ply_at z side v).code) (suc i) k ≡ code_refused n side v i (suc k)
    later_refused n side v i k =
        let behind : suc i + k ≡ i + suc k = omega arith in
        ap (λ m. is_white (side_after side (suc k)) && is_refused place (marks m) n (move_tests g (side_after side (suc k)) (coded_move g (side_after side (suc k)) a (ply_at z (side_after side (suc k)) (plies_end z (suc k) side v)).code))) behind

    -- so many plies, of which the time has some left before it
    passes_each : (count left : ℕ) (side : Side) (v i : ℕ) → left ≤ count → time ≡ i + left
        → plies_pass g a time place marks i (plies_at z count side v) ≡ each_below left (own_passes side v i)
    passes_each count zero side v i le e = pass_behind i (plies_at z count side v) (omega arith)
    passes_each zero (suc left) side v i le e = absurd (omega arith)
    passes_each (suc count) (suc left) side v i le e =
        let next = end (ply_at z side v).code in
        let later = passes_each count left (opponent side) next (suc i) (omega arith) (omega arith) in
        ap₂ (λ x y. x && y) (first_passes side v i (omega arith)) (later ∙ same_below left _ _ (later_passes side v i))
        ∙ sym (first_below left (own_passes side v i))

    refused_one : (n count left : ℕ) (side : Side) (v i : ℕ) → left < count → time ≡ i + suc left
        → one_refused g a time place marks n i (plies_at z count side v) ≡ code_refused n side v i left
    refused_one n zero left side v i lt e = absurd (omega arith)
    refused_one n (suc count) zero side v i lt e =
        let next = end (ply_at z side v).code in
        ap₂ (λ x y. x || y) (first_refused n side v i (omega arith)) (refused_behind n (suc i) (plies_at z count (opponent side) next) (omega arith))
        ∙ or_false (code_refused n side v i 0)
    refused_one n (suc count) (suc left) side v i lt e =
        let next = end (ply_at z side v).code in
        rw (ne_eqb time (i + 1) (λ same. omega arith)) (refused_one n count left (opponent side) next (suc i) (omega arith) (omega arith) ∙ later_refused n side v i left)

-- ---- marks

mark_is : (count : ℕ) (marks : ℕ → Mark) (time : ℕ) → time < count → mark_below count marks time ≡ marks time
mark_is count marks time lt = rw (lt-ltb time count lt) refl

module _ (depth time refuting : ℕ) (place : Cell) (marks : ℕ → Mark) (le : time ≤ depth) where
  answered : (line : Option (List PlacedTest)) (said : ℕ)
      → (not (found_met (unrefuted refuting) place (mark_below depth marks said) line) || not (nat_lt said time))
      ≡ model.is_answered marks (record { line = line; time = said }) time refuting place
  answered None said = refl
  answered (Some ts) said = elim (cases_lt said time) [
    | inl lt ↦ rw (lt-ltb said time lt, mark_is depth marks said (omega arith)) (or_false (not (not (one_fails_at place (marks said) refuting ts))) ∙ not_not (one_fails_at place (marks said) refuting ts))
    | inr behind ↦ rw (le-ltb said time behind) (or_true (not (not (one_fails_at place (mark_below depth marks said) refuting ts))))
  ]

-- ---- all conditions

where_true : (b x y : Bool) → (b ≡ true → x ≡ y) → (b && x) ≡ (b && y)
where_true true x y h = h refl
where_true false x y h = refl

module _ (s : Setup) (a : Assignment) (marks : ℕ → Mark) where
  abbrev inputs : Inputs
  inputs = layout_of s

  abbrev claimed : ℕ
  claimed = number_in a (layout_of s).time

  abbrev there : Cell
  there = place_read s a

  moves_told : claimed ≤ s.depth → plies_pass s.game a claimed there marks 0 inputs.plies ≡ moves_pass (ply_read s a) marks claimed there
  moves_told le =
      passes_each s.game a claimed there marks (sizes_of s.game s.depth) s.depth claimed s.first 1 0 le (omega arith)
      ∙ same_below claimed _ _ (λ k. ap (λ m. all_pass_at there (marks m) (ply_read s a k).own) (let none : 0 + k ≡ k = omega arith in none))

  illegal_told : (n t : ℕ) → t ≡ claimed → t ≤ s.depth → one_refused s.game a claimed there marks n 0 inputs.plies ≡ illegal_claimed (ply_read s a) marks t n there
  illegal_told n zero e le = refused_behind s.game a claimed there marks n 0 inputs.plies (omega arith)
  illegal_told n (suc k) e le =
      refused_one s.game a claimed there marks (sizes_of s.game s.depth) n s.depth k s.first 1 0 (omega arith) (omega arith)
      ∙ ap (λ m. is_white (ply_read s a k).side && is_refused there (marks m) n (ply_read s a k).code) (let none : 0 + k ≡ k = omega arith in none)

  claim_told : claimed ≤ s.depth → joined.claim_holds s.game s.depth inputs a claimed there marks ≡ model.claim_holds (ply_read s a) marks (claim_read s a) there
  claim_told le =
      ap₂ (λ x y. if a inputs.kind.from then x else y) (illegal_told (number_in a inputs.atom) claimed refl le)
      (ap (λ m. all_pass_at there m (line_tests s.game Black (number_in a inputs.line) (cell_in s.game a inputs.anchor))) (mark_is (s.depth + 1) marks claimed (omega arith)))

  read_told : joined.conditions s.game s.depth inputs a there marks ≡ model.conditions s.depth (ply_read s a) marks (claim_read s a) (attack_read s a) (refuting_read s a) there
  read_told = and_associates (nat_le claimed s.depth) _ _ ∙ where_true (nat_le claimed s.depth) _ _ (λ e.
      let le = leb-true claimed s.depth e in
      ap₂ (λ x y. x && y) (moves_told le)
      (ap₂ (λ x y. x && y) (claim_told le)
      (answered s.depth claimed (refuting_read s a) there marks le (line_tests s.game White (number_in a inputs.white_line) (cell_in s.game a inputs.white_anchor)) (number_in a inputs.white_time))))

-- by the inputs and the place under other names
pub all_told : (s : Setup) (l : Inputs) (a : Assignment) (marks : ℕ → Mark) (place : Cell) → l ≡ layout_of s → place ≡ place_read s a
    → joined.conditions s.game s.depth l a place marks ≡ model.conditions s.depth (ply_read s a) marks (claim_read s a) (attack_read s a) (refuting_read s a) (place_read s a)
all_told s l a marks place laid here = ap₂ (λ m p. joined.conditions s.game s.depth m a p marks) laid here ∙ read_told s a marks
