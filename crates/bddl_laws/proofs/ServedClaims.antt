-- After moves that were played, a test that meets the conditions has the value under the blocks behind the plies that the last board, the plies left and the next codes tell.
use Rattle.std.proofs.Common.{◌≡◌, ℕ, suc, ◌≤◌, ◌<◌, ◌+◌, ◌^◌, Bool, true, false, List, length, take, inl, inr, sym, ap, ap₂, ◌∙◌, subst, arith, Option, Some}
use Rattle.std.proofs.lemmas.List.{length-take-le, take_all}
use Rattle.bddl_model.specs.declared.formula.Quant.TheVariants.{Exists, All}
use Rattle.bddl_model.specs.declared.formula.Bound.{Bound}
use Rattle.bddl_model.specs.declared.game.Side.{Side}
use Rattle.bddl_model.specs.declared.game.Side.TheVariants.{Black, White}
use Rattle.bddl_model.specs.declared.game.Move.{Move}
use Rattle.bddl_model.specs.declared.game.PlyBits.{PlyBits}
use Rattle.bddl_model.specs.Truth.{Assignment, value}
use Rattle.bddl_model.specs.Bits.{bits}
use Rattle.bddl_model.specs.Game.{Game, actions, side_after}
use Rattle.bddl_model.specs.Moves.{legal}
use Rattle.bddl_model.specs.Goal.{goal}
use Rattle.bddl_model.specs.Setup.{Setup}
use Rattle.bddl_model.specs.Layout.{Sizes, sizes_of, ply_at, bounds, end, most_tests, most_preconditions}
use Rattle.bddl_model.specs.Exact.{coded_move, own_code, position, ply_from, PlaysFrom}
use Rattle.bddl_model.specs.Conditions.{PlacedTest, Claim, Attack, is_white, conditions}
use Rattle.bddl_model.proofs.Assignments.{SameOutside, same_at_all}
use Rattle.bddl_model.proofs.Blocks.{SameBelow, below_block}
use Rattle.bddl_model.proofs.Bits.{bits_enough}
use Rattle.bddl_model.proofs.Numbers.{number_below}
use Rattle.bddl_model.specs.Encoding.{line_tests, move_tests, shown, ply_bits, ply_read, layout_of, claim_read, attack_read, refuting_read, place_read, MeetsConditions}
use Rattle.bddl_laws.proofs.Tests.{Marks, all_hold, tests_hold}
use Rattle.bddl_laws.proofs.Serving.{LineOf, NoneHolds, tests_in, IsNumberIn, History, Answered, Fails, goal_serves, illegal_serves, refusing_number, white_goal_refutes, spent_refutes, illegal_refutes, conditions_same}
use Rattle.bddl_laws.proofs.Claiming.{closing, some_claim_serves, each_claim_fails}
use Rattle.bddl_laws.proofs.GameTests.{IsPlace, cell_is_place, move_tests_hold, move_places, move_count}
use Rattle.bddl_laws.proofs.LineTests.{IsLine, line_is_one, line_places, line_count, goal_stands, no_line_holds}
use Rattle.bddl_laws.proofs.Played.{more_plies_end_later, plies_end-suc, own_ends_first, plays_front, plays_coded, Moment, plays_at, plays_same, own_tests_same, code_tests_same}
use Rattle.bddl_laws.proofs.ClosingInputs.{bit_is_set, bit_is_clear, plies_over, claim_span, attack_span, claim_same, writes_claim, attack_same, writes_attack, refuting_same, writes_refuting, writes_place}

some_number : (n : ℕ) → 0 < 2 ^ n
some_number n = omega (arith, number_below n 0 (λ v. false))

-- 0 or the number of a test, in bits for that many tests
number_fits : (o : Option (List PlacedTest)) (n most : ℕ) → tests_in o ≤ most → IsNumberIn o n → n < 2 ^ bits most
number_fits o n most le (inl e) = omega (arith, some_number (bits most))
number_fits o n most le (inr lt) = omega (arith, bits_enough most)

corner : (g : Game) → IsPlace g (record { x = 1; y = 1 })
corner g = record { column = (omega arith, some_number (bits g.width)); row = (omega arith, some_number (bits g.height)) }

module _ (s : Setup) where
  abbrev z : Sizes
  z = sizes_of s.game s.depth

  -- the plies up to the depth are read from their own bits
  ply_same : (a other : Assignment) → SameBelow (plies_over s) a other → (i : ℕ) → i < s.depth → ply_read s a i ≡ ply_read s other i
  ply_same a other same i lt =
      let side = side_after s.first i in
      let v = ply_from s i in
      let ends : end (ply_at z side v).code ≤ plies_over s = omega (arith, plies_end-suc z i s.first 1, more_plies_end_later z (suc i) s.depth s.first 1 lt) in
      ap₂ (λ x y. record { side = side; own = x; code = y })
      (own_tests_same s.game s.depth side v a other (λ w low. same w (omega (arith, low, own_ends_first s.game s.depth side v, ends))))
      (code_tests_same s.game s.depth side v a other (λ w low. same w (omega (arith, low, ends))))

module _ (s : Setup) (out : Assignment → Bool) (met : MeetsConditions s out) (a : Assignment) (ms : List Move) (played : PlaysFrom s a ms) where
  abbrev k : ℕ
  k = length ms

  abbrev g : Game
  g = s.game

  abbrev boards : ℕ → Marks
  boards i = shown g (position s (take i ms))

  abbrev pub served : Bool
  served = value (closing (claim_span s) (attack_span s) (layout_of s).refuting (layout_of s).place) out a

  moment : (i : ℕ) → i < k → Moment g s.depth a (side_after s.first i) (position s (take i ms)) (ply_bits s i)
  moment i lt = plays_at g s.depth a s.first s.board 1 i ms played.1 lt

  history : History (IsPlace g) (IsLine g Black) (IsLine g White) s.depth k (ply_read s a) boards
  history = record {
    within = played.0;
    some_place = (record { x = 1; y = 1 }, corner g);
    black_cells = line_places g Black;
    white_cells = line_places g White;
    own_cells = λ i. move_places g (side_after s.first i) _;
    code_cells = λ i. move_places g (side_after s.first i) _;
    own_legal = λ i lt. move_tests_hold g (position s (take i ms)) (side_after s.first i) _ ∙ (moment i lt).own;
    code_legal = λ i lt. move_tests_hold g (position s (take i ms)) (side_after s.first i) _ ∙ (moment i lt).code;
    no_black = λ i lt. no_line_holds g Black (position s (take i ms)) (moment i lt).no_black;
    no_white = λ i lt. no_line_holds g White (position s (take i ms)) (moment i lt).no_white;
  }

  -- ---- the test, on inputs that were written in turn

  shown_at : (y : Assignment) → SameBelow (plies_over s) a y → (i : ℕ) → i ≤ k → met.marks y i ≡ boards i (place_read s y)
  shown_at y same i le =
      let few : length (take i ms) ≤ s.depth = omega (arith, length-take-le i ms le, played.0) in
      let z = sizes_of g s.depth in
      let plays = plays_same g s.depth a y s.first s.board 1 ms (λ w low. same w (omega (arith, low, more_plies_end_later z k s.depth s.first 1 played.0))) played.1 in
      ap (met.marks y) (sym (length-take-le i ms le)) ∙ met.are_shown y (take i ms) few (plays_coded g s.depth y s.first s.board 1 (take i ms) (plays_front g s.depth y s.first s.board 1 i ms plays))

  abbrev Answers : Claim → Attack → Type 0
  Answers c w = Answered (IsPlace g) (IsLine g Black) (IsLine g White) s.depth k (ply_read s a) boards history c w

  abbrev NoAnswer : Claim → Attack → Type 0
  NoAnswer c w = Fails (IsPlace g) (IsLine g Black) (IsLine g White) s.depth k (ply_read s a) boards history c w

  abbrev claim_bounds : List Bound
  claim_bounds = bounds Exists (claim_span s).from (claim_span s).len

  abbrev attack_bounds : List Bound
  attack_bounds = bounds All (attack_span s).from (attack_span s).len

  abbrev refuting_bounds : List Bound
  refuting_bounds = bounds Exists (layout_of s).refuting.from (layout_of s).refuting.len

  abbrev place_bounds : List Bound
  place_bounds = bounds All (layout_of s).place.from (layout_of s).place.len

  -- a claim, an attack, a refuting number and a place, each written behind the ones before
  record InTurn (c w r y : Assignment) : Type 0 where
    plies : SameBelow (plies_over s) a y
    claim : SameBelow (layout_of s).white_line.from c y
    attack : SameBelow (layout_of s).refuting.from w y
    refuting : SameBelow (layout_of s).place.from r y

  in_turn : (c w r y : Assignment) → SameOutside claim_bounds a c → SameOutside attack_bounds c w → SameOutside refuting_bounds w r → SameOutside place_bounds r y → InTurn c w r y
  in_turn c w r y sc sw sr sy =
      let ac = below_block Exists (claim_span s).len (claim_span s).from a c sc in
      let cw = below_block All (attack_span s).len (attack_span s).from c w sw in
      let wr = below_block Exists (layout_of s).refuting.len (layout_of s).refuting.from w r sr in
      let ry = below_block All (layout_of s).place.len (layout_of s).place.from r y sy in
      let wy : SameBelow (layout_of s).refuting.from w y = λ v lt. wr v lt ∙ ry v (omega arith) in
      let cy : SameBelow (layout_of s).white_line.from c y = λ v lt. cw v lt ∙ wy v (omega arith) in
      record { plies = λ v lt. ac v lt ∙ cy v (omega arith); claim = cy; attack = wy; refuting = ry }

  -- each is read as it was written
  told : (c w r y : Assignment) → InTurn c w r y → out y ≡ conditions s.depth (ply_read s a) (met.marks y) (claim_read s c) (attack_read s w) (refuting_read s r) (place_read s y)
  told c w r y same =
      met.tells y
      ∙ conditions_same s.depth (ply_read s y) (ply_read s a) (met.marks y) (claim_read s y) (attack_read s y) (refuting_read s y) (place_read s y) (λ i lt. sym (ply_same s a y same.plies i lt))
      ∙ ap₂ (λ x t. conditions s.depth (ply_read s a) (met.marks y) x t (refuting_read s y) (place_read s y)) (sym (claim_same s c y same.claim)) (sym (attack_same s w y same.attack))
      ∙ ap (λ x. conditions s.depth (ply_read s a) (met.marks y) (claim_read s c) (attack_read s w) x (place_read s y)) (sym (refuting_same s r y same.refuting))

  serves : (c : Assignment) → SameOutside claim_bounds a c → ((w : Attack) → LineOf (IsLine g White) w.line → Answers (claim_read s c) w) → served ≡ true
  serves c sc f = some_claim_serves (claim_span s) (attack_span s) (layout_of s).refuting (layout_of s).place out a c sc (λ w sw.
      let n = f (attack_read s w) (line_is_one g White _ _) in
      let r = writes_refuting s w n.0 (number_fits (attack_read s w).line n.0 (most_tests g.white_lines) (line_count g White _ _) n.1) in (
        r.0,
        r.1,
        λ y sy.
            let same = in_turn c w r.0 y sc sw r.1 sy in
            told c w r.0 y same
            ∙ ap (λ x. conditions s.depth (ply_read s a) (met.marks y) (claim_read s c) (attack_read s w) x (place_read s y)) r.2
            ∙ n.2 (place_read s y) (met.marks y) (shown_at y same.plies),
      ))

  fails : ((c : Assignment) → SameOutside claim_bounds a c → (w : Assignment) × SameOutside attack_bounds c w × NoAnswer (claim_read s c) (attack_read s w)) → served ≡ false
  fails f = each_claim_fails (claim_span s) (attack_span s) (layout_of s).refuting (layout_of s).place out a (λ c sc.
      let w = f c sc in (
        w.0,
        w.1,
        λ r sr.
            let n = w.2 (refuting_read s r) in
            let y = writes_place s r n.0 n.1 in
            let same = in_turn c w.0 r y.0 sc w.1 sr y.1 in (
              y.0,
              y.1,
              told c w.0 r y.0 same
                  ∙ ap (λ x. conditions s.depth (ply_read s a) (met.marks y.0) (claim_read s c) (attack_read s w.0) (refuting_read s r) x) y.2
                  ∙ n.2 (met.marks y.0) (λ i le. shown_at y.0 same.plies i le ∙ ap (boards i) y.2),
            ),
      ))

  -- ---- which claims serve

  -- the last board is that after all moves
  all_taken : take k ms ≡ ms
  all_taken = take_all k ms (omega arith)

  last_board : boards k ≡ shown g (position s ms)
  last_board = ap (λ l. shown g (position s l)) all_taken

  none_on_last : (side : Side) → goal g (position s ms) side ≡ false → NoneHolds (IsLine g side) (boards k)
  none_on_last side h = no_line_holds g side (position s (take k ms)) (ap (λ l. goal g (position s l) side) all_taken ∙ h)

  time_fits : (t : ℕ) → t ≤ s.depth → t < 2 ^ bits (s.depth + 1)
  time_fits t le = omega (arith, le, bits_enough (s.depth + 1))

  pub black_stands : goal g (position s ms) Black ≡ true → served ≡ true
  black_stands h =
      let l = goal_stands g Black (position s ms) h in
      let c = writes_claim s a 0 k l.number l.anchor 0 (omega arith) (time_fits k played.0) (omega (arith, l.below, bits_enough (length g.black_lines))) (cell_is_place g l.anchor l.column l.row) (some_number (bits (most_preconditions g.white_actions))) in
      let line : (claim_read s c.written).line ≡ Some l.tests = ap₂ (line_tests g Black) c.line_is c.anchor_is ∙ l.line in
      serves c.written c.same (λ w f. goal_serves (IsPlace g) (IsLine g Black) (IsLine g White) s.depth k (ply_read s a) boards history
      l.tests (ap (λ b. all_hold b l.tests) last_board ∙ l.hold) (claim_read s c.written) (bit_is_clear _ c.kind_is) c.time_is line w f)

  pub white_stands : goal g (position s ms) Black ≡ false → goal g (position s ms) White ≡ true → served ≡ false
  white_stands nb h = fails (λ c sc.
      let l = goal_stands g White (position s ms) h in
      let w = writes_attack s c k l.number l.anchor l.below (time_fits k played.0) (omega (arith, l.below, bits_enough (length g.white_lines))) (cell_is_place g l.anchor l.column l.row) in (
        w.written,
        w.same,
        white_goal_refutes (IsPlace g) (IsLine g Black) (IsLine g White) s.depth k (ply_read s a) boards history
            (none_on_last Black nb) l.tests (l.number, l.anchor, l.line) (ap (λ b. all_hold b l.tests) last_board ∙ l.hold) (claim_read s c) (line_is_one g Black _ _)
            (attack_read s w.written) (ap₂ (line_tests g White) w.line_is w.anchor_is ∙ l.line) w.time_is,
      ))

  pub spent : k ≡ s.depth → goal g (position s ms) Black ≡ false → served ≡ false
  spent e nb = fails (λ c sc. (
    c,
    same_at_all c attack_bounds,
    spent_refutes (IsPlace g) (IsLine g Black) (IsLine g White) s.depth k (ply_read s a) boards history e (none_on_last Black nb) (claim_read s c) (line_is_one g Black _ _) (attack_read s c),
  ))

  -- the ply that comes next
  abbrev pub next : PlyBits
  next = ply_bits s k

  abbrev pub next_side : Side
  next_side = side_after s.first k

  tests_on_last : (m : Move) → tests_hold (boards k) (move_tests g next_side m) ≡ legal g (position s ms) next_side m
  tests_on_last m = move_tests_hold g (position s (take k ms)) next_side m ∙ ap (λ l. legal g (position s l) next_side m) all_taken

  pub own_illegal : goal g (position s ms) Black ≡ false → legal g (position s ms) next_side (coded_move g next_side a (own_code next)) ≡ false → served ≡ false
  own_illegal nb illegal = fails (λ c sc. (
    c,
    same_at_all c attack_bounds,
    illegal_refutes (IsPlace g) (IsLine g Black) (IsLine g White) s.depth k (ply_read s a) boards history (tests_on_last _ ∙ illegal) (none_on_last Black nb) (claim_read s c) (line_is_one g Black _ _) (attack_read s c),
  ))

  pub code_illegal : k < s.depth → next_side ≡ White → goal g (position s ms) White ≡ false
      → legal g (position s ms) next_side (coded_move g next_side a (own_code next)) ≡ true
      → legal g (position s ms) next_side (coded_move g next_side a next.code) ≡ false → served ≡ true
  code_illegal lt turn nw sample illegal =
      let n = refusing_number (IsPlace g) (IsLine g Black) (IsLine g White) s.depth k (ply_read s a) boards history (ply_read s a k).code (move_places g next_side _) (tests_on_last _ ∙ illegal) in
      let count : tests_in (ply_read s a k).code ≤ most_preconditions g.white_actions = subst (λ side. tests_in (ply_read s a k).code ≤ most_preconditions (actions g side)) turn (move_count g next_side _) in
      let c = writes_claim s a 1 (suc k) 0 (record { x = 1; y = 1 }) n.0 (omega arith) (time_fits (suc k) lt) (some_number (bits (length g.black_lines))) (corner g) (number_fits (ply_read s a k).code n.0 (most_preconditions g.white_actions) count n.1) in
      serves c.written c.same (λ w f. illegal_serves (IsPlace g) (IsLine g Black) (IsLine g White) s.depth k (ply_read s a) boards history
      lt (ap is_white turn) (tests_on_last _ ∙ sample) (none_on_last White nw) n.0 n.2 (claim_read s c.written) (bit_is_set _ c.kind_is) c.time_is c.atom_is w f)
