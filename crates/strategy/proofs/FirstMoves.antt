-- The values of the first block of a form that is true spell a move by which Black wins.
use Rattle.std.proofs.Common.{◌≡◌, ℕ, zero, suc, ◌+◌, ◌-◌, ◌≤◌, ◌<◌, Bool, true, false, not, ◌&&◌, ◌||◌, List, [], ◌∷◌, ◌++◌, length, take, drop, inl, inr, refl, sym, ap, ap₂, ◌∙◌, subst, arith, append_assoc, ne_eqb}
use Rattle.std.proofs.lemmas.Bool.{false≢true, cases_Bool}
use Rattle.std.proofs.lemmas.List.{length-take-le, length-drop}
use Rattle.std.specs.List.{list_any}
use Rattle.bddl_model.specs.declared.formula.Quant.{Quant}
use Rattle.bddl_model.specs.declared.formula.Quant.TheVariants.{Exists}
use Rattle.bddl_model.specs.declared.formula.Bound.{Bound}
use Rattle.bddl_model.specs.declared.game.Move.{Move}
use Rattle.bddl_model.specs.declared.game.Side.TheVariants.{Black, White}
use Rattle.bddl_model.specs.Truth.{Assignment, Formula, assign, value, clauses_true, no_values}
use Rattle.bddl_model.specs.Fine.{first_block, with_first, value_under}
use Rattle.bddl_model.specs.Game.{Game}
use Rattle.bddl_model.specs.Board.{Board}
use Rattle.bddl_model.specs.Moves.{legal, moves, after}
use Rattle.bddl_model.specs.Goal.{goal}
use Rattle.bddl_model.specs.Win.{win}
use Rattle.bddl_model.specs.Setup.{Setup}
use Rattle.bddl_model.specs.Layout.{sizes_of, bounds, span, prefix_of, plies_at, plies_blocks, claim_blocks, code_bits, layout}
use Rattle.bddl_model.specs.Codes.{Shape, shape_of, code_length, code, spelled_move, IsPlaced}
use Rattle.bddl_model.specs.Exact.{coded_move, value_from}
use Rattle.bddl_model.specs.Encodes.{Encodes}
use Rattle.bddl_model.specs.Verdicts.{IsValue}
use Rattle.bddl_model.proofs.Assignments.{assign_same, assign_other}
use Rattle.bddl_model.proofs.Codes.{code_length_is, code_spelled, legal_is_in_range, in_range_is_placed}
use Rattle.bddl_laws.proofs.FirstValues.{first_values}
use Rattle.bddl_laws.proofs.LayoutPrefix.{drop_block}
use Rattle.symbol_cell.specs.Coded.{values_at}
use Rattle.symbol_cell.proofs.Carried.{move_values}
use Rattle.lifted_encode.specs.Encoded.{setup_of}
use Rattle.strategy.specs.FirstMoves.{WinsBy}

-- ---- the values of a block

block_keeps : (q : Quant) (n v : ℕ) (c : List Bool) (a : Assignment) (u : ℕ) → u < v → with_first (bounds q v n) c a u ≡ a u
block_keeps q zero v c a u below = refl
block_keeps q (suc n) v [] a u below = refl
block_keeps q (suc n) v (x ∷ c) a u below =
    block_keeps q n (suc v) c (assign v x a) u (omega arith) ∙ assign_other v x a u (ne_eqb v u (λ e. omega arith))

values_block : (q : Quant) (c : List Bool) (v : ℕ) (a : Assignment) → values_at (with_first (bounds q v (length c)) c a) v (length c) ≡ c
values_block q [] v a = refl
values_block q (x ∷ c) v a =
    ap₂ (λ y ys. y ∷ ys) (block_keeps q (length c) (suc v) c (assign v x a) v (omega arith) ∙ assign_same v x a) (values_block q c (suc v) (assign v x a))

behind_block : (q : Quant) (n v : ℕ) (rest : List Bound) (m : Assignment → Bool) (first : List Bool) (a : Assignment) → n ≤ length first
    → value_under (bounds q v n ++ rest) m first a ≡ value_under rest m (drop n first) (with_first (bounds q v n) (take n first) a)
behind_block q zero v rest m first a le = refl
behind_block q (suc n) v rest m [] a le = absurd (omega arith)
behind_block q (suc n) v rest m (x ∷ first) a le = behind_block q n (suc v) rest m first (assign v x a) (omega arith)

first_block_is : (n v : ℕ) (rest : List Bound) → first_block Exists (bounds Exists v n ++ rest) ≡ n + first_block Exists rest
first_block_is zero v rest = omega arith
first_block_is (suc n) v rest = let later = first_block_is n (suc v) rest in omega (arith, later)

-- behind a block of values that make a test true, some assignment does that begins with them
true_behind : (n v : ℕ) (rest : List Bound) (m : Assignment → Bool) (first : List Bool) (a : Assignment)
    → length first ≡ first_block Exists (bounds Exists v n ++ rest) → value_under (bounds Exists v n ++ rest) m first a ≡ true
    → value rest m (with_first (bounds Exists v n) (take n first) a) ≡ true
true_behind n v rest m first a len holds =
    let whole : length first ≡ n + first_block Exists rest = len ∙ first_block_is n v rest in
    let more = length-drop n first in
    let b = with_first (bounds Exists v n) (take n first) a in
    (first_values Exists (length (drop n first)) rest m b (omega (arith, whole, more))).1
    (drop n first, refl, sym (behind_block Exists n v rest m first a (omega (arith, whole))) ∙ holds)

no_white_goal : (black white any : Bool) → (black || (not white && any)) ≡ true → black ≡ false → white ≡ false
no_white_goal true white any h none = absurd (false≢true (sym none))
no_white_goal false true any h none = absurd (false≢true h)
no_white_goal false false any h none = refl

-- ---- the move

module _ (g : Game) (board : Board) (d : ℕ) (f : Formula) (encodes : Encodes f (setup_of g board Black (suc d))) (first : List Bool) (is : IsValue f Exists true first) (unfinished : goal g board Black ≡ false) where
  abbrev s : Setup
  s = setup_of g board Black (suc d)

  abbrev n : ℕ
  n = code_bits g g.black_actions

  abbrev shape : Shape
  shape = shape_of g Black

  abbrev matrix : Assignment → Bool
  matrix = clauses_true f.clauses

  abbrev a : Assignment
  a = with_first (bounds Exists 1 n) (take n first) no_values

  abbrev rest : List Bound
  rest = (prefix_of (plies_blocks (plies_at (sizes_of g (suc d)) d White (1 + n)) ++ claim_blocks (layout g Black (suc d)))) ++ bounds Exists ((layout g Black (suc d)).inputs + 1) encodes.exact.0.0

  prefix_is : f.prefix ≡ bounds Exists 1 n ++ rest
  prefix_is = encodes.exact.0.1 ∙ append_assoc (bounds Exists 1 n) _ _

  pub first_length : length first ≡ n + first_block Exists rest
  first_length = is.block ∙ ap (first_block Exists) prefix_is ∙ first_block_is n 1 rest

  true_there : value_from f.prefix matrix (1 + n) a ≡ true
  true_there =
      let less : 1 + n - 1 ≡ n = omega arith in
      ap₂ (λ k p. value (drop k p) matrix a) less prefix_is
      ∙ ap (λ p. value p matrix a) (drop_block Exists 1 n n rest refl)
      ∙ true_behind n 1 rest matrix first no_values (is.block ∙ ap (first_block Exists) prefix_is) (ap (λ p. value_under p matrix first no_values) (sym prefix_is) ∙ is.rest)

  abbrev m : Move
  m = coded_move g Black a (span 1 n)

  is_legal : legal g board Black m ≡ true
  is_legal = elim (cases_Bool (legal g board Black m)) [
    | inl may ↦ may
    | inr none ↦ absurd (false≢true (sym (encodes.exact.1.black_illegal a [] (omega arith, tt) (omega arith, unfinished) refl none) ∙ true_there))
  ]

  no_white : goal g board White ≡ false
  no_white = no_white_goal (goal g board Black) (goal g board White) (list_any (λ k. win g White (after g board Black k) d) (moves g board Black)) (sym encodes.value ∙ is.form) unfinished

  wins_behind : win g White (after g board Black m) d ≡ true
  wins_behind =
      let one_less : suc d - 1 ≡ d = omega arith in
      sym (encodes.exact.1.won a (m ∷ []) (omega arith, (unfinished, no_white, is_legal, is_legal, refl, tt)) ∙ ap (win g White (after g board Black m)) one_less) ∙ true_there

  pub wins_by : WinsBy g board (suc d) m
  wins_by =
      let one_less : d ≡ suc d - 1 = omega arith in
      record { unfinished = no_white; legal = is_legal; wins = subst (λ k. win g White (after g board Black m) k ≡ true) one_less wins_behind }

  -- ---- its code

  pub is_placed : IsPlaced shape m
  is_placed = in_range_is_placed g Black m (legal_is_in_range g Black m board is_legal)

  pub long_enough : code_length shape ≤ length first
  long_enough = omega (arith, code_length_is g Black, first_length)

  spelled : spelled_move shape (take n first) ≡ m
  spelled =
      let len : length (take n first) ≡ n = length-take-le n first (omega (arith, first_length)) in
      let values : values_at a 1 n ≡ take n first = subst (λ k. values_at (with_first (bounds Exists 1 k) (take n first) no_values) 1 k ≡ take n first) len (values_block Exists (take n first) 1 no_values) in
      sym (ap (spelled_move shape) values) ∙ move_values g Black a (span 1 n) (omega (arith, is_placed.action)) (sym (code_length_is g Black))

  pub code_is : code shape m ≡ take (code_length shape) first
  code_is =
      let len : length (take n first) ≡ code_length shape = length-take-le n first (omega (arith, first_length)) ∙ sym (code_length_is g Black) in
      ap (code shape) (sym spelled)
      ∙ code_spelled shape (take n first) len (subst (IsPlaced shape) (sym spelled) is_placed)
      ∙ ap (λ k. take k first) (sym (code_length_is g Black))

-- the values are long enough to spell a move, which is one of the board's, and Black wins by it
pub record Names (g : Game) (board : Board) (left : ℕ) (first : List Bool) (m : Move) : Type 0 where
  pub long : code_length (shape_of g Black) ≤ length first
  pub placed : IsPlaced (shape_of g Black) m
  pub code : code (shape_of g Black) m ≡ take (code_length (shape_of g Black)) first
  pub wins : WinsBy g board left m

pub values_name_a_move : (g : Game) (board : Board) (left : ℕ) (f : Formula) (first : List Bool) → 1 ≤ left → Encodes f (setup_of g board Black left) → IsValue f Exists true first → goal g board Black ≡ false
    → (m : Move) × Names g board left first m
values_name_a_move g board zero f first low encodes is unfinished = absurd (omega (arith, low))
values_name_a_move g board (suc d) f first low encodes is unfinished = (
  m g board d f encodes first is unfinished,
  record {
    long = long_enough g board d f encodes first is unfinished;
    placed = is_placed g board d f encodes first is unfinished;
    code = code_is g board d f encodes first is unfinished;
    wins = wins_by g board d f encodes first is unfinished;
  },
)
