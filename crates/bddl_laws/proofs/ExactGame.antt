-- The value of the remaining plies is that of winning from there; a code of Black or a sample of White that is no legal move loses, and a code of White that is none wins unless White's goal stands.
use Rattle.std.proofs.Common.{◌≡◌, ℕ, zero, suc, ◌≤◌, ◌+◌, Bool, true, false, not, ◌&&◌, ◌||◌, List, ◌++◌, inl, inr, refl, sym, ap, ap₂, ◌∙◌, arith}
use Rattle.std.specs.List.{list_any, list_all}
use Rattle.std.proofs.lemmas.Bool.{and_parts, and_from, cases_Bool, false≢true}
use mathlib.Core.Path.{fun_ext}
use Rattle.bddl_model.specs.declared.formula.Quant.{Quant}
use Rattle.bddl_model.specs.declared.formula.Quant.TheVariants.{Exists, All}
use Rattle.bddl_model.specs.declared.formula.Bound.{Bound}
use Rattle.bddl_model.specs.declared.game.Side.{Side}
use Rattle.bddl_model.specs.declared.game.Side.TheVariants.{Black, White}
use Rattle.bddl_model.specs.declared.game.Move.{Move}
use Rattle.bddl_model.specs.Truth.{Assignment, value}
use Rattle.bddl_model.specs.Game.{Game}
use Rattle.bddl_model.specs.Board.{Board}
use Rattle.bddl_model.specs.Moves.{legal, after, moves}
use Rattle.bddl_model.specs.Goal.{goal}
use Rattle.bddl_model.specs.Win.{has_any, win}
use Rattle.bddl_model.specs.Layout.{Sizes, bounds, prefix_of, plies_blocks, plies_at}
use Rattle.bddl_model.proofs.Assignments.{SameOutside, value-append}
use Rattle.bddl_model.proofs.Blocks.{some_of_block, block_some, all_of_block, block_all, SameBelow, below_block, AllFrom, settled, all_from_block, AllFrom-append, all_from_less}
use Rattle.bddl_laws.proofs.LegalMoves.{some_move, any_move, each_move, one_move, first_move, has_move}

abbrev pub code_size : Sizes → Side → ℕ
code_size z Black = z.black_code
code_size z White = z.white_code

-- the quantifiers of so many plies
abbrev pub plies_prefix : Sizes → ℕ → Side → ℕ → List Bound
plies_prefix z n side v = prefix_of (plies_blocks (plies_at z n side v))

pub plies_from : (z : Sizes) (n : ℕ) (side : Side) (v : ℕ) → AllFrom v (plies_prefix z n side v)
plies_from z zero side v = tt
plies_from z (suc n) Black v =
    let b = z.black_code in
    AllFrom-append (bounds Exists v b) _ v (all_from_block Exists b v v (omega arith)) (all_from_less _ (v + b) v (omega arith) (plies_from z n White (v + b)))
plies_from z (suc n) White v =
    let w = z.white_code in
    AllFrom-append (bounds Exists v w) _ v (all_from_block Exists w v v (omega arith))
    (AllFrom-append (bounds All (v + w) w) _ v (all_from_block All w (v + w) v (omega arith)) (all_from_less _ (v + w + w) v (omega arith) (plies_from z n Black (v + w + w))))

-- Codes of so many bits, which can name each legal move, and what the blocks behind the plies make of an assignment, `served`.
-- `Carried` says that the variables before one give the codes of moves from the start that led to a board.
pub record Claims (g : Game) (z : Sizes) (read : Side → ℕ → Assignment → Move) (served : Assignment → Bool) (Carried : ℕ → Side → ℕ → Board → Assignment → Type 0) : Type 0 where
  pub keeps : (n : ℕ) (side : Side) (v : ℕ) (b : Board) (a other : Assignment) → Carried n side v b a → SameBelow v a other → Carried n side v b other
  pub black_step : (n v : ℕ) (b : Board) (a : Assignment) → Carried (suc n) Black v b a → goal g b Black ≡ false → goal g b White ≡ false
      → legal g b Black (read Black v a) ≡ true → Carried n White (v + z.black_code) (after g b Black (read Black v a)) a
  pub white_step : (n v : ℕ) (b : Board) (a : Assignment) → Carried (suc n) White v b a → goal g b Black ≡ false → goal g b White ≡ false
      → legal g b White (read White v a) ≡ true → legal g b White (read White (v + z.white_code) a) ≡ true
      → Carried n Black (v + z.white_code + z.white_code) (after g b White (read White (v + z.white_code) a)) a
  -- each legal move has a code, and whether a code names one is told by its own bits
  pub writes : (q : Quant) (side : Side) (v : ℕ) (b : Board) (a : Assignment) (m : Move) → legal g b side m ≡ true
      → (other : Assignment) × SameOutside (bounds q v (code_size z side)) a other × (read side v other ≡ m)
  pub reads : (side : Side) (v : ℕ) (b : Board) (a other : Assignment) → SameBelow (v + code_size z side) a other → legal g b side (read side v a) ≡ legal g b side (read side v other)
  -- which claims serve
  pub black_stands : (n : ℕ) (side : Side) (v : ℕ) (b : Board) (a : Assignment) → Carried n side v b a → goal g b Black ≡ true → served a ≡ true
  pub white_stands : (n : ℕ) (side : Side) (v : ℕ) (b : Board) (a : Assignment) → Carried n side v b a → goal g b Black ≡ false → goal g b White ≡ true → served a ≡ false
  pub spent : (side : Side) (v : ℕ) (b : Board) (a : Assignment) → Carried zero side v b a → goal g b Black ≡ false → served a ≡ false
  pub own_illegal : (n : ℕ) (side : Side) (v : ℕ) (b : Board) (a : Assignment) → Carried (suc n) side v b a → goal g b Black ≡ false → legal g b side (read side v a) ≡ false → served a ≡ false
  pub code_illegal : (n v : ℕ) (b : Board) (a : Assignment) → Carried (suc n) White v b a → goal g b White ≡ false
      → legal g b White (read White v a) ≡ true → legal g b White (read White (v + z.white_code) a) ≡ false → served a ≡ true

same_truth : (x y : Bool) → (x ≡ true → y ≡ true) → (y ≡ true → x ≡ true) → x ≡ y
same_truth true y f g = sym (f refl)
same_truth false true f g = g refl
same_truth false false f g = refl

below_less : (v w : ℕ) (a b : Assignment) → v ≤ w → SameBelow w a b → SameBelow v a b
below_less v w a b le h x lt = h x (omega arith)

below_both : (v w : ℕ) (a b c : Assignment) → v ≤ w → SameBelow v a b → SameBelow w b c → SameBelow v a c
below_both v w a b c le f h x lt = f x lt ∙ h x (omega arith)

module _ (g : Game) (z : Sizes) (read : Side → ℕ → Assignment → Move) (served : Assignment → Bool) (Carried : ℕ → Side → ℕ → Board → Assignment → Type 0) (claims : Claims g z read served Carried) where
  -- the value of the remaining plies
  abbrev pub rest : ℕ → Side → ℕ → Assignment → Bool
  rest n side v a = value (plies_prefix z n side v) served a

  -- once the moves so far settle it
  always : (n : ℕ) (side : Side) (v w : ℕ) (t : Bool) (a : Assignment) → w ≤ v → ((b : Assignment) → SameBelow w a b → served b ≡ t) → rest n side v a ≡ t
  always n side v w t a le h = settled (plies_prefix z n side v) w served t a (all_from_less (plies_prefix z n side v) v w le (plies_from z n side v)) h

  -- ---- illegal codes

  -- of Black, or of a sample of White
  own_loses : (n : ℕ) (side : Side) (v : ℕ) (b : Board) (a other : Assignment) → Carried (suc n) side v b a → goal g b Black ≡ false → legal g b side (read side v a) ≡ false
      → SameBelow (v + code_size z side) a other → served other ≡ false
  own_loses n side v b a other h gb illegal s =
      claims.own_illegal n side v b other (claims.keeps (suc n) side v b a other h (below_less v (v + code_size z side) a other (omega arith) s)) gb (sym (claims.reads side v b a other s) ∙ illegal)

  pub black_illegal : (n v : ℕ) (b : Board) (a : Assignment) → Carried (suc n) Black v b a → goal g b Black ≡ false → legal g b Black (read Black v a) ≡ false
      → rest n White (v + z.black_code) a ≡ false
  black_illegal n v b a h gb illegal = always n White (v + z.black_code) (v + z.black_code) false a (omega arith) (λ x s. own_loses n Black v b a x h gb illegal s)

  -- White's code and the plies behind it
  abbrev pub replies : ℕ → ℕ → Assignment → Bool
  replies n v a = value (bounds All (v + z.white_code) z.white_code) (rest n Black (v + z.white_code + z.white_code)) a

  pub sample_illegal : (n v : ℕ) (b : Board) (a : Assignment) → Carried (suc n) White v b a → goal g b Black ≡ false → legal g b White (read White v a) ≡ false
      → replies n v a ≡ false
  sample_illegal n v b a h gb illegal =
      let w = z.white_code in
      settled (bounds All (v + w) w) (v + w) (rest n Black (v + w + w)) false a (all_from_block All w (v + w) (v + w) (omega arith)) (λ x s.
      always n Black (v + w + w) (v + w) false x (omega arith) (λ y t.
      own_loses n White v b a y h gb illegal (below_both (v + w) (v + w) a x y (omega arith) s t)))

  white_wins : (n v : ℕ) (b : Board) (a other : Assignment) → Carried (suc n) White v b a → goal g b White ≡ false
      → legal g b White (read White v a) ≡ true → legal g b White (read White (v + z.white_code) a) ≡ false → SameBelow (v + z.white_code + z.white_code) a other → served other ≡ true
  white_wins n v b a other h gw sample illegal s =
      let w = z.white_code in
      claims.code_illegal n v b other (claims.keeps (suc n) White v b a other h (below_less v (v + w + w) a other (omega arith) s)) gw
      (sym (claims.reads White v b a other (below_less (v + w) (v + w + w) a other (omega arith) s)) ∙ sample)
      (sym (claims.reads White (v + w) b a other s) ∙ illegal)

  -- ---- goals that stand

  black_there : (n : ℕ) (side : Side) (v : ℕ) (b : Board) (a : Assignment) → Carried n side v b a → goal g b Black ≡ true → rest n side v a ≡ true
  black_there n side v b a h e = always n side v v true a (omega arith) (λ x s. claims.black_stands n side v b x (claims.keeps n side v b a x h s) e)

  white_there : (n : ℕ) (side : Side) (v : ℕ) (b : Board) (a : Assignment) → Carried n side v b a → goal g b Black ≡ false → goal g b White ≡ true → rest n side v a ≡ false
  white_there n side v b a h e f = always n side v v false a (omega arith) (λ x s. claims.white_stands n side v b x (claims.keeps n side v b a x h s) e f)

  pub white_illegal : (n v : ℕ) (b : Board) (a : Assignment) → Carried (suc n) White v b a → goal g b Black ≡ false
      → legal g b White (read White v a) ≡ true → legal g b White (read White (v + z.white_code) a) ≡ false → rest n Black (v + z.white_code + z.white_code) a ≡ not (goal g b White)
  white_illegal n v b a h gb sample illegal = elim (cases_Bool (goal g b White)) [
    | inl stands ↦ always n Black behind v false a (omega arith) (λ x s. claims.white_stands (suc n) White v b x (claims.keeps (suc n) White v b a x h s) gb stands) ∙ sym (ap not stands)
    | inr not_yet ↦ always n Black behind behind true a (omega arith) (λ x s. white_wins n v b a x h not_yet sample illegal s) ∙ sym (ap not not_yet)
  ]
    where
      behind : ℕ
      behind = v + z.white_code + z.white_code

  -- ---- a ply

  -- the remaining plies are worth what winning is, where the moves led
  abbrev Next : ℕ → Side → ℕ → Board → Type 0
  Next n side v b = (a : Assignment) → Carried n side v b a → rest n side v a ≡ win g side b n

  black_turn : (n v : ℕ) (b : Board) (a : Assignment) → Carried (suc n) Black v b a → goal g b Black ≡ false → goal g b White ≡ false
      → ((m : Move) → Next n White (v + z.black_code) (after g b Black m))
      → rest (suc n) Black v a ≡ list_any (λ m. win g White (after g b Black m) n) (moves g b Black)
  black_turn n v b a h gb gw next = value-append (bounds Exists v w) (plies_prefix z n White (v + w)) served a ∙ same_truth _ _ forth back
    where
      w : ℕ
      w = z.black_code

      wins : Move → Bool
      wins m = win g White (after g b Black m) n

      carried : (x : Assignment) → SameBelow v a x → Carried (suc n) Black v b x
      carried x s = claims.keeps (suc n) Black v b a x h s

      found : (x : Assignment) → SameBelow v a x → legal g b Black (read Black v x) ≡ true → rest n White (v + w) x ≡ wins (read Black v x)
      found x s l = next (read Black v x) x (claims.black_step n v b x (carried x s) gb gw l)

      forth : value (bounds Exists v w) (rest n White (v + w)) a ≡ true → list_any (λ m. win g White (after g b Black m) n) (moves g b Black) ≡ true
      forth e =
          let x = some_of_block w v (rest n White (v + w)) a e in
          let s = below_block Exists w v a x.0 x.1 in
          elim (cases_Bool (legal g b Black (read Black v x.0))) [
            | inl l ↦ any_move g b Black wins (read Black v x.0) l (sym (found x.0 s l) ∙ x.2)
            | inr illegal ↦ absurd (false≢true (sym (black_illegal n v b x.0 (carried x.0 s) gb illegal) ∙ x.2))
          ]

      back : list_any (λ m. win g White (after g b Black m) n) (moves g b Black) ≡ true → value (bounds Exists v w) (rest n White (v + w)) a ≡ true
      back e =
          let m = some_move g b Black wins e in
          let x = claims.writes Exists Black v b a m.0 m.1 in
          let l : legal g b Black (read Black v x.0) ≡ true = ap (legal g b Black) x.2 ∙ m.1 in
          block_some w v (rest n White (v + w)) a x.0 x.1 (found x.0 (below_block Exists w v a x.0 x.1) l ∙ ap wins x.2 ∙ m.2)

  white_turn : (n v : ℕ) (b : Board) (a : Assignment) → Carried (suc n) White v b a → goal g b Black ≡ false → goal g b White ≡ false
      → ((m : Move) → Next n Black (v + z.white_code + z.white_code) (after g b White m))
      → rest (suc n) White v a ≡ (has_any (moves g b White) && list_all (λ m. win g Black (after g b White m) n) (moves g b White))
  white_turn n v b a h gb gw next =
      value-append (bounds Exists v w) (bounds All (v + w) w ++ plies_prefix z n Black (v + w + w)) served a
      ∙ ap (λ m. value (bounds Exists v w) m a) (fun_ext (λ x. value-append (bounds All (v + w) w) (plies_prefix z n Black (v + w + w)) served x))
      ∙ same_truth _ _ forth back
    where
      w : ℕ
      w = z.white_code

      wins : Move → Bool
      wins m = win g Black (after g b White m) n

      carried : (x : Assignment) → SameBelow v a x → Carried (suc n) White v b x
      carried x s = claims.keeps (suc n) White v b a x h s

      -- the code's bits leave the sample as it was
      sample_kept : (x y : Assignment) → SameOutside (bounds All (v + w) w) x y → legal g b White (read White v x) ≡ true → legal g b White (read White v y) ≡ true
      sample_kept x y s l = sym (claims.reads White v b x y (below_block All w (v + w) x y s)) ∙ l

      below_code : (x y : Assignment) → SameBelow v a x → SameOutside (bounds All (v + w) w) x y → SameBelow v a y
      below_code x y s t = below_both v (v + w) a x y (omega arith) s (below_block All w (v + w) x y t)

      found : (y : Assignment) → SameBelow v a y → legal g b White (read White v y) ≡ true → legal g b White (read White (v + w) y) ≡ true → rest n Black (v + w + w) y ≡ wins (read White (v + w) y)
      found y s sample l = next (read White (v + w) y) y (claims.white_step n v b y (carried y s) gb gw sample l)

      Both : Type 0
      Both = (has_any (moves g b White) && list_all (λ m. win g Black (after g b White m) n) (moves g b White)) ≡ true

      forth : value (bounds Exists v w) (replies n v) a ≡ true → Both
      forth e =
          let x = some_of_block w v (replies n v) a e in
          let s = below_block Exists w v a x.0 x.1 in
          elim (cases_Bool (legal g b White (read White v x.0))) [
            | inl sample ↦ and_from _ _ (has_move g b White (read White v x.0) sample) (each_move g b White wins (λ m l.
                let y = claims.writes All White (v + w) b x.0 m l in
                let code : legal g b White (read White (v + w) y.0) ≡ true = ap (legal g b White) y.2 ∙ l in
                sym (ap wins y.2) ∙ sym (found y.0 (below_code x.0 y.0 s y.1) (sample_kept x.0 y.0 y.1 sample) code) ∙ all_of_block w (v + w) (rest n Black (v + w + w)) x.0 y.0 y.1 x.2))
            | inr illegal ↦ absurd (false≢true (sym (sample_illegal n v b x.0 (carried x.0 s) gb illegal) ∙ x.2))
          ]

      back : Both → value (bounds Exists v w) (replies n v) a ≡ true
      back e =
          let p = and_parts (has_any (moves g b White)) _ e in
          let m = first_move g b White p.0 in
          let x = claims.writes Exists White v b a m.0 m.1 in
          let s = below_block Exists w v a x.0 x.1 in
          let sample : legal g b White (read White v x.0) ≡ true = ap (legal g b White) x.2 ∙ m.1 in
          block_some w v (replies n v) a x.0 x.1 (block_all w (v + w) (rest n Black (v + w + w)) x.0 (λ y t.
          let kept = sample_kept x.0 y t sample in
          let below = below_code x.0 y s t in
          elim (cases_Bool (legal g b White (read White (v + w) y))) [
            | inl l ↦ found y below kept l ∙ one_move g b White wins (read White (v + w) y) p.1 l
            | inr illegal ↦ white_illegal n v b y (carried y below) gb kept illegal ∙ ap not gw
          ]))

  -- ---- the game

  goals_first : (n : ℕ) (side : Side) (v : ℕ) (b : Board) (a : Assignment) (turn : Bool) → Carried n side v b a → (goal g b Black ≡ false → goal g b White ≡ false → rest n side v a ≡ turn)
      → rest n side v a ≡ (goal g b Black || (not (goal g b White) && turn))
  goals_first n side v b a turn h next = elim (cases_Bool (goal g b Black)) [
    | inl stands ↦ black_there n side v b a h stands ∙ sym (ap (λ t. t || (not (goal g b White) && turn)) stands)
    | inr not_yet ↦ elim (cases_Bool (goal g b White)) [
      | inl reached ↦ white_there n side v b a h not_yet reached ∙ sym (ap₂ (λ t u. t || (not u && turn)) not_yet reached)
      | inr neither ↦ next not_yet neither ∙ sym (ap₂ (λ t u. t || (not u && turn)) not_yet neither)
    ]
  ]

  pub exact : (n : ℕ) (side : Side) (v : ℕ) (b : Board) (a : Assignment) → Carried n side v b a → rest n side v a ≡ win g side b n
  exact zero side v b a h = elim (cases_Bool (goal g b Black)) [
    | inl stands ↦ black_there zero side v b a h stands ∙ sym stands
    | inr not_yet ↦ claims.spent side v b a h not_yet ∙ sym not_yet
  ]
  exact (suc n) Black v b a h = goals_first (suc n) Black v b a _ h (λ gb gw. black_turn n v b a h gb gw (λ m x c. exact n White (v + z.black_code) (after g b Black m) x c))
  exact (suc n) White v b a h = goals_first (suc n) White v b a _ h (λ gb gw. white_turn n v b a h gb gw (λ m x c. exact n Black (v + z.white_code + z.white_code) (after g b White m) x c))
