-- Each legal move has a code, and a code is read from its own bits.
use Rattle.std.proofs.Common.{◌≡◌, ℕ, ◌≤◌, ◌<◌, ◌+◌, ◌-◌, ◌^◌, true, false, List, [], ◌∷◌, length, ◌⊎◌, inl, inr, refl, sym, ap, ap₂, ◌∙◌, subst, arith}
use Rattle.std.proofs.lemmas.Bool.{and_parts, leb-true, false≢true}
use Rattle.bddl_model.specs.declared.formula.Quant.{Quant}
use Rattle.bddl_model.specs.declared.game.Side.{Side}
use Rattle.bddl_model.specs.declared.game.Atom.{Atom}
use Rattle.bddl_model.specs.declared.game.Move.{Move}
use Rattle.bddl_model.specs.Truth.{Assignment}
use Rattle.bddl_model.specs.Bits.{bits, number_at}
use Rattle.bddl_model.specs.Game.{Game, Action, actions}
use Rattle.bddl_model.specs.Board.{Board}
use Rattle.bddl_model.specs.Fitting.{on_side, fits, on_board}
use Rattle.std.specs.List.{list_all}
use Rattle.bddl_model.specs.Moves.{legal}
use Rattle.bddl_model.specs.Layout.{bounds, span, code_bits, anchor_bits}
use Rattle.bddl_model.specs.Exact.{coded_move}
use Rattle.bddl_model.proofs.Assignments.{SameOutside, same_at_all}
use Rattle.bddl_model.proofs.Blocks.{SameBelow, outside_wider}
use Rattle.bddl_model.proofs.Bits.{bits_enough}
use Rattle.bddl_model.proofs.Codes.{legal_is_in_range, in_range_is_placed}
use Rattle.bddl_model.proofs.Numbers.{number_same, number_kept, writes_number}

-- ---- numbers written one after the other

-- bits and a number, for each part
abbrev pub total : List (ℕ × ℕ) → ℕ
total [] = 0
total (p ∷ ps) = p.0 + total ps

abbrev pub AllFit : List (ℕ × ℕ) → Type 0
AllFit [] = Unit {0}
AllFit (p ∷ ps) = (p.1 < 2 ^ p.0) × AllFit ps

abbrev pub AreWritten : Assignment → ℕ → List (ℕ × ℕ) → Type 0
AreWritten a v [] = Unit {0}
AreWritten a v (p ∷ ps) = (number_at a v p.0 ≡ p.1) × AreWritten a (v + p.0) ps

writes_parts : (q : Quant) (ps : List (ℕ × ℕ)) (v : ℕ) (a : Assignment) → AllFit ps → (b : Assignment) × SameOutside (bounds q v (total ps)) a b × AreWritten b v ps
writes_parts q [] v a f = (a, same_at_all a [], tt)
writes_parts q (p ∷ ps) v a f =
    let x = writes_number q p.0 v p.1 a f.0 in
    let y = writes_parts q ps (v + p.0) x.0 f.1 in (
      y.0,
      (λ w o. outside_wider q q (p.0 + total ps) v p.0 v a x.0 (omega arith) (omega arith) x.1 w o ∙ outside_wider q q (p.0 + total ps) v (total ps) (v + p.0) x.0 y.0 (omega arith) (omega arith) y.1 w o),
      (sym (number_kept q (total ps) (v + p.0) p.0 v x.0 y.0 (inl (omega arith)) y.1) ∙ x.2, y.2),
    )

pub writes_numbers : (q : Quant) (n v : ℕ) (ps : List (ℕ × ℕ)) (a : Assignment) → total ps ≡ n → AllFit ps → (b : Assignment) × SameOutside (bounds q v n) a b × AreWritten b v ps
writes_numbers q n v ps a e f =
    let x = writes_parts q ps v a f in
    (x.0, subst (λ k. SameOutside (bounds q v k) a x.0) e x.1, x.2)

pub number_same_below : (n v u : ℕ) (a b : Assignment) → v + n ≤ u → SameBelow u a b → number_at a v n ≡ number_at b v n
number_same_below n v u a b le s = number_same n v a b (λ w lo hi. s w (omega arith))

-- ---- what is on the board

pub on_side_is : (side n : ℕ) → on_side side n ≡ true → (1 ≤ n) × (n ≤ side)
on_side_is side n h = let p = and_parts _ _ h in (leb-true 1 n p.0, leb-true n side p.1)

-- a number of the side, counted from 0, has so many bits
pub side_fits : (side n : ℕ) → on_side side n ≡ true → n - 1 < 2 ^ bits side
side_fits side n h = omega (arith, on_side_is side n h, bits_enough side)

pub fits_parts : (width height : ℕ) (atoms : List Atom) (x y : ℕ) → fits width height atoms x y ≡ true
    → (on_side width x ≡ true) × (on_side height y ≡ true) × (list_all (on_board width height x y) atoms ≡ true)
fits_parts width height atoms x y h =
    let p = and_parts (on_side width x) _ h in
    let q = and_parts (on_side height y) _ p.1 in
    (p.0, q.0, q.1)

-- ---- codes

named : (m : Move) (action x y : ℕ) → action ≡ m.action → x + 1 ≡ m.x → y + 1 ≡ m.y → record { action = action; x = x + 1; y = y + 1 } ≡ m
named m action x y e f h = ap₂ (λ i j. record { action = i; x = j; y = y + 1 }) e f ∙ ap (λ j. record { action = m.action; x = m.x; y = j }) h

code_bits_of : (g : Game) (acts : List Action) → 1 ≤ length acts → code_bits g acts ≡ bits (length acts) + anchor_bits g
code_bits_of g [] h = absurd (omega arith)
code_bits_of g (a ∷ more) h = refl

pub writes_code : (g : Game) (q : Quant) (side : Side) (v n : ℕ) (board : Board) (a : Assignment) (m : Move) → legal g board side m ≡ true
    → (b : Assignment) × SameOutside (bounds q v (code_bits g (actions g side))) a b × (coded_move g side b (span v n) ≡ m)
writes_code g q side v n board a m l =
    let p = in_range_is_placed g side m (legal_is_in_range g side m board l) in
    let count = bits_enough (length (actions g side)) in
    let size = code_bits_of g (actions g side) (omega (arith, p.action)) in
    let parts : List (ℕ × ℕ) = (bits (length (actions g side)), m.action) ∷ (bits g.width, m.x - 1) ∷ (bits g.height, m.y - 1) ∷ [] in
    let b = writes_numbers q (code_bits g (actions g side)) v parts a (omega (arith, size)) (omega (arith, p.action, count), (omega (arith, p.column, bits_enough g.width), (omega (arith, p.row, bits_enough g.height), tt))) in
    (b.0, b.1, named m _ _ _ b.2.0 (omega (arith, b.2.1.0, p.column)) (omega (arith, b.2.1.1.0, p.row)))

-- the same move, unless the side has no action
pub code_same : (g : Game) (side : Side) (v n : ℕ) (a b : Assignment) → SameBelow (v + code_bits g (actions g side)) a b
    → (actions g side ≡ []) ⊎ (coded_move g side a (span v n) ≡ coded_move g side b (span v n))
code_same g side v n a b s = at (actions g side) refl
  where
    at : (acts : List Action) → actions g side ≡ acts → (acts ≡ []) ⊎ (coded_move g side a (span v n) ≡ coded_move g side b (span v n))
    at [] e = inl refl
    at (act ∷ more) e =
        let size = code_bits_of g (actions g side) (rw e (omega arith)) in
        let i = bits (length (actions g side)) in
        inr (ap₂ (λ j k. record { action = j; x = k + 1; y = number_at a (v + i + bits g.width) (bits g.height) + 1 })
        (number_same_below i v (v + code_bits g (actions g side)) a b (omega (arith, size)) s)
        (number_same_below (bits g.width) (v + i) (v + code_bits g (actions g side)) a b (omega (arith, size)) s)
        ∙ ap (λ k. record { action = number_at b v i; x = number_at b (v + i) (bits g.width) + 1; y = k + 1 })
        (number_same_below (bits g.height) (v + i + bits g.width) (v + code_bits g (actions g side)) a b (omega (arith, size)) s))

no_action : (g : Game) (board : Board) (side : Side) (m : Move) → actions g side ≡ [] → legal g board side m ≡ false
no_action g board side m empty = rw empty

pub legal_same : (g : Game) (board : Board) (side : Side) (v n : ℕ) (a b : Assignment) → SameBelow (v + code_bits g (actions g side)) a b
    → legal g board side (coded_move g side a (span v n)) ≡ legal g board side (coded_move g side b (span v n))
legal_same g board side v n a b s = elim (code_same g side v n a b s) [
  | inl empty ↦ no_action g board side _ empty ∙ sym (no_action g board side _ empty)
  | inr same ↦ ap (legal g board side) same
]

-- a code of a legal move stays
pub move_same : (g : Game) (board : Board) (side : Side) (v n : ℕ) (a b : Assignment) (m : Move) → SameBelow (v + code_bits g (actions g side)) a b
    → legal g board side m ≡ true → coded_move g side a (span v n) ≡ m → coded_move g side b (span v n) ≡ m
move_same g board side v n a b m s l e = elim (code_same g side v n a b s) [
  | inl empty ↦ absurd (false≢true (sym (no_action g board side m empty) ∙ l))
  | inr same ↦ sym same ∙ e
]
