-- The mark of the moment that a word names: one moment after the other is tried.
use Rattle.std.proofs.Common.{◌≡◌, ℕ, ◌+◌, Bool, true, false, ◌&&◌, ◌||◌, ◌==◌, nat_lt, if◌then◌else◌, inl, inr, refl, sym, ap, ◌∙◌, arith, eq-eqb, ne_eqb, lt-ltb, le-ltb}
use Rattle.std.proofs.lemmas.Bool.{cases_lt, cases_eq}
use Rattle.bddl_model.specs.declared.game.Mark.{Mark}
use Rattle.bddl_model.specs.declared.game.Mark.TheVariants.{Free, Black, White}
use Rattle.symbol_cell.specs.Pairs.{is_black, is_white, mark_shown}
use Rattle.symbol_cell.specs.declared.pair.Pair.{Pair}
use Rattle.bddl_model.specs.Truth.{Assignment}
use Rattle.bddl_model.specs.Circuit.{Circuit, holds}
use Rattle.symbol_cell.specs.Pairs.{IsPair, mark_of}
use Rattle.lifted_encode.specs.Telling.{mark_below}
use Rattle.lifted_encode.proofs.Booleans.{or_false}

-- ---- what the wires of a pair hold

pub black_shown : (c : Circuit) (p : Pair) (a : Assignment) → holds c p.black a ≡ is_black (mark_of c p a)
black_shown c p a = of (holds c p.black a) (holds c p.white a)
  where
    of : (x y : Bool) → x ≡ is_black (mark_shown x y)
    of true y = refl
    of false true = refl
    of false false = refl

pub white_shown : (c : Circuit) (p : Pair) (a : Assignment) → IsPair c p → holds c p.white a ≡ is_white (mark_of c p a)
white_shown c p a is = of (holds c p.black a) (holds c p.white a) (is.apart a)
  where
    of : (x y : Bool) → (x && y) ≡ false → y ≡ is_white (mark_shown x y)
    of true true h = absurd cc
    of true false h = refl
    of false true h = refl
    of false false h = refl

-- ---- one moment more

-- the moment was tried, and those before it; `test` is what a wire says of marks
pub moment_turn : (test : Mark → Bool) (marks : ℕ → Mark) (i time : ℕ) (known after : Bool)
    → known ≡ (nat_lt time i && test (marks time))
    → after ≡ (known || time == i && test (marks i))
    → after ≡ (nat_lt time (i + 1) && test (marks time))
moment_turn test marks i time known after e h = h ∙ ap (λ b. b || time == i && test (marks i)) e ∙ elim (cases_eq time i) [
  | inl this ↦ rw (le-ltb time i (omega arith), eq-eqb time i this, lt-ltb time (i + 1) (omega arith)) (ap (λ n. test (marks n)) (sym this))
  | inr other ↦ rw (ne_eqb time i other) (or_false (nat_lt time i && test (marks time)) ∙ ap (λ b. b && test (marks time)) (below other))
]
  where
    below : (time ≡ i → ⊥) → nat_lt time i ≡ nat_lt time (i + 1)
    below other = elim (cases_lt time i) [
      | inl lt ↦ lt-ltb time i lt ∙ sym (lt-ltb time (i + 1) (omega arith))
      | inr past ↦ le-ltb time i past ∙ sym (le-ltb time (i + 1) (omega (arith, other)))
    ]

-- ---- all moments

pub never_both : (below : Bool) (m : Mark) → ((below && is_black m) && (below && is_white m)) ≡ false
never_both false m = refl
never_both true Free = refl
never_both true Black = refl
never_both true White = refl

pub mark_found : (count time : ℕ) (marks : ℕ → Mark) (x y : Bool) → x ≡ (nat_lt time count && is_black (marks time)) → y ≡ (nat_lt time count && is_white (marks time)) → mark_shown x y ≡ mark_below count marks time
mark_found count time marks x y e f = rw (e, f) (of (nat_lt time count) (marks time))
  where
    of : (below : Bool) (m : Mark) → mark_shown (below && is_black m) (below && is_white m) ≡ (if below then m else Free)
    of false m = refl
    of true Free = refl
    of true Black = refl
    of true White = refl
