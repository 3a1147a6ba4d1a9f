-- One more entry of a table.
use Rattle.std.proofs.Common.{◌≡◌, ◌≢◌, ℕ, zero, suc, ◌<◌, length, ◌⊎◌, inl, inr, refl, sym, ap, subst, ◌∙◌, arith}
use Rattle.std.specs.Prelude.{Bool, true, false, if◌then◌else◌, slice_set}
use Rattle.std.proofs.lemmas.Bool.{cases_eq}
use Rattle.std.proofs.lemmas.List.{get_or-set_same, get_or-set_other}
use Rattle.bddl_model.specs.declared.game.Move.{Move}
use Rattle.bddl_model.specs.declared.certificate.Answered.{Answered}
use Rattle.bddl_model.specs.Setup.{Setup}
use Rattle.bddl_model.specs.Certificate.{Place, start, behind, same_place}
use Rattle.cert_checker.specs.declared.known.Known.{Known}
use Rattle.cert_checker.specs.declared.known.Known.TheVariants.{Unnamed, First, Two}
use Rattle.cert_checker.specs.Places.{Table, known_at, place_back_in, place_in, IsTable, IsNamedBelow, MayMove, place_at}
use Rattle.bddl_model.specs.Board.{SizedBoard}
use Rattle.cert_checker.specs.declared.turn.Turn.{Turn}
use Rattle.cert_checker.specs.Checking.{after_naming, IsAnswer}
use Rattle.cert_checker.proofs.Standing.{IsBackward, is_backward}

-- the entry of a later node changes no place
place_kept : (s : Setup) (t : Table) (k : ℕ) (e : Known) → IsBackward t → (steps m : ℕ) → m < k → place_back_in steps s (slice_set t k e) m ≡ place_back_in steps s t m
unfolding place_back_in
place_kept s t k e back zero m lt = refl
place_kept s t k e back (suc steps) m lt =
    let ne : m ≢ k = omega arith in
    at_same (known_at (slice_set t k e) m) (known_at t m) (get_or-set_other t k m e Unnamed ne) refl (λ from below. place_kept s t k e back steps from below)
  where
    at_same : (x y : Known) → x ≡ y → known_at t m ≡ y → ((from : ℕ) → from < k → place_back_in steps s (slice_set t k e) from ≡ place_back_in steps s t from)
        → elim x as (λ _. Place) [ Unnamed ↦ start s | First from mv ↦ behind s.game (place_back_in steps s (slice_set t k e) from) mv | Two ↦ start s ] ≡ elim y [ Unnamed ↦ start s | First from mv ↦ behind s.game (place_back_in steps s t from) mv | Two ↦ start s ]
    at_same x Unnamed p q f = rw p refl
    at_same x (First from mv) p q f = (let below = back m from mv q in rw p (ap (λ r. behind s.game r mv) (f from (omega (arith, below, lt)))))
    at_same x Two p q f = rw p refl

pub place_in_kept : (s : Setup) (t : Table) (k m : ℕ) (e : Known) → IsTable s t → m < k → place_in s (slice_set t k e) m ≡ place_in s t m
place_in_kept s t k m e table lt = place_kept s t k e (is_backward s t table) m m lt

-- a first naming of a new entry is this one, or was known
abbrev IsNew : Table → ℕ → ℕ → Move → Known → Type 0
IsNew t n k mv e = (from : ℕ) (m : Move) → e ≡ First from m → ((from ≡ n) × (m ≡ mv)) ⊎ (known_at t k ≡ First from m)

with_entry : (s : Setup) (t : Table) (n k : ℕ) (mv : Move) (e : Known) → IsTable s t → IsNamedBelow (suc n) t → n < k → k < length t → MayMove s.game (place_in s t n) mv → IsNew t n k mv e → IsTable s (slice_set t k e)
with_entry s t n k mv e table named later inside may new m from m_mv h = by (cases_eq m k)
  where
    old : known_at t m ≡ First from m_mv → (from < m) × MayMove s.game (place_in s (slice_set t k e) from) m_mv
    old f =
        let known = table m from m_mv f in
        let low = named m from m_mv f in
        let kept = place_in_kept s t k from e table (omega arith) in
        (known.0, subst (λ p. MayMove s.game p m_mv) (sym kept) known.1)

    here : m ≡ k → ((from ≡ n) × (m_mv ≡ mv)) ⊎ (known_at t k ≡ First from m_mv) → (from < m) × MayMove s.game (place_in s (slice_set t k e) from) m_mv
    here same (inl this) =
        let kept = place_in_kept s t k from e table (omega arith) in
        (omega arith, subst (λ p. MayMove s.game p m_mv) (sym (kept ∙ ap (place_in s t) this.0)) (subst (MayMove s.game (place_in s t n)) (sym this.1) may))
    here same (inr f) = old (ap (known_at t) same ∙ f)

    by : (m ≡ k) ⊎ (m ≢ k) → (from < m) × MayMove s.game (place_in s (slice_set t k e) from) m_mv
    by (inl same) = here same (new from m_mv (sym (get_or-set_same t k e Unnamed inside) ∙ ap (known_at (slice_set t k e)) (sym same) ∙ h))
    by (inr other) = old (sym (get_or-set_other t k m e Unnamed other) ∙ h)

naming_is_new : (s : Setup) (t : Table) (n : ℕ) (there : Place) (a : Answered) (k : Known) → known_at t a.next.0 ≡ k → IsNew t n a.next.0 a.mv (after_naming s t n there a k)
naming_is_new s t n there a Unnamed e from mv h = inl (cc, cc)
naming_is_new s t n there a (First f m) e from mv h = kept (same_place there (place_in s t a.next.0)) h
  where
    kept : (b : Bool) → (if b then First f m else Two) ≡ First from mv → ((from ≡ n) × (mv ≡ a.mv)) ⊎ (known_at t a.next.0 ≡ First from mv)
    kept true h = inr (e ∙ h)
    kept false h = absurd cc
naming_is_new s t n there a Two e from mv h = absurd cc

pub table_with_answer : (s : Setup) (t : Table) (n : ℕ) (p there : Place) (a : Answered) (e : Known) → IsTable s t → IsNamedBelow (suc n) t → n < a.next.0 → a.next.0 < length t → p ≡ place_in s t n → MayMove s.game p a.mv
    → e ≡ after_naming s t n there a (known_at t a.next.0) → IsTable s (slice_set t a.next.0 e)
table_with_answer s t n p there a e table named later inside here may is =
    with_entry s t n a.next.0 a.mv e table named later inside (subst (λ q. MayMove s.game q a.mv) here may) (subst (IsNew t n a.next.0 a.mv) (sym is) (naming_is_new s t n there a (known_at t a.next.0) refl))

pub answer_kept : (s : Setup) (n count size : ℕ) (turn : Turn) (one two : SizedBoard) (a : Answered) → count ≡ size → one ≡ two → IsAnswer s size n (place_at turn two.marks) a → IsAnswer s count n (place_at turn one.marks) a
answer_kept s n count size turn one two a e f h = rw (e, f) h
