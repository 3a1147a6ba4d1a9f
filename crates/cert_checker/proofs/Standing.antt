-- Where nodes stand by a table.
use Rattle.std.proofs.Common.{◌≡◌, ℕ, zero, suc, ◌+◌, ◌-◌, ◌<◌, ◌≤◌, List, [], ◌∷◌, length, drop, refl, sym, ap, subst, ◌∙◌, arith}
use Rattle.std.specs.Prelude.{slice_set}
use Rattle.std.proofs.lemmas.List.{drop-set, drop_all, length-set}
use Rattle.bddl_model.specs.declared.game.Move.{Move}
use Rattle.bddl_model.specs.Setup.{Setup}
use Rattle.bddl_model.specs.Certificate.{Place, start, behind}
use Rattle.cert_checker.specs.declared.known.Known.{Known}
use Rattle.cert_checker.specs.declared.known.Known.TheVariants.{Unnamed, First, Two}
use Rattle.cert_checker.specs.Places.{Table, known_at, place_back_in, place_in, IsTable, played, MayPlay}

-- each first naming is of a later node
abbrev pub IsBackward : Table → Type 0
IsBackward t = (m from : ℕ) (mv : Move) → known_at t m ≡ First from mv → from < m

pub is_backward : (s : Setup) (t : Table) → IsTable s t → IsBackward t
is_backward s t h m from mv e = (h m from mv e).0

-- more steps than a node's number change nothing
enough : (s : Setup) (t : Table) → IsBackward t → (a b m : ℕ) → m ≤ a → m ≤ b → place_back_in a s t m ≡ place_back_in b s t m
unfolding place_back_in
enough s t back zero zero m le le2 = refl
enough s t back zero (suc b) m le le2 = at_start (known_at t m) refl
  where
    at_start : (k : Known) → known_at t m ≡ k → start s ≡ elim k [ Unnamed ↦ start s | First from mv ↦ behind s.game (place_back_in b s t from) mv | Two ↦ start s ]
    at_start Unnamed e = refl
    at_start (First from mv) e = (let lt = back m from mv e in absurd (omega arith))
    at_start Two e = refl
enough s t back (suc a) zero m le le2 = at_start (known_at t m) refl
  where
    at_start : (k : Known) → known_at t m ≡ k → elim k [ Unnamed ↦ start s | First from mv ↦ behind s.game (place_back_in a s t from) mv | Two ↦ start s ] ≡ start s
    at_start Unnamed e = refl
    at_start (First from mv) e = (let lt = back m from mv e in absurd (omega arith))
    at_start Two e = refl
enough s t back (suc a) (suc b) m le le2 = at_both (known_at t m) refl (λ from lt. enough s t back a b from (omega arith) (omega arith))
  where
    at_both : (k : Known) → known_at t m ≡ k → ((from : ℕ) → from < m → place_back_in a s t from ≡ place_back_in b s t from)
        → elim k as (λ _. Place) [ Unnamed ↦ start s | First from mv ↦ behind s.game (place_back_in a s t from) mv | Two ↦ start s ] ≡ elim k [ Unnamed ↦ start s | First from mv ↦ behind s.game (place_back_in b s t from) mv | Two ↦ start s ]
    at_both Unnamed e f = refl
    at_both (First from mv) e f = ap (λ p. behind s.game p mv) (f from (back m from mv e))
    at_both Two e f = refl

one_more : (s : Setup) (t : Table) (k m from : ℕ) (mv : Move) → known_at t m ≡ First from mv → place_back_in (suc k) s t m ≡ behind s.game (place_back_in k s t from) mv
unfolding place_back_in
one_more s t k m from mv e = rw (place_back_in, e) refl

-- the place of a node that was named
pub step_first : (s : Setup) (t : Table) (m from : ℕ) (mv : Move) → IsBackward t → known_at t m ≡ First from mv → place_in s t m ≡ behind s.game (place_in s t from) mv
step_first s t zero from mv back e = (let lt = back zero from mv e in absurd (omega arith))
step_first s t (suc k) from mv back e =
    let lt = back (suc k) from mv e in
    one_more s t k (suc k) from mv e ∙ ap (λ p. behind s.game p mv) (enough s t back k from from (omega arith) (omega arith))

-- the place of any other node
pub step_start : (s : Setup) (t : Table) (m : ℕ) → ((from : ℕ) (mv : Move) → known_at t m ≡ First from mv → ⊥) → place_in s t m ≡ start s
unfolding place_back_in
step_start s t zero never = refl
step_start s t (suc m) never = at_start (known_at t (suc m)) refl
  where
    at_start : (k : Known) → known_at t (suc m) ≡ k → elim k [ Unnamed ↦ start s | First from mv ↦ behind s.game (place_back_in m s t from) mv | Two ↦ start s ] ≡ start s
    at_start Unnamed e = refl
    at_start (First from mv) e = absurd (never from mv e)
    at_start Two e = refl

pub left_within : (s : Setup) (t : Table) (k m : ℕ) → (place_back_in k s t m).left ≤ s.depth
unfolding place_back_in
left_within s t zero m = omega arith
left_within s t (suc k) m = at_any (known_at t m) (left_within s t k)
  where
    at_any : (e : Known) → ((from : ℕ) → (place_back_in k s t from).left ≤ s.depth) → (elim e as (λ _. Place) [ Unnamed ↦ start s | First from mv ↦ behind s.game (place_back_in k s t from) mv | Two ↦ start s ]).left ≤ s.depth
    at_any Unnamed h = omega arith
    at_any (First from mv) h = (let h = h from in omega arith)
    at_any Two h = omega arith

-- ---- the moves to a node, written from the last one back

-- the moves from the place of node `at` on, which begin so far into the list of 31, lead to the place q
pub record LeadOn (s : Setup) (t : Table) (at : ℕ) (q : Place) (begin : ℕ) (moves : List Move) : Type 0 where
  pub len : length moves ≡ 31
  pub within : begin ≤ 31
  pub room : 31 ≤ begin + (place_in s t at).left
  pub may : MayPlay s.game (place_in s t at) (drop begin moves)
  pub place : played s.game (place_in s t at) (drop begin moves) ≡ q

pub none_yet : (s : Setup) (t : Table) (at : ℕ) (begin : ℕ) (moves : List Move) → length moves ≡ 31 → begin ≡ 31 → LeadOn s t at (place_in s t at) begin moves
none_yet s t at begin moves len e =
    let none : drop begin moves ≡ [] = drop_all begin moves (omega arith) in
    record {
      len = len;
      within = omega arith;
      room = omega arith;
      may = subst (MayPlay s.game (place_in s t at)) (sym none) tt;
      place = ap (played s.game (place_in s t at)) none;
    }

pub has_room : (s : Setup) (t : Table) (at : ℕ) (q : Place) (begin : ℕ) (moves : List Move) → s.depth ≤ 31 → (from : ℕ) (mv : Move) → IsTable s t → known_at t at ≡ First from mv → LeadOn s t at q begin moves → 0 < begin
has_room s t at q begin moves depth from mv table e h =
    let named = table at from mv e in
    let more = left_within s t from from in
    let left = named.1.left in
    let less : (place_in s t at).left ≡ (place_in s t from).left - 1 = ap (λ (p : Place). p.left) (step_first s t at from mv (is_backward s t table) e) in
    let room = h.room in
    omega arith

pub one_back : (s : Setup) (t : Table) (at : ℕ) (q : Place) (begin : ℕ) (moves : List Move) (from : ℕ) (mv : Move) → IsTable s t → known_at t at ≡ First from mv → 0 < begin → LeadOn s t at q begin moves
    → LeadOn s t from q (begin - 1) (slice_set moves (begin - 1) mv)
one_back s t at q begin moves from mv table e low h =
    let named = table at from mv e in
    let step = step_first s t at from mv (is_backward s t table) e in
    let less : (place_in s t at).left ≡ (place_in s t from).left - 1 = ap (λ (p : Place). p.left) step in
    let room = h.room in
    let len = h.len in
    let within = h.within in
    let inside : begin - 1 < length moves = omega arith in
    let next : begin - 1 + 1 ≡ begin = omega arith in
    let list : drop (begin - 1) (slice_set moves (begin - 1) mv) ≡ mv ∷ drop begin moves = drop-set moves (begin - 1) mv inside ∙ ap (λ k. mv ∷ drop k moves) next in
    let may : MayPlay s.game (place_in s t from) (mv ∷ drop begin moves) = (named.1, subst (λ p. MayPlay s.game p (drop begin moves)) step h.may) in
    record {
      len = length-set moves (begin - 1) mv ∙ len;
      within = omega arith;
      room = (let left = named.1.left in omega arith);
      may = subst (MayPlay s.game (place_in s t from)) (sym list) may;
      place = ap (played s.game (place_in s t from)) list ∙ ap (λ p. played s.game p (drop begin moves)) (sym step) ∙ h.place;
    }

-- once the start is reached, they lead from there
pub from_start : (s : Setup) (t : Table) (at : ℕ) (q : Place) (begin : ℕ) (moves : List Move) → ((from : ℕ) (mv : Move) → known_at t at ≡ First from mv → ⊥) → LeadOn s t at q begin moves
    → MayPlay s.game (start s) (drop begin moves) × (played s.game (start s) (drop begin moves) ≡ q)
from_start s t at q begin moves never h =
    let first = step_start s t at never in
    (subst (λ p. MayPlay s.game p (drop begin moves)) first h.may, ap (λ p. played s.game p (drop begin moves)) (sym first) ∙ h.place)
