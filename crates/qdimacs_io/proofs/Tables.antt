-- Tables of marks: with one more, and of the literals of a clause.
use Rattle.std.proofs.Common.{◌≡◌, ℕ, ◌+◌, ◌*◌, ◌<◌, Bool, true, false, ◌||◌, ◌&&◌, subst, replicate, nat_eq, if◌then◌else◌, List, [], ◌∷◌, ◌++◌, length, get_or, set, refl, sym, ap, ◌∙◌, inl, inr, arith}
use Rattle.std.specs.Bool.{beq}
use Rattle.std.proofs.lemmas.Bool.{cases_eq, eq-eqb, ne_eqb, or_right, false_from_ne_true}
use Rattle.std.proofs.lemmas.List.{length-set, get_or-set_same, get_or-set_other, map_push, length-replicate, get_or-replicate}
use Rattle.std.proofs.lemmas.List.FromFn.{length-map-range_with_len, get_or-map-range_with_len, fill_by_all}
use Rattle.bddl_model.specs.declared.formula.Lit.{Lit}
use Rattle.bddl_model.specs.Truth.{negation}
use Rattle.bddl_model.specs.Forms.{has_number, has_literal, same_literal}
use Rattle.bddl_model.proofs.NumberLists.{has_append}
use Rattle.qdimacs_io.specs.MarkSets.{table, no_mark, AllBelow, literal_number, literal_numbers, AreMarked}
use Rattle.qdimacs_io.specs.States.{OpenLiterals, no_literals, with_literal}

pub table_len : (n : ℕ) (f : ℕ → Bool) → length (table n f) ≡ n
table_len n f = length-map-range_with_len f 0 n

pub table_at : (n : ℕ) (f : ℕ → Bool) (v : ℕ) → v < n → get_or (table n f) v false ≡ f v
table_at n f v lt = get_or-map-range_with_len f 0 n v v false lt (omega arith)

table_put : (n : ℕ) (f g : ℕ → Bool) (v : ℕ) (b : Bool) → v < n → g v ≡ b → ((w : ℕ) → (v ≡ w → ⊥) → g w ≡ f w) → set (table n f) v b ≡ table n g
table_put n f g v b lt here there = fill_by_all g (set (table n f) v b) n false (length-set (table n f) v b ∙ table_len n f) at
  where
    at : (k : ℕ) → k < n → get_or (set (table n f) v b) k false ≡ g k
    at k small = elim (cases_eq v k) [
      | inl same ↦ ap (λ (j : ℕ). get_or (set (table n f) v b) j false) (sym same) ∙ get_or-set_same (table n f) v b false (let l = table_len n f in omega arith) ∙ sym here ∙ ap g same
      | inr other ↦ get_or-set_other (table n f) v k b false (λ e. other (sym e)) ∙ table_at n f k small ∙ sym (there k other)
    ]

has_last : (xs : List ℕ) (v : ℕ) → has_number (xs ++ v ∷ []) v ≡ true
has_last xs v = has_append xs (v ∷ []) v ∙ or_right (has_number xs v) (has_number (v ∷ []) v) (rw (eq-eqb v v refl) refl)

pub or_false : (x : Bool) → (x || false) ≡ x
or_false true = refl
or_false false = refl

has_others : (xs : List ℕ) (v w : ℕ) → (v ≡ w → ⊥) → has_number (xs ++ v ∷ []) w ≡ has_number xs w
has_others xs v w other = has_append xs (v ∷ []) w ∙ ap (λ b. has_number xs w || (b || false)) (ne_eqb v w other) ∙ or_false (has_number xs w)

-- one more number is marked
pub table_push : (n : ℕ) (xs : List ℕ) (v : ℕ) → v < n → set (table n (has_number xs)) v true ≡ table n (has_number (xs ++ v ∷ []))
table_push n xs v lt = table_put n (has_number xs) (has_number (xs ++ v ∷ [])) v true lt (has_last xs v) (has_others xs v)

pub empty_table : (n : ℕ) → replicate n false ≡ table n no_mark
empty_table n = fill_by_all no_mark (replicate n false) n false (length-replicate n false) (λ k small. get_or-replicate n k false false small)

below_push : (n : ℕ) (xs : List ℕ) (v : ℕ) → AllBelow n xs → v < n → AllBelow n (xs ++ v ∷ [])
below_push n [] v h lt = (lt, tt)
below_push n (x ∷ xs) v h lt = (h.0, below_push n xs v h.1 lt)

-- ---- literals by their numbers

same_number : (a b : ℕ) (x y : Bool) → nat_eq (2 * b + (if y then 1 else 0)) (2 * a + (if x then 1 else 0)) ≡ (nat_eq a b && beq x y)
same_number a b x y = elim (cases_eq a b) [
  | inl same ↦ rw (eq-eqb a b same) (equal x y same)
  | inr other ↦ rw (ne_eqb a b other) (ne_eqb _ _ (apart x y other))
]
  where
    equal : (x y : Bool) → a ≡ b → nat_eq (2 * b + (if y then 1 else 0)) (2 * a + (if x then 1 else 0)) ≡ beq x y
    equal true true e = eq-eqb (2 * b + 1) (2 * a + 1) (omega arith)
    equal true false e = ne_eqb (2 * b + 0) (2 * a + 1) (λ q. omega arith)
    equal false true e = ne_eqb (2 * b + 1) (2 * a + 0) (λ q. omega arith)
    equal false false e = eq-eqb (2 * b + 0) (2 * a + 0) (omega arith)

    apart : (x y : Bool) → (a ≡ b → ⊥) → 2 * b + (if y then 1 else 0) ≡ 2 * a + (if x then 1 else 0) → ⊥
    apart true true n e = n (omega arith)
    apart true false n e = omega arith
    apart false true n e = omega arith
    apart false false n e = n (omega arith)

literals_by_number : (ls : List Lit) (l : Lit) → has_number (literal_numbers ls) (literal_number l) ≡ has_literal ls l
literals_by_number [] l = refl
literals_by_number (m ∷ ls) l = ap (λ b. b || has_number (literal_numbers ls) (literal_number l)) (same_number l.var.0 m.var.0 l.negated m.negated) ∙ ap (λ b. same_literal l m || b) (literals_by_number ls l)

pub number_below : (room : ℕ) (l : Lit) → 2 * l.var.0 + 1 < room → literal_number l < room
number_below room l small = go l.negated
  where
    go : (b : Bool) → 2 * l.var.0 + (if b then 1 else 0) < room
    go true = omega arith
    go false = omega arith

module _ (literals : List Lit) (marks : List Bool) (marked : AreMarked literals marks) where
  pub is_marked : (l : Lit) → 2 * l.var.0 + 1 < length marks → get_or marks (literal_number l) false ≡ has_literal literals l
  is_marked l small =
      ap (λ (t : List Bool). get_or t (literal_number l) false) marked.marked
      ∙ table_at (length marks) (has_number (literal_numbers literals)) (literal_number l) (number_below (length marks) l small)
      ∙ literals_by_number literals l

  pub one_more : (l : Lit) → 2 * l.var.0 + 1 < length marks → AreMarked (literals ++ l ∷ []) (set marks (literal_number l) true)
  one_more l small = record {
    marked =
        ap (λ t. set t (literal_number l) true) marked.marked
        ∙ table_push (length marks) (literal_numbers literals) (literal_number l) (number_below (length marks) l small)
        ∙ ap (λ t. table (length marks) (has_number t)) (sym (map_push literal_number literals l))
        ∙ ap (λ n. table n (has_number (literal_numbers (literals ++ l ∷ [])))) (sym (length-set marks (literal_number l) true));
    within = rw (length-set marks (literal_number l) true) (subst (λ t. AllBelow (length marks) t) (sym (map_push literal_number literals l)) (below_push (length marks) (literal_numbers literals) (literal_number l) marked.within (number_below (length marks) l small)));
  }

  pub all_covered : (w : ℕ) → w < length marks → get_or marks w false ≡ true → has_number (literal_numbers literals) w ≡ true
  all_covered w lt is = sym (ap (λ (t : List Bool). get_or t w false) marked.marked ∙ table_at (length marks) (has_number (literal_numbers literals)) w lt) ∙ is

pub none_marked : (n : ℕ) (literals : List Lit) (marks : List Bool) → literals ≡ [] → marks ≡ table n no_mark → AreMarked literals marks
none_marked n literals marks none is = rw (none, is) (record { marked = ap (λ k. table k no_mark) (sym (table_len n no_mark)); within = tt })

-- a table from which all its numbers were taken
pub all_taken : (marks : List Bool) (n : ℕ) → length marks ≡ n → ((w : ℕ) → w < n → get_or marks w false ≡ true → has_number [] w ≡ true) → marks ≡ table n no_mark
all_taken marks n len covers = fill_by_all no_mark marks n false len (λ k small. false_from_ne_true (get_or marks k false) (λ marked. absurd (let z = covers k small marked in cc)))

-- ---- what contracts see

abbrev open_view : List Bool → List Lit → Bool → OpenLiterals
open_view marks literals opposed = record { room = length marks; literals = literals; opposed = opposed }

pub none_seen : (n : ℕ) (marks : List Bool) (literals : List Lit) → literals ≡ [] → marks ≡ table n no_mark → open_view marks literals false ≡ no_literals n
none_seen n marks literals none is = rw (none, is, table_len n no_mark) refl

pub doubled_seen : (marks : List Bool) (literals : List Lit) (opposed now : Bool) (l : Lit) → has_literal literals l ≡ true → now ≡ (opposed || has_literal literals (negation l)) → open_view marks literals now ≡ with_literal (open_view marks literals opposed) l
doubled_seen marks literals opposed now l has is = rw (has, is) refl

pub added_seen : (marks : List Bool) (literals more : List Lit) (opposed now : Bool) (l : Lit) (n : ℕ) → has_literal literals l ≡ false → now ≡ (opposed || has_literal literals (negation l)) → more ≡ literals ++ l ∷ []
    → open_view (set marks n true) more now ≡ with_literal (open_view marks literals opposed) l
added_seen marks literals more opposed now l n has is new = rw (has, is, new, length-set marks n true) refl
