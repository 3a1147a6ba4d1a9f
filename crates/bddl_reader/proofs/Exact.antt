-- A reader is exact for a grammar: what it takes is a text, what is a text it takes, and where it is stuck no text goes on so.
use Rattle.std.proofs.Common.{◌≡◌, ℕ, suc, List, [], ◌∷◌, ◌++◌, length, Option, Some, None, Result, Ok, Err, refl, sym, ap, subst, ◌∙◌, append_assoc, inl, inr, ◌⊎◌}
use Rattle.bddl_model.specs.GrammarWords.{done, one, follow, Begins}
use Rattle.bddl_reader.specs.ListReaders.{Reader, and_then, done_at, ◌>>=◌, picked, one_at}

abbrev pub Text : Type 0 → Type 0 → Type 1
Text W A = List W → A → Type 0

-- both end, or both go on with the same token
abbrev pub SameHead : {W : Type 0} → List W → List W → Type 0
SameHead [] [] = Unit {0}
SameHead [] (b ∷ bs) = ⊥
SameHead (a ∷ xs) [] = ⊥
SameHead (a ∷ xs) (b ∷ bs) = a ≡ b

-- a text at the front was read, and is read the same whatever comes behind the next token
pub record Takes {W A : Type 0} (P : Text W A) (at : Reader W A) (ts : List W) (x : A) (rest : List W) : Type 0 where
  pub front : List W
  pub splits : ts ≡ front ++ rest
  pub spells : P front x
  pub always : (other : List W) → SameHead rest other → at (front ++ other) ≡ Ok (x, other)

-- the tokens at the front begin a text, and the reader is stuck behind them whatever comes behind the next token
pub record Stuck {W A : Type 0} (P : Text W A) (at : Reader W A) (ts : List W) (left : ℕ) : Type 0 where
  pub front : List W
  pub rest : List W
  pub splits : ts ≡ front ++ rest
  pub counts : left ≡ length rest
  pub begins : Begins P front
  pub always : (other : List W) → SameHead rest other → at (front ++ other) ≡ Err (length other)

-- F is what may come behind a text
pub record Exact {W A : Type 0} (P : Text W A) (F : List W → Type 0) (at : Reader W A) : Type 0 where
  pub takes : (ts : List W) (x : A) (rest : List W) → at ts ≡ Ok (x, rest) → Takes P at ts x rest
  pub again : (front : List W) (x : A) (rest : List W) → P front x → F rest → at (front ++ rest) ≡ Ok (x, rest)
  pub stuck : (ts : List W) (left : ℕ) → at ts ≡ Err left → Stuck P at ts left
  -- there is a text
  pub some : (text : List W) × (x : A) × P text x

pub same_head : {W : Type 0} (front rest other : List W) → SameHead rest other → SameHead (front ++ rest) (front ++ other)
same_head [] rest other same = same
same_head (t ∷ front) rest other same = refl

abbrev pub Anything : {W : Type 0} → List W → Type 0
Anything ts = Unit {0}

abbrev pub read : {W A : Type 0} → A → Reader W A
read x rest = Ok (x, rest)

pub read_same : {W A : Type 0} (x y : A) (a b : List W) → read x a ≡ read y b → (x ≡ y) × (a ≡ b)
read_same {W} {A} x y a b same =
    let pairs : (x, a) ≡ (y, b) = cc in
    (ap (λ (p : A × List W). p.0) pairs, ap (λ (p : A × List W). p.1) pairs)

pub exact_weaker : {W A : Type 0} {P : Text W A} {F G : List W → Type 0} {at : Reader W A} → Exact P F at → ((rest : List W) → G rest → F rest) → Exact P G at
exact_weaker given less = record {
  takes = given.takes;
  again = λ front x rest text behind. given.again front x rest text (less rest behind);
  stuck = given.stuck;
  some = given.some;
}

-- ---- nothing

pub exact_done : {W A : Type 0} (v : A) → Exact {W = W} (done v) Anything (done_at v)
exact_done {W} {A} v = record {
  takes = λ ts x rest took.
      let same = read_same v x ts rest took in
      record { front = []; splits = same.1; spells = (refl, sym same.0); always = λ other head. ap (λ (y : A). read y other) same.0 };
  again = λ front x rest text behind. rw (text.0, text.1) refl;
  stuck = λ ts left err. absurd cc;
  some = ([], v, (refl, refl));
}

-- ---- one token

picked_ok : {W A : Type 0} (o : Option A) (ts rest : List W) (x : A) → picked o ts ≡ Ok (x, rest) → (o ≡ Some x) × (ts ≡ rest)
picked_ok None ts rest x took = absurd cc
picked_ok (Some y) ts rest x took = let same = read_same y x ts rest took in (ap Some same.0, same.1)

picked_err : {W A : Type 0} (o : Option A) (ts : List W) (left : ℕ) → picked o ts ≡ Err left → (o ≡ None) × (left ≡ suc (length ts))
picked_err None ts left err = (refl, cc)
picked_err (Some y) ts left err = absurd cc

one_takes : {W A : Type 0} (meaning : W → Option A) (ts : List W) (x : A) (rest : List W) → one_at meaning ts ≡ Ok (x, rest) → Takes (one meaning) (one_at meaning) ts x rest
one_takes meaning [] x rest took = absurd cc
one_takes meaning (t ∷ ts) x rest took =
    let means = picked_ok (meaning t) ts rest x took in
    record { front = t ∷ []; splits = ap (λ r. t ∷ r) means.1; spells = (t, refl, means.0); always = λ other head. rw means.0 refl }

one_again : {W A : Type 0} (meaning : W → Option A) (front : List W) (x : A) (rest : List W) → one meaning front x → Anything rest → one_at meaning (front ++ rest) ≡ Ok (x, rest)
one_again meaning front x rest text behind = rw (text.1, text.2) refl

meaningless_stuck : {W A : Type 0} (meaning : W → Option A) (t : W) (ts : List W) → meaning t ≡ None → (other : List W) → SameHead (t ∷ ts) other → one_at meaning other ≡ Err (length other)
meaningless_stuck meaning t ts none [] head = absurd head
meaningless_stuck meaning t ts none (s ∷ other) head = rw (← head, none) refl

empty_stuck : {W A : Type 0} (meaning : W → Option A) (other : List W) → SameHead [] other → one_at meaning other ≡ Err (length other)
empty_stuck meaning [] head = refl
empty_stuck meaning (s ∷ other) head = absurd head

one_stuck : {W A : Type 0} (meaning : W → Option A) (t : W) (x : A) → meaning t ≡ Some x → (ts : List W) (left : ℕ) → one_at meaning ts ≡ Err left → Stuck (one meaning) (one_at meaning) ts left
one_stuck meaning t x means [] left err =
    record { front = []; rest = []; splits = refl; counts = cc; begins = (t ∷ [], x, (t, refl, means)); always = empty_stuck meaning }
one_stuck meaning t x means (s ∷ ts) left err =
    let none = picked_err (meaning s) ts left err in
    record { front = []; rest = s ∷ ts; splits = refl; counts = none.1; begins = (t ∷ [], x, (t, refl, means)); always = meaningless_stuck meaning s ts none.0 }

-- there is a token that means something
pub exact_one : {W A : Type 0} (meaning : W → Option A) (t : W) (x : A) → meaning t ≡ Some x → Exact (one meaning) Anything (one_at meaning)
exact_one meaning t x means = record {
  takes = one_takes meaning;
  again = one_again meaning;
  stuck = one_stuck meaning t x means;
  some = (t ∷ [], x, (t, refl, means));
}

-- ---- a text, and behind it one that may depend on its value

pub and_then_ok : {A B : Type 0} (r : Result A ℕ) (next : A → Result B ℕ) (y : B) → and_then r next ≡ Ok y → (x : A) × (r ≡ Ok x) × (next x ≡ Ok y)
and_then_ok (Ok x) next y ok = (x, refl, ok)
and_then_ok (Err d) next y ok = absurd cc

pub and_then_err : {A B : Type 0} (r : Result A ℕ) (next : A → Result B ℕ) (left : ℕ) → and_then r next ≡ Err left → (r ≡ Err left) ⊎ ((x : A) × (r ≡ Ok x) × (next x ≡ Err left))
and_then_err (Ok x) next left err = inr (x, refl, err)
and_then_err (Err d) next left err = inl (cc)

then_takes : {W A B : Type 0} {P : Text W A} {Q : A → Text W B} {F G : List W → Type 0} {p : Reader W A} {q : A → Reader W B}
    → Exact P F p → ((x : A) → Exact (Q x) G (q x)) → (ts : List W) (y : B) (rest : List W) → (p >>= q) ts ≡ Ok (y, rest) → Takes (follow P Q) (p >>= q) ts y rest
then_takes {p = p} {q = q} first second ts y rest took =
    let r = and_then_ok (p ts) (λ r. q r.0 r.1) (y, rest) took in
    let a = first.takes ts r.0.0 r.0.1 r.1 in
    let b = (second r.0.0).takes r.0.1 y rest r.2 in record {
      front = a.front ++ b.front;
      splits = a.splits ∙ ap (λ s. a.front ++ s) b.splits ∙ sym (append_assoc a.front b.front rest);
      spells = (r.0.0, a.front, b.front, refl, a.spells, b.spells);
      always = λ other head.
          let held = subst (λ z. SameHead z (b.front ++ other)) (sym b.splits) (same_head b.front rest other head) in
          let reads : p ((a.front ++ b.front) ++ other) ≡ Ok (r.0.0, b.front ++ other) = ap p (append_assoc a.front b.front other) ∙ a.always (b.front ++ other) held in
          rw reads (b.always other head);
    }

then_again : {W A B : Type 0} {P : Text W A} {Q : A → Text W B} {F G : List W → Type 0} {p : Reader W A} {q : A → Reader W B}
    → Exact P F p → ((x : A) → Exact (Q x) G (q x)) → ((x : A) (b : List W) (y : B) (rest : List W) → Q x b y → G rest → F (b ++ rest))
    → (front : List W) (y : B) (rest : List W) → follow P Q front y → G rest → (p >>= q) (front ++ rest) ≡ Ok (y, rest)
then_again {p = p} {q = q} first second goes_on front y rest (x, a, b, splits, one_text, other_text) behind =
    let regrouped : front ++ rest ≡ a ++ (b ++ rest) = ap (λ s. s ++ rest) splits ∙ append_assoc a b rest in
    let reads : p (front ++ rest) ≡ Ok (x, b ++ rest) = ap p regrouped ∙ first.again a x (b ++ rest) one_text (goes_on x b y rest other_text behind) in
    rw reads ((second x).again b y rest other_text behind)

then_stuck : {W A B : Type 0} {P : Text W A} {Q : A → Text W B} {F G : List W → Type 0} {p : Reader W A} {q : A → Reader W B}
    → Exact P F p → ((x : A) → Exact (Q x) G (q x)) → (ts : List W) (left : ℕ) → (p >>= q) ts ≡ Err left → Stuck (follow P Q) (p >>= q) ts left
then_stuck {p = p} {q = q} first second ts left err =
    elim (and_then_err (p ts) (λ r. q r.0 r.1) left err) [
      | inl here ↦
          let s = first.stuck ts left here in
          let begun = s.begins in
          let more = (second begun.1).some in record {
            front = s.front;
            rest = s.rest;
            splits = s.splits;
            counts = s.counts;
            begins = (begun.0 ++ more.0, more.1, (begun.1, s.front ++ begun.0, more.0, sym (append_assoc s.front begun.0 more.0), begun.2, more.2));
            always = λ other head. rw (s.always other head) refl;
          }
      | inr later ↦
          let r = later.0 in
          let a = first.takes ts r.0 r.1 later.1 in
          let s = (second r.0).stuck r.1 left later.2 in
          let begun = s.begins in record {
            front = a.front ++ s.front;
            rest = s.rest;
            splits = a.splits ∙ ap (λ z. a.front ++ z) s.splits ∙ sym (append_assoc a.front s.front s.rest);
            counts = s.counts;
            begins = (begun.0, begun.1, (r.0, a.front, s.front ++ begun.0, append_assoc a.front s.front begun.0, a.spells, begun.2));
            always = λ other head.
                let held = subst (λ z. SameHead z (s.front ++ other)) (sym s.splits) (same_head s.front s.rest other head) in
                let reads : p ((a.front ++ s.front) ++ other) ≡ Ok (r.0, s.front ++ other) = ap p (append_assoc a.front s.front other) ∙ a.always (s.front ++ other) held in
                rw reads (s.always other head);
          }
    ]

pub exact_then : {W A B : Type 0} {P : Text W A} {Q : A → Text W B} {F G : List W → Type 0} {p : Reader W A} {q : A → Reader W B}
    → Exact P F p → ((x : A) → Exact (Q x) G (q x))
    → ((x : A) (b : List W) (y : B) (rest : List W) → Q x b y → G rest → F (b ++ rest))
    → Exact (follow P Q) G (p >>= q)
exact_then first second goes_on = record {
  takes = then_takes first second;
  again = then_again first second goes_on;
  stuck = then_stuck first second;
  some = let a = first.some in let b = (second a.1).some in (a.0 ++ b.0, b.1, (a.1, a.0, b.0, refl, a.2, b.2));
}

-- where anything may come behind the first
pub exact_seq : {W A B : Type 0} {P : Text W A} {Q : A → Text W B} {G : List W → Type 0} {p : Reader W A} {q : A → Reader W B}
    → Exact P Anything p → ((x : A) → Exact (Q x) G (q x)) → Exact (follow P Q) G (p >>= q)
exact_seq first second = exact_then first second (λ x b y rest text behind. tt)
