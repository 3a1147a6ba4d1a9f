-- A text that begins with a token of its own, or nothing, is read exactly.
use Rattle.std.proofs.Common.{◌≡◌, ℕ, List, [], ◌∷◌, ◌++◌, Option, Some, None, Ok, Err, refl, sym, ap, ◌∙◌, inl, inr, ◌⊎◌}
use Rattle.bddl_model.specs.GrammarWords.{one, follow, optional}
use Rattle.bddl_reader.specs.ListReaders.{Reader, ◌>>=◌, optional_at}
use Rattle.bddl_reader.proofs.Exact.{Text, SameHead, Takes, Stuck, Exact, Anything, read, read_same, exact_then}

abbrev pub BeginsWithNone : {W B : Type 0} → (W → Option B) → List W → Type 0
BeginsWithNone sign [] = Unit {0}
BeginsWithNone sign (t ∷ ts) = sign t ≡ None

cases_option : {B : Type 0} (o : Option B) → (o ≡ None) ⊎ ((b : B) × (o ≡ Some b))
cases_option None = inl refl
cases_option (Some b) = inr (b, refl)

left_out : {W A B : Type 0} (sign : W → Option B) (q : B → Reader W A) (v : A) (rest : List W) → BeginsWithNone sign rest → optional_at sign q v rest ≡ Ok (v, rest)
left_out sign q v [] none = refl
left_out sign q v (t ∷ ts) none = rw none refl

also_none : {W B : Type 0} (sign : W → Option B) (rest other : List W) → SameHead rest other → BeginsWithNone sign rest → BeginsWithNone sign other
also_none sign [] [] head none = tt
also_none sign [] (t ∷ other) head none = absurd head
also_none sign (t ∷ ts) [] head none = absurd head
also_none sign (t ∷ ts) (s ∷ other) head none = rw (← head) none

nothing_takes : {W A B : Type 0} (sign : W → Option B) (Q : B → Text W A) (q : B → Reader W A) (v : A) (ts : List W) (x : A) (rest : List W)
    → BeginsWithNone sign ts → optional_at sign q v ts ≡ Ok (x, rest) → Takes (optional sign Q v) (optional_at sign q v) ts x rest
nothing_takes {A = A} sign Q q v ts x rest none took =
    let same = read_same v x ts rest (sym (left_out sign q v ts none) ∙ took) in record {
      front = [];
      splits = same.1;
      spells = inr (refl, sym same.0);
      always = λ other head. left_out sign q v other (also_none sign ts other (rw same.1 head) none) ∙ ap (λ (y : A). read y other) same.0;
    }

optional_takes : {W A B : Type 0} (sign : W → Option B) (Q : B → Text W A) (q : B → Reader W A) (v : A) → ((b : B) → Exact (Q b) Anything (q b))
    → (ts : List W) (x : A) (rest : List W) → optional_at sign q v ts ≡ Ok (x, rest) → Takes (optional sign Q v) (optional_at sign q v) ts x rest
optional_takes sign Q q v given [] x rest took = nothing_takes sign Q q v [] x rest tt took
optional_takes sign Q q v given (t ∷ ts) x rest took =
    elim (cases_option (sign t)) [
      | inl none ↦ nothing_takes sign Q q v (t ∷ ts) x rest none took
      | inr some ↦
          let behind : q some.0 ts ≡ Ok (x, rest) = rw some.1 at took in
          let b = (given some.0).takes ts x rest behind in record {
            front = t ∷ b.front;
            splits = ap (λ z. t ∷ z) b.splits;
            spells = inl (some.0, t ∷ [], b.front, refl, (t, refl, some.1), b.spells);
            always = λ other head. rw some.1 (b.always other head);
          }
    ]

optional_again : {W A B : Type 0} (sign : W → Option B) (Q : B → Text W A) (q : B → Reader W A) (v : A) → ((b : B) → Exact (Q b) Anything (q b))
    → (front : List W) (x : A) (rest : List W) → optional sign Q v front x → BeginsWithNone sign rest → optional_at sign q v (front ++ rest) ≡ Ok (x, rest)
optional_again sign Q q v given front x rest (inl (b, first, text, splits, (t, is_first, means), spells)) none =
    let whole : front ≡ t ∷ text = splits ∙ ap (λ z. z ++ text) is_first in
    rw (whole, means) ((given b).again text x rest spells tt)
optional_again sign Q q v given front x rest (inr (is_empty, is_value)) none = rw (is_empty, is_value) (left_out sign q v rest none)

optional_stuck : {W A B : Type 0} (sign : W → Option B) (Q : B → Text W A) (q : B → Reader W A) (v : A) → ((b : B) → Exact (Q b) Anything (q b))
    → (ts : List W) (left : ℕ) → optional_at sign q v ts ≡ Err left → Stuck (optional sign Q v) (optional_at sign q v) ts left
optional_stuck sign Q q v given [] left err = absurd cc
optional_stuck sign Q q v given (t ∷ ts) left err =
    elim (cases_option (sign t)) [
      | inl none ↦ let both = sym (left_out sign q v (t ∷ ts) none) ∙ err in absurd cc
      | inr some ↦
          let behind : q some.0 ts ≡ Err left = rw some.1 at err in
          let s = (given some.0).stuck ts left behind in
          let begun = s.begins in record {
            front = t ∷ s.front;
            rest = s.rest;
            splits = ap (λ z. t ∷ z) s.splits;
            counts = s.counts;
            begins = (begun.0, begun.1, inl (some.0, t ∷ [], s.front ++ begun.0, refl, (t, refl, some.1), begun.2));
            always = λ other head. rw some.1 (s.always other head);
          }
    ]

pub exact_optional : {W A B : Type 0} (sign : W → Option B) (Q : B → Text W A) (q : B → Reader W A) (v : A) → ((b : B) → Exact (Q b) Anything (q b))
    → Exact (optional sign Q v) (BeginsWithNone sign) (optional_at sign q v)
exact_optional sign Q q v given = record {
  takes = optional_takes sign Q q v given;
  again = optional_again sign Q q v given;
  stuck = optional_stuck sign Q q v given;
  some = ([], v, inr (refl, refl));
}

-- ---- what ends with such a text, and behind it another token

begins_none : {W B C D : Type 0} (start : W → Option B) (closing : W → Option C) (R : C → Text W D) (b : List W) (y : D) (rest : List W) → follow (one closing) R b y
    → ((t : W) (c : C) → closing t ≡ Some c → start t ≡ None) → BeginsWithNone start (b ++ rest)
begins_none start closing R b y rest (c, first, text, splits, (t, is_first, means), spells) apart =
    let whole : b ≡ t ∷ text = splits ∙ ap (λ z. z ++ text) is_first in
    rw whole (apart t c means)

-- what comes behind begins with a token that begins no more of what went before
pub exact_before : {W A B C D : Type 0} {P : Text W A} {start : W → Option B} {closing : W → Option C} {R : A → C → Text W D} {G : List W → Type 0} {p : Reader W A} {q : A → Reader W D}
    → Exact P (BeginsWithNone start) p → ((x : A) → Exact (follow (one closing) (R x)) G (q x)) → ((t : W) (c : C) → closing t ≡ Some c → start t ≡ None)
    → Exact (follow P (λ x. follow (one closing) (R x))) G (p >>= q)
exact_before {start = start} {closing = closing} {R = R} first second apart = exact_then first second (λ x b y rest text behind. begins_none start closing (R x) b y rest text apart)
