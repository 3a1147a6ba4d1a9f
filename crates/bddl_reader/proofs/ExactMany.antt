-- None or more items are read exactly, up to a token that begins none.
use Rattle.std.proofs.Common.{◌≡◌, ℕ, zero, suc, ◌<◌, Bool, true, false, List, [], ◌∷◌, ◌++◌, length, Option, Result, Ok, Err, refl, sym, ap, subst, ◌∙◌, append_assoc, arith, inl, inr, ◌⊎◌}
use Rattle.std.proofs.lemmas.List.{append-nil, length-append}
use Rattle.bddl_model.specs.GrammarWords.{one, follow, many, Begins}
use Rattle.bddl_reader.specs.ListReaders.{Reader, and_then, many_at, all_at, lacks, listed}
use Rattle.bddl_reader.proofs.Exact.{Text, SameHead, Exact, Anything, read, read_same, same_head, and_then_ok, and_then_err, exact_weaker}
use Rattle.bddl_reader.proofs.ExactOptional.{BeginsWithNone}

pub many_step : {W A : Type 0} (stops : List W → Bool) (item : Reader W A) (n : ℕ) (ts : List W) → stops ts ≡ false
    → many_at stops item (suc n) ts ≡ (and_then (item ts) (λ r. and_then (many_at stops item n r.1) (λ rs. Ok (r.0 ∷ rs.0, rs.1))))
unfolding many_at
many_step stops item n ts going = rw (going, many_at) refl

pub many_end : {W A : Type 0} (stops : List W → Bool) (item : Reader W A) (n : ℕ) (ts : List W) → stops ts ≡ true
    → many_at stops item (suc n) ts ≡ Ok ([], ts)
unfolding many_at
many_end stops item n ts stopped = rw (stopped, many_at) refl

pub cases_bool : (b : Bool) → (b ≡ true) ⊎ (b ≡ false)
cases_bool true = inl refl
cases_bool false = inr refl

-- what the items and their end have to meet
pub record Repeats {W A : Type 0} (stops : List W → Bool) (P : Text W A) (item : Reader W A) : Type 0 where
  pub exact : Exact P Anything item
  -- no item begins as the end does
  pub apart : (front : List W) (x : A) (rest : List W) → P front x → stops (front ++ rest) ≡ false
  pub looks_at_head : (a b : List W) → SameHead a b → stops a ≡ stops b
  -- there is an end
  pub ending : List W
  pub ends : stops ending ≡ true

pub item_has_token : {W A : Type 0} {stops : List W → Bool} {P : Text W A} {item : Reader W A} → Repeats stops P item → (front : List W) (x : A) → P front x → 0 < length front
item_has_token given [] x text = absurd (let going = given.apart [] x given.ending text in let stopped = given.ends in cc)
item_has_token given (t ∷ front) x text = omega arith

-- ---- what is taken

abbrev pub TakesAgain : {W A : Type 0} → (List W → Bool) → Reader W A → List W → List A → List W → Type 0
TakesAgain {W} {A} stops item front xs rest = (other : List W) (n : ℕ) → SameHead rest other → length (front ++ other) < n → many_at stops item n (front ++ other) ≡ Ok (xs, other)

pub record TakesMany {W A : Type 0} (stops : List W → Bool) (P : Text W A) (item : Reader W A) (ts : List W) (xs : List A) (rest : List W) : Type 0 where
  pub front : List W
  pub splits : ts ≡ front ++ rest
  pub spells : many P front xs
  pub always : TakesAgain stops item front xs rest

ends_again : {W A : Type 0} (stops : List W → Bool) (item : Reader W A) (rest : List W) → ((a b : List W) → SameHead a b → stops a ≡ stops b) → stops rest ≡ true → TakesAgain stops item [] [] rest
ends_again stops item rest looks_at_head stopped other zero head room = absurd (omega arith)
ends_again stops item rest looks_at_head stopped other (suc n) head room = many_end stops item n other (sym (looks_at_head rest other head) ∙ stopped)

one_more : {W A : Type 0} (stops : List W → Bool) (P : Text W A) (item : Reader W A) → Repeats stops P item
    → (x : A) (xs : List A) (a b rest : List W) → P a x → TakesAgain stops item b xs rest → TakesAgain stops item (a ++ b) (x ∷ xs) rest
one_more stops P item given x xs a b rest text all other zero head room = absurd (omega arith)
one_more stops P item given x xs a b rest text all other (suc n) head room =
    let regrouped = append_assoc a b other in
    let going : stops (a ++ (b ++ other)) ≡ false = given.apart a x (b ++ other) text in
    let token = item_has_token given a x text in
    let fewer : length (b ++ other) < n = omega (arith, ap length regrouped, length-append a (b ++ other), token) in
    ap (many_at stops item (suc n)) regrouped ∙ many_step stops item n (a ++ (b ++ other)) going ∙ rw (given.exact.again a x (b ++ other) text tt, all other n head fewer) refl

many_takes : {W A : Type 0} (stops : List W → Bool) (P : Text W A) (item : Reader W A) → Repeats stops P item
    → (n : ℕ) (ts : List W) (xs : List A) (rest : List W) → many_at stops item n ts ≡ Ok (xs, rest) → TakesMany stops P item ts xs rest
unfolding many_at
many_takes stops P item given zero ts xs rest took = absurd cc
many_takes {W} {A} stops P item given (suc n) ts xs rest took =
    elim (cases_bool (stops ts)) [
      | inl stopped ↦
          let same = read_same {A = List A} [] xs ts rest (sym (many_end stops item n ts stopped) ∙ took) in record {
            front = [];
            splits = same.1;
            spells = subst (many P []) same.0 refl;
            always = subst (λ (ys : List A). TakesAgain stops item [] ys rest) same.0 (ends_again stops item rest given.looks_at_head (subst (λ (z : List W). stops z ≡ true) same.1 stopped));
          }
      | inr going ↦
          let first = and_then_ok (item ts) (λ r. and_then (many_at stops item n r.1) (λ rs. Ok (r.0 ∷ rs.0, rs.1))) (xs, rest) (sym (many_step stops item n ts going) ∙ took) in
          let r = first.0 in
          let more = and_then_ok (many_at stops item n r.1) (λ rs. Ok (r.0 ∷ rs.0, rs.1)) (xs, rest) first.2 in
          let rs = more.0 in
          let same = read_same {A = List A} (r.0 ∷ rs.0) xs rs.1 rest more.2 in
          let a = given.exact.takes ts r.0 r.1 first.1 in
          let b = many_takes stops P item given n r.1 rs.0 rs.1 more.1 in
          let again : TakesAgain stops item (a.front ++ b.front) (r.0 ∷ rs.0) rs.1 = one_more stops P item given r.0 rs.0 a.front b.front rs.1 a.spells b.always in record {
            front = a.front ++ b.front;
            splits = a.splits ∙ ap (λ z. a.front ++ z) (b.splits ∙ ap (λ z. b.front ++ z) same.1) ∙ sym (append_assoc a.front b.front rest);
            spells = subst (many P (a.front ++ b.front)) same.0 (a.front, b.front, refl, a.spells, b.spells);
            always = subst (λ (ys : List A). TakesAgain stops item (a.front ++ b.front) ys rest) same.0 (subst (λ (z : List W). TakesAgain stops item (a.front ++ b.front) (r.0 ∷ rs.0) z) same.1 again);
          }
    ]

many_again : {W A : Type 0} (stops : List W → Bool) (P : Text W A) (item : Reader W A) → Repeats stops P item
    → (n : ℕ) (front : List W) (xs : List A) (rest : List W) → many P front xs → stops rest ≡ true → length (front ++ rest) < n
    → many_at stops item n (front ++ rest) ≡ Ok (xs, rest)
many_again stops P item given zero front xs rest texts stopped room = absurd (omega arith)
many_again stops P item given (suc n) front [] rest texts stopped room = rw texts (many_end stops item n rest stopped)
many_again stops P item given (suc n) front (x ∷ xs) rest (a, b, splits, text, texts) stopped room =
    let regrouped : front ++ rest ≡ a ++ (b ++ rest) = ap (λ z. z ++ rest) splits ∙ append_assoc a b rest in
    let going : stops (a ++ (b ++ rest)) ≡ false = given.apart a x (b ++ rest) text in
    let token = item_has_token given a x text in
    let fewer : length (b ++ rest) < n = omega (arith, ap length regrouped, length-append a (b ++ rest), token) in
    ap (many_at stops item (suc n)) regrouped ∙ many_step stops item n (a ++ (b ++ rest)) going ∙ rw (given.exact.again a x (b ++ rest) text tt, many_again stops P item given n b xs rest texts stopped fewer) refl

-- ---- where the reading is stuck

abbrev pub StuckAgain : {W A : Type 0} → (List W → Bool) → Reader W A → List W → List W → Type 0
StuckAgain {W} {A} stops item front rest = (other : List W) (n : ℕ) → SameHead rest other → length (front ++ other) < n → many_at stops item n (front ++ other) ≡ Err (length other)

pub record StuckMany {W A : Type 0} (stops : List W → Bool) (P : Text W A) (item : Reader W A) (ts : List W) (left : ℕ) : Type 0 where
  pub front : List W
  pub rest : List W
  pub splits : ts ≡ front ++ rest
  pub counts : left ≡ length rest
  pub begins : Begins (many P) front
  pub always : StuckAgain stops item front rest

here_stuck : {W A : Type 0} (stops : List W → Bool) (P : Text W A) (item : Reader W A) → Repeats stops P item
    → (ts front rest : List W) → ts ≡ front ++ rest → stops ts ≡ false → ((other : List W) → SameHead rest other → item (front ++ other) ≡ Err (length other)) → StuckAgain stops item front rest
here_stuck stops P item given ts front rest splits going all other zero head room = absurd (omega arith)
here_stuck stops P item given ts front rest splits going all other (suc n) head room =
    let goes_on : stops (front ++ other) ≡ false = sym (given.looks_at_head (front ++ rest) (front ++ other) (same_head front rest other head)) ∙ ap stops (sym splits) ∙ going in
    many_step stops item n (front ++ other) goes_on ∙ rw (all other head) refl

later_stuck : {W A : Type 0} (stops : List W → Bool) (P : Text W A) (item : Reader W A) → Repeats stops P item
    → (x : A) (a b rest : List W) → P a x → StuckAgain stops item b rest → StuckAgain stops item (a ++ b) rest
later_stuck stops P item given x a b rest text all other zero head room = absurd (omega arith)
later_stuck stops P item given x a b rest text all other (suc n) head room =
    let regrouped = append_assoc a b other in
    let going : stops (a ++ (b ++ other)) ≡ false = given.apart a x (b ++ other) text in
    let token = item_has_token given a x text in
    let fewer : length (b ++ other) < n = omega (arith, ap length regrouped, length-append a (b ++ other), token) in
    ap (many_at stops item (suc n)) regrouped ∙ many_step stops item n (a ++ (b ++ other)) going ∙ rw (given.exact.again a x (b ++ other) text tt, all other n head fewer) refl

with_item_err : {W A : Type 0} (r : Result (List A × List W) ℕ) (x : A) (left : ℕ) → and_then r (λ rs. read (x ∷ rs.0) rs.1) ≡ Err left → r ≡ Err left
with_item_err (Ok rs) x left err = absurd cc
with_item_err (Err d) x left err = cc

many_stuck : {W A : Type 0} (stops : List W → Bool) (P : Text W A) (item : Reader W A) → Repeats stops P item
    → (n : ℕ) (ts : List W) (left : ℕ) → length ts < n → many_at stops item n ts ≡ Err left → StuckMany stops P item ts left
many_stuck stops P item given zero ts left room err = absurd (omega arith)
many_stuck {W} {A} stops P item given (suc n) ts left room err =
    elim (cases_bool (stops ts)) [
      | inl stopped ↦ let both = sym (many_end stops item n ts stopped) ∙ err in absurd cc
      | inr going ↦
          elim (and_then_err (item ts) (λ r. and_then (many_at stops item n r.1) (λ rs. Ok (r.0 ∷ rs.0, rs.1))) left (sym (many_step stops item n ts going) ∙ err)) [
            | inl here ↦
                let s = given.exact.stuck ts left here in
                let begun = s.begins in record {
                  front = s.front;
                  rest = s.rest;
                  splits = s.splits;
                  counts = s.counts;
                  begins = (begun.0, begun.1 ∷ [], (s.front ++ begun.0, [], sym (append-nil (s.front ++ begun.0)), begun.2, refl));
                  always = here_stuck stops P item given ts s.front s.rest s.splits going s.always;
                }
            | inr later ↦
                let r = later.0 in
                let a = given.exact.takes ts r.0 r.1 later.1 in
                let token = item_has_token given a.front r.0 a.spells in
                let fewer : length r.1 < n = omega (arith, ap length a.splits, length-append a.front r.1, token) in
                let inner : many_at stops item n r.1 ≡ Err left = with_item_err (many_at stops item n r.1) r.0 left later.2 in
                let s = many_stuck stops P item given n r.1 left fewer inner in
                let begun = s.begins in record {
                  front = a.front ++ s.front;
                  rest = s.rest;
                  splits = a.splits ∙ ap (λ z. a.front ++ z) s.splits ∙ sym (append_assoc a.front s.front s.rest);
                  counts = s.counts;
                  begins = (begun.0, r.0 ∷ begun.1, (a.front, s.front ++ begun.0, append_assoc a.front s.front begun.0, a.spells, begun.2));
                  always = later_stuck stops P item given r.0 a.front s.front s.rest a.spells s.always;
                }
          ]
    ]

exact_many : {W A : Type 0} (stops : List W → Bool) (P : Text W A) (item : Reader W A) → Repeats stops P item
    → Exact (many P) (λ rest. stops rest ≡ true) (all_at stops item)
exact_many stops P item given = record {
  takes = λ ts xs rest took.
      let t = many_takes stops P item given (suc (length ts)) ts xs rest took in
      record { front = t.front; splits = t.splits; spells = t.spells; always = λ other head. t.always other (suc (length (t.front ++ other))) head (omega arith) };
  again = λ front xs rest texts stopped. many_again stops P item given (suc (length (front ++ rest))) front xs rest texts stopped (omega arith);
  stuck = λ ts left err.
      let s = many_stuck stops P item given (suc (length ts)) ts left (omega arith) err in
      record { front = s.front; rest = s.rest; splits = s.splits; counts = s.counts; begins = s.begins; always = λ other head. s.always other (suc (length (s.front ++ other))) head (omega arith) };
  some = ([], [], refl);
}

-- ---- items that begin with a token of their own

lacks_same : {W B : Type 0} (start : W → Option B) (a b : List W) → SameHead a b → lacks start a ≡ lacks start b
lacks_same start [] [] head = refl
lacks_same start [] (t ∷ ts) head = absurd head
lacks_same start (t ∷ ts) [] head = absurd head
lacks_same start (t ∷ ts) (s ∷ ss) head = rw head refl

lacks_from : {W B : Type 0} (start : W → Option B) (rest : List W) → BeginsWithNone start rest → lacks start rest ≡ true
lacks_from start [] none = refl
lacks_from start (t ∷ ts) none = rw none refl

begins_apart : {W A B : Type 0} (start : W → Option B) (Q : B → Text W A) (front : List W) (x : A) (rest : List W) → follow (one start) Q front x → lacks start (front ++ rest) ≡ false
begins_apart start Q front x rest (b, first, text, splits, (t, is_first, means), spells) =
    let whole : front ≡ t ∷ text = splits ∙ ap (λ z. z ++ text) is_first in
    rw (whole, means) refl

pub listed_repeats : {W A B : Type 0} (start : W → Option B) (Q : B → Text W A) (item : Reader W A) → Exact (follow (one start) Q) Anything item → Repeats (lacks start) (follow (one start) Q) item
listed_repeats start Q item given = record {
  exact = given;
  apart = begins_apart start Q;
  looks_at_head = lacks_same start;
  ending = [];
  ends = refl;
}

pub exact_listed : {W A B : Type 0} (start : W → Option B) (Q : B → Text W A) (item : Reader W A) → Exact (follow (one start) Q) Anything item
    → Exact (many (follow (one start) Q)) (BeginsWithNone start) (listed start item)
exact_listed start Q item given = exact_weaker (exact_many (lacks start) (follow (one start) Q) item (listed_repeats start Q item given)) (lacks_from start)
