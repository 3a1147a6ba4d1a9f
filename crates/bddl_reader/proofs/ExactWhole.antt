-- The end of a text, and what exactness says of a whole one.
use Rattle.std.proofs.Common.{◌≡◌, ℕ, ◌+◌, ◌-◌, take, ◌<◌, ◌≤◌, List, [], ◌∷◌, ◌++◌, length, Ok, Err, refl, sym, ap, subst, ◌∙◌, append_assoc, arith}
use Rattle.std.proofs.lemmas.List.{append-nil, length-append, take_at}
use Rattle.bddl_model.specs.GrammarWords.{done, ended, follow, Begins}
use Rattle.bddl_reader.specs.ListReaders.{Reader, done_at, ◌>>=◌, end_at, ended_at}
use Rattle.bddl_reader.proofs.Exact.{Text, SameHead, Takes, Stuck, Exact, read, read_same, exact_weaker, exact_done, exact_then}

abbrev pub IsEnd : {W : Type 0} → List W → Type 0
IsEnd rest = rest ≡ []

end_stuck_again : {W A : Type 0} (v : A) (t : W) (ts other : List W) → SameHead (t ∷ ts) other → end_at v other ≡ Err (length other)
end_stuck_again v t ts [] head = absurd head
end_stuck_again v t ts (s ∷ other) head = refl

end_again : {W A : Type 0} (v : A) (other : List W) → SameHead [] other → end_at v other ≡ Ok (v, other)
end_again v [] head = refl
end_again v (t ∷ ts) head = absurd head

end_takes : {W A : Type 0} (v : A) (ts : List W) (x : A) (rest : List W) → end_at v ts ≡ Ok (x, rest) → Takes (done v) (end_at v) ts x rest
end_takes {A = A} v [] x rest took =
    let same = read_same v x [] rest took in
    record { front = []; splits = same.1; spells = (refl, sym same.0); always = λ other head. end_again v other (rw same.1 head) ∙ ap (λ (y : A). read y other) same.0 }
end_takes v (t ∷ ts) x rest took = absurd cc

end_stuck : {W A : Type 0} (v : A) (ts : List W) (left : ℕ) → end_at v ts ≡ Err left → Stuck (done v) (end_at v) ts left
end_stuck v [] left err = absurd cc
end_stuck v (t ∷ ts) left err = record { front = []; rest = t ∷ ts; splits = refl; counts = cc; begins = ([], v, (refl, refl)); always = λ other head. end_stuck_again v t ts other head }

exact_end : {W A : Type 0} (v : A) → Exact {W = W} (done v) IsEnd (end_at v)
exact_end v = record {
  takes = end_takes v;
  again = λ front x rest text ended. rw (text.0, text.1, ended) refl;
  stuck = end_stuck v;
  some = ([], v, (refl, refl));
}

nothing_more : {W : Type 0} → Exact {W = W} ended IsEnd ended_at
nothing_more = exact_end tt

pub exact_ended : {W A : Type 0} (v : A) → Exact {W = W} (follow ended (λ u. done v)) IsEnd (ended_at >>= λ u. done_at v)
exact_ended v = exact_then nothing_more (λ u. exact_weaker (exact_done v) (λ rest ended. tt)) (λ u b y rest text ended. rw (text.0, ended) refl)

pub ended_is_nothing : {W A : Type 0} (text : List W) (y : A) (rest : List W) (v : A) → follow ended (λ u. done v) text y → rest ≡ [] → text ++ rest ≡ []
ended_is_nothing text y rest v (u, a, b, splits, at_end, value) ended = rw (splits, at_end.0, value.0, ended) refl

-- ---- a whole text

whole_again : {W A : Type 0} {P : Text W A} {at : Reader W A} → Exact P IsEnd at → (ts : List W) (x : A) → P ts x → at ts ≡ Ok (x, [])
whole_again {at = at} given ts x text = ap at (sym (append-nil ts)) ∙ given.again ts x [] text refl

pub whole_takes : {W A : Type 0} {P : Text W A} {F : List W → Type 0} {at : Reader W A} → Exact P F at → (ts : List W) (x : A) → at ts ≡ Ok (x, []) → P ts x
whole_takes {W} {P = P} given ts x took =
    let t = given.takes ts x [] took in
    subst (λ (z : List W). P z x) (sym (t.splits ∙ append-nil t.front)) t.spells

-- a list of tokens has one value at most
pub one_value : {W A : Type 0} {P : Text W A} {at : Reader W A} → Exact P IsEnd at → (ts : List W) (x y : A) → P ts x → P ts y → x ≡ y
one_value given ts x y text other =
    let same : read x [] ≡ read y [] = sym (whole_again given ts x text) ∙ whole_again given ts y other in
    (read_same x y [] [] same).0

-- so many tokens are left: those before begin a text, with the next one they begin none, and all of them are none
pub record IsStuck {W A : Type 0} (P : Text W A) (ts : List W) (left : ℕ) : Type 0 where
  pub within : left ≤ length ts
  pub before : Begins P (take (length ts - left) ts)
  pub next : 0 < left → Begins P (take (length ts - left + 1) ts) → ⊥
  pub none : (x : A) → P ts x → ⊥

cut_before : {W A : Type 0} {P : Text W A} {at : Reader W A} {ts : List W} {left : ℕ} → Stuck P at ts left → (left ≤ length ts) × Begins P (take (length ts - left) ts)
cut_before {ts = ts} {left = left} s =
    let lengths : length ts ≡ length s.front + left = ap length s.splits ∙ length-append s.front s.rest ∙ ap (λ k. length s.front + k) (sym s.counts) in
    let cut : take (length ts - left) ts ≡ s.front = ap (take (length ts - left)) s.splits ∙ take_at s.front s.rest (length ts - left) (omega arith) in
    (omega arith, rw cut s.begins)

none_goes_on : {W A : Type 0} {P : Text W A} {at : Reader W A} → Exact P IsEnd at
    → (ts front rest : List W) (left : ℕ) → ts ≡ front ++ rest → left ≡ length rest → ((other : List W) → SameHead rest other → at (front ++ other) ≡ Err (length other)) → 0 < left → Begins P (take (length ts - left + 1) ts) → ⊥
none_goes_on given ts front [] left splits counts all some begun = absurd (omega arith)
none_goes_on {P = P} {at = at} given ts front (t ∷ rest) left splits counts all some begun =
    let lengths : length ts ≡ length front + left = ap length splits ∙ length-append front (t ∷ rest) ∙ ap (λ j. length front + j) (sym counts) in
    let count : length (front ++ t ∷ []) ≡ length ts - left + 1 = length-append front (t ∷ []) ∙ omega arith in
    let cut : take (length ts - left + 1) ts ≡ front ++ t ∷ [] = ap (take (length ts - left + 1)) (splits ∙ sym (append_assoc front (t ∷ []) rest)) ∙ take_at (front ++ t ∷ []) rest (length ts - left + 1) count in
    let whole : take (length ts - left + 1) ts ++ begun.0 ≡ front ++ t ∷ begun.0 = ap (λ z. z ++ begun.0) cut ∙ append_assoc front (t ∷ []) begun.0 in
    let reads : at (front ++ t ∷ begun.0) ≡ Ok (begun.1, []) = whole_again given (front ++ t ∷ begun.0) begun.1 (subst (λ z. P z begun.1) whole begun.2) in
    let stops : at (front ++ t ∷ begun.0) ≡ Err (length (t ∷ begun.0)) = all (t ∷ begun.0) refl in
    absurd (let both : Ok (begun.1, []) ≡ Err (length (t ∷ begun.0)) = sym reads ∙ stops in cc)

-- where the reading is stuck
pub whole_stuck : {W A : Type 0} {P : Text W A} {at : Reader W A} → Exact P IsEnd at → (ts : List W) (left : ℕ) → at ts ≡ Err left → IsStuck P ts left
whole_stuck given ts left err =
    let s = given.stuck ts left err in
    let cut = cut_before s in record {
      within = cut.0;
      before = cut.1;
      next = λ some begun. none_goes_on given ts s.front s.rest left s.splits s.counts s.always some begun;
      none = λ x text. let reads = whole_again given ts x text in cc;
    }
