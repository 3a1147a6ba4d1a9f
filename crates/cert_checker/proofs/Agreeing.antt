-- What the table says once some namings were seen.
use Rattle.std.proofs.Common.{◌≡◌, ◌≢◌, ℕ, zero, suc, ◌<◌, Bool, true, false, ◌&&◌, List, [], ◌∷◌, ◌++◌, length, refl, sym, ap, subst, ◌∙◌, arith, append_assoc, ◌⊎◌, inl, inr}
use Rattle.std.specs.Prelude.{if◌then◌else◌, ◌==◌, nat_lt, slice_set, Option, Some, None}
use Rattle.std.specs.List.{list_all}
use Rattle.std.proofs.lemmas.Bool.{and_parts, and_from, cases_Bool}
use Rattle.std.proofs.lemmas.Bool.Decides.{nat_tests}
use Rattle.std.proofs.lemmas.List.{get_or-set_same, get_or-set_other, length-set, append-nil}
use Rattle.std.proofs.lemmas.List.Folds.{list_all-append}
use Rattle.bddl_model.specs.declared.game.Move.{Move}
use Rattle.bddl_model.specs.declared.certificate.Answered.{Answered}
use Rattle.bddl_model.specs.Setup.{Setup}
use Rattle.bddl_model.specs.CertificateGraph.{Links, Naming, naming_of, named_by, namings, first_naming, is_later}
use Rattle.bddl_model.specs.Certificate.{Place, place, behind, same_place, leads_to}
use Rattle.cert_checker.specs.declared.known.Known.{Known}
use Rattle.cert_checker.specs.declared.known.Known.TheVariants.{Unnamed, First, Two}
use Rattle.cert_checker.specs.Places.{Table, known_at, place_in}
use Rattle.cert_checker.specs.Checking.{after_naming, with_answers}
use Rattle.bddl_model.proofs.PlaceTests.{equal_numbers, numbers_equal, place_itself}
use Rattle.bddl_model.proofs.FirstNamings.{first_gives, first_is_later, place_named, place_unnamed, apart, apart_none, apart_leads, none_apart}
use Rattle.cert_checker.proofs.Standing.{IsBackward, step_first, step_start}

-- what the table says of node m, once these namings were seen
abbrev pub expected_of : Bool → Option Naming → Known
expected_of all None = Unnamed
expected_of all (Some w) = if all then First w.from w.mv else Two

abbrev pub expected : Setup → Links → List Naming → ℕ → Known
expected s ls seen m = expected_of (list_all (leads_to s ls m) seen) (first_naming m seen)

abbrev pub or_else : Option Naming → Option Naming → Option Naming
or_else None o = o
or_else (Some w) o = Some w

-- the first naming among two lists
pub first_append : (m : ℕ) (xs ys : List Naming) → first_naming m (xs ++ ys) ≡ or_else (first_naming m xs) (first_naming m ys)
first_append m [] ys = refl
first_append m (x ∷ xs) ys = step (x.to == m) (first_append m xs ys)
  where
    step : (b : Bool) → first_naming m (xs ++ ys) ≡ or_else (first_naming m xs) (first_naming m ys) → (if b then Some x else first_naming m (xs ++ ys)) ≡ or_else (if b then Some x else first_naming m xs) (first_naming m ys)
    step true e = refl
    step false e = e

found : (o : Option Naming) → (o ≡ None) ⊎ ((w : Naming) × (o ≡ Some w))
found None = inl refl
found (Some w) = inr (w, refl)

-- what the table says once these namings were seen; the nodes below n have no two places, and are named by no naming that is still to come
pub record Agrees (s : Setup) (ls : Links) (n : ℕ) (seen : List Naming) (t : Table) : Type 0 where
  pub entries : (m : ℕ) → known_at t m ≡ expected s ls seen m
  pub size : length t ≡ length ls
  pub order : list_all (is_later (length ls)) (namings ls) ≡ true
  pub after : List Naming
  pub whole : namings ls ≡ seen ++ after
  pub apart_after : (m : ℕ) → m < n → list_all (apart m) after ≡ true
  pub clear : (m : ℕ) → m < n → list_all (leads_to s ls m) (namings ls) ≡ true
  pub froms : list_all (λ w. nat_lt w.from n) seen ≡ true

is_first : (all : Bool) (o : Option Naming) (from : ℕ) (mv : Move) → expected_of all o ≡ First from mv → (w : Naming) × (o ≡ Some w) × (w.from ≡ from) × (w.mv ≡ mv)
is_first all None from mv e = absurd cc
is_first true (Some w) from mv e = (w, refl, cc, cc)
is_first false (Some w) from mv e = absurd cc

module _ (s : Setup) (ls : Links) (n : ℕ) (seen : List Naming) (t : Table) (a : Agrees s ls n seen t) where
  seen_first : (m : ℕ) (w : Naming) → first_naming m seen ≡ Some w → first_naming m (namings ls) ≡ Some w
  seen_first m w e = ap (first_naming m) a.whole ∙ first_append m seen a.after ∙ ap (λ o. or_else o (first_naming m a.after)) e

  low_first : (m : ℕ) → m < n → first_naming m (namings ls) ≡ first_naming m seen
  low_first m lt = ap (first_naming m) a.whole ∙ first_append m seen a.after ∙ (let none = apart_none m a.after (a.apart_after m lt) in rw none (or_none (first_naming m seen)))
    where
      or_none : (o : Option Naming) → or_else o None ≡ o
      or_none None = refl
      or_none (Some w) = refl

  low_leads : (m : ℕ) → m < n → list_all (leads_to s ls m) (namings ls) ≡ list_all (leads_to s ls m) seen
  low_leads m lt = ap (list_all (leads_to s ls m)) a.whole ∙ list_all-append (leads_to s ls m) seen a.after ∙ (let all = apart_leads s ls m a.after (a.apart_after m lt) in rw all (and_true (list_all (leads_to s ls m) seen)))
    where
      and_true : (b : Bool) → (b && true) ≡ b
      and_true true = refl
      and_true false = refl

  pub backward : IsBackward t
  backward m from mv e =
      let w = is_first (list_all (leads_to s ls m) seen) (first_naming m seen) from mv (sym (a.entries m) ∙ e) in
      let lt = first_is_later (length ls) m (namings ls) w.0 a.order (seen_first m w.0 w.1) in
      omega (arith, lt, w.2)

  -- the entry of a node below n
  pub low_entry : (m : ℕ) → m < n → known_at t m ≡ expected_of true (first_naming m (namings ls))
  low_entry m lt = a.entries m ∙ (let all = sym (low_leads m lt) ∙ a.clear m lt in let first = low_first m lt in rw (all, first) refl)

  pub low_place : (bound m : ℕ) → m < bound → m < n → place_in s t m ≡ place s ls m
  low_place zero m lt below = absurd (omega arith)
  low_place (suc bound) m lt below =
      elim (found (first_naming m (namings ls))) [
        | inl none ↦
            let entry : known_at t m ≡ Unnamed = low_entry m below ∙ ap (expected_of true) none in
            step_start s t m (λ from mv e. unnamed_first from mv (sym entry ∙ e)) ∙ sym (place_unnamed s ls m none)
        | inr some ↦
            let entry : known_at t m ≡ First some.0.from some.0.mv = low_entry m below ∙ ap (expected_of true) some.1 in
            let less = first_is_later (length ls) m (namings ls) some.0 a.order some.1 in
            step_first s t m some.0.from some.0.mv backward entry ∙ ap (λ p. behind s.game p some.0.mv) (low_place bound some.0.from (omega (arith, less)) (omega (arith, less))) ∙ sym (place_named (length ls) s ls m some.0 a.order some.1)
      ]
    where
      unnamed_first : (from : ℕ) (mv : Move) → Unnamed ≡ First from mv → ⊥
      unnamed_first from mv e = absurd cc

  -- also of a node further on that one naming was seen of
  pub first_place : (m from : ℕ) (mv : Move) → known_at t m ≡ First from mv → place_in s t m ≡ place s ls m
  first_place m from mv e =
      let w = is_first (list_all (leads_to s ls m) seen) (first_naming m seen) from mv (sym (a.entries m) ∙ e) in
      let entry : known_at t m ≡ First w.0.from w.0.mv = cc in
      let below = (first_gives (λ v. nat_lt v.from n) m seen w.0 a.froms w.1).1 in
      let lt : w.0.from < n = grind (arith, nat_tests) in
      step_first s t m w.0.from w.0.mv backward entry ∙ ap (λ p. behind s.game p w.0.mv) (low_place (suc w.0.from) w.0.from (omega arith) lt) ∙ sym (place_named (length ls) s ls m w.0 a.order (seen_first m w.0 w.1))

-- the entry of a node after one more naming of it
module _ (s : Setup) (ls : Links) (seen : List Naming) (t : Table) (n : ℕ) (ans : Answered) (here : Place) (is_here : here ≡ place s ls n) where
  abbrev this : Naming
  this = naming_of n ans

  leads_same : leads_to s ls ans.next.0 this ≡ same_place (behind s.game here ans.mv) (place s ls ans.next.0)
  leads_same = (let t = numbers_equal ans.next.0 ans.next.0 refl in rw (t, is_here) refl)

  first_entry : first_naming ans.next.0 seen ≡ None → place s ls ans.next.0 ≡ behind s.game (place s ls n) ans.mv → expected s ls (seen ++ this ∷ []) ans.next.0 ≡ First n ans.mv
  first_entry none e =
      let same = numbers_equal ans.next.0 ans.next.0 refl in
      let leads : leads_to s ls ans.next.0 this ≡ true = leads_same ∙ ap (λ p. same_place (behind s.game p ans.mv) (place s ls ans.next.0)) is_here ∙ ap (λ q. same_place q (place s ls ans.next.0)) (sym e) ∙ place_itself (place s ls ans.next.0) in
      let all : list_all (leads_to s ls ans.next.0) (seen ++ this ∷ []) ≡ true = list_all-append (leads_to s ls ans.next.0) seen (this ∷ []) ∙ and_from _ _ (apart_leads s ls ans.next.0 seen (none_apart ans.next.0 seen none)) (and_from _ true leads refl) in
      let one : first_naming ans.next.0 (seen ++ this ∷ []) ≡ Some this = first_append ans.next.0 seen (this ∷ []) ∙ (rw (none, same) refl) in
      rw (all, one) refl

  next_entry : (w : Naming) (b c : Bool) → first_naming ans.next.0 seen ≡ Some w → list_all (leads_to s ls ans.next.0) seen ≡ b → same_place (behind s.game here ans.mv) (place s ls ans.next.0) ≡ c
      → expected s ls (seen ++ this ∷ []) ans.next.0 ≡ (if b then (if c then First w.from w.mv else Two) else Two)
  next_entry w b c some all same =
      let more : list_all (leads_to s ls ans.next.0) (seen ++ this ∷ []) ≡ (b && (c && true)) = list_all-append (leads_to s ls ans.next.0) seen (this ∷ []) ∙ (let l = leads_same ∙ same in rw (all, l) refl) in
      let one : first_naming ans.next.0 (seen ++ this ∷ []) ≡ Some w = first_append ans.next.0 seen (this ∷ []) ∙ ap (λ o. or_else o (first_naming ans.next.0 (this ∷ []))) some in
      rw (more, one) (by b c)
    where
      by : (b c : Bool) → (if (b && (c && true)) then First w.from w.mv else Two) ≡ (if b then (if c then First w.from w.mv else Two) else Two)
      by true true = refl
      by true false = refl
      by false c = refl

  other_entry : (m : ℕ) → m ≢ ans.next.0 → expected s ls (seen ++ this ∷ []) m ≡ expected s ls seen m
  other_entry m ne =
      let no_one : (ans.next.0 == m) ≡ false = grind (arith, nat_tests) in
      let all : list_all (leads_to s ls m) (seen ++ this ∷ []) ≡ list_all (leads_to s ls m) seen = list_all-append (leads_to s ls m) seen (this ∷ []) ∙ (rw no_one (and_true (list_all (leads_to s ls m) seen))) in
      let one : first_naming m (seen ++ this ∷ []) ≡ first_naming m seen = first_append m seen (this ∷ []) ∙ (rw no_one (or_none (first_naming m seen))) in
      rw (all, one) refl
    where
      and_true : (b : Bool) → (b && true) ≡ b
      and_true true = refl
      and_true false = refl

      or_none : (o : Option Naming) → or_else o None ≡ o
      or_none None = refl
      or_none (Some w) = refl

  -- the entry that the pass writes is the one that is expected
  written_entry : (later : Agrees s ls (suc n) seen t) → (rest : List Naming) → namings ls ≡ seen ++ this ∷ rest → (k : Known) → known_at t ans.next.0 ≡ k
      → after_naming s t n (behind s.game here ans.mv) ans k ≡ expected s ls (seen ++ this ∷ []) ans.next.0
  written_entry a rest whole k e = by (found (first_naming ans.next.0 seen)) k e
    where
      whole_first : first_naming ans.next.0 seen ≡ None → first_naming ans.next.0 (namings ls) ≡ Some this
      whole_first none = (let same = numbers_equal ans.next.0 ans.next.0 refl in ap (first_naming ans.next.0) whole ∙ first_append ans.next.0 seen (this ∷ rest) ∙ (rw (none, same) refl))

      told : (w : Naming) → first_naming ans.next.0 seen ≡ Some w → (b : Bool) → list_all (leads_to s ls ans.next.0) seen ≡ b → (k : Known) → known_at t ans.next.0 ≡ k → expected_of b (Some w) ≡ k
          → after_naming s t n (behind s.game here ans.mv) ans k ≡ expected s ls (seen ++ this ∷ []) ans.next.0
      told w some true all Unnamed e f = absurd cc
      told w some true all (First from mv) e f =
          let at = first_place s ls (suc n) seen t a ans.next.0 from mv e in
          let same_from : w.from ≡ from = cc in
          let same_mv : w.mv ≡ mv = cc in
          sym (next_entry w true (same_place (behind s.game here ans.mv) (place s ls ans.next.0)) some all refl ∙ (rw (at, same_from, same_mv) refl))
      told w some true all Two e f = absurd cc
      told w some false all Unnamed e f = absurd cc
      told w some false all (First from mv) e f = absurd cc
      told w some false all Two e f = sym (next_entry w false (same_place (behind s.game here ans.mv) (place s ls ans.next.0)) some all refl)

      by : (first_naming ans.next.0 seen ≡ None) ⊎ ((w : Naming) × (first_naming ans.next.0 seen ≡ Some w)) → (k : Known) → known_at t ans.next.0 ≡ k → after_naming s t n (behind s.game here ans.mv) ans k ≡ expected s ls (seen ++ this ∷ []) ans.next.0
      by (inl none) k e =
          let entry : known_at t ans.next.0 ≡ Unnamed = a.entries ans.next.0 ∙ ap (expected_of (list_all (leads_to s ls ans.next.0) seen)) none in
          let un : k ≡ Unnamed = sym e ∙ entry in
          subst (λ (q : Known). after_naming s t n (behind s.game here ans.mv) ans q ≡ expected s ls (seen ++ this ∷ []) ans.next.0) (sym un) (sym (first_entry none (place_named (length ls) s ls ans.next.0 this a.order (whole_first none))))
      by (inr some) k e = told some.0 some.1 (list_all (leads_to s ls ans.next.0) seen) refl k e (ap (expected_of (list_all (leads_to s ls ans.next.0) seen)) (sym some.1) ∙ sym (a.entries ans.next.0) ∙ e)

  pub one_agrees : Agrees s ls (suc n) seen t → (rest : List Naming) → namings ls ≡ seen ++ this ∷ rest → ((m : ℕ) → m < suc n → list_all (apart m) rest ≡ true)
      → Agrees s ls (suc n) (seen ++ this ∷ []) (slice_set t ans.next.0 (after_naming s t n (behind s.game here ans.mv) ans (known_at t ans.next.0)))
  one_agrees a rest whole apart_rest =
      let new = after_naming s t n (behind s.game here ans.mv) ans (known_at t ans.next.0) in
      let split = and_parts _ _ (sym (list_all-append (is_later (length ls)) seen (this ∷ rest)) ∙ ap (list_all (is_later (length ls))) (sym whole) ∙ a.order) in
      let mine = and_parts (is_later (length ls) this) _ split.1 in
      let bounds = and_parts (nat_lt n ans.next.0) (nat_lt ans.next.0 (length ls)) mine.0 in
      let inside : ans.next.0 < length t = below (length ls) (length t) ans.next.0 bounds.1 a.size in
      record {
        entries = λ m. entry m new inside (written_entry a rest whole (known_at t ans.next.0) refl) (cases_Bool (m == ans.next.0));
        size = length-set t ans.next.0 new ∙ a.size;
        order = a.order;
        after = rest;
        whole = whole ∙ sym (append_assoc seen (this ∷ []) rest);
        apart_after = apart_rest;
        clear = a.clear;
        froms = list_all-append (λ w. nat_lt w.from (suc n)) seen (this ∷ []) ∙ and_from _ _ a.froms (and_from (nat_lt n (suc n)) true (less n) refl);
      }
    where
      below : (count len m : ℕ) → nat_lt m count ≡ true → len ≡ count → m < len
      below count len m h e = grind (arith, nat_tests)

      less : (m : ℕ) → nat_lt m (suc m) ≡ true
      less m = grind (arith, nat_tests)

      entry : (m : ℕ) (new : Known) → ans.next.0 < length t → new ≡ expected s ls (seen ++ this ∷ []) ans.next.0 → ((m == ans.next.0) ≡ true) ⊎ ((m == ans.next.0) ≡ false) → known_at (slice_set t ans.next.0 new) m ≡ expected s ls (seen ++ this ∷ []) m
      entry m new inside e (inl yes_same) =
          let i = equal_numbers m ans.next.0 yes_same in
          subst (λ k. known_at (slice_set t ans.next.0 new) k ≡ expected s ls (seen ++ this ∷ []) k) (sym i) (get_or-set_same t ans.next.0 new Unnamed inside ∙ e)
      entry m new inside e (inr not_same) =
          let ne : m ≢ ans.next.0 = differ m ans.next.0 not_same in
          get_or-set_other t ans.next.0 m new Unnamed ne ∙ a.entries m ∙ sym (other_entry m ne)
        where
          differ : (i j : ℕ) → (i == j) ≡ false → i ≢ j
          differ i j h = grind (arith, nat_tests)

-- all answers of a node
pub answers_agree : (s : Setup) (ls : Links) (n : ℕ) (here : Place) → here ≡ place s ls n → (all : List Answered) (seen : List Naming) (t : Table) → Agrees s ls (suc n) seen t → (rest : List Naming) → namings ls ≡ seen ++ (named_by n all ++ rest)
    → ((m : ℕ) → m < suc n → list_all (apart m) (named_by n all ++ rest) ≡ true) → Agrees s ls (suc n) (seen ++ named_by n all) (with_answers s n here all t)
answers_agree s ls n here is_here [] seen t a rest whole apart_rest = subst (λ ws. Agrees s ls (suc n) ws t) (sym (append-nil seen)) a
answers_agree s ls n here is_here (ans ∷ more) seen t a rest whole apart_rest =
    let this = naming_of n ans in
    let b = one_agrees s ls seen t n ans here is_here a (named_by n more ++ rest) whole (λ m lt. (and_parts (apart m this) _ (apart_rest m lt)).1) in
    let c = answers_agree s ls n here is_here more (seen ++ this ∷ []) _ b rest (whole ∙ sym (append_assoc seen (this ∷ []) (named_by n more ++ rest))) (λ m lt. (and_parts (apart m this) _ (apart_rest m lt)).1) in
    subst (λ ws. Agrees s ls (suc n) ws (with_answers s n here (ans ∷ more) t)) (append_assoc seen (this ∷ []) (named_by n more)) c

-- node n has no two places either
pub wider : (s : Setup) (ls : Links) (n : ℕ) (seen : List Naming) (t : Table) (a : Agrees s ls n seen t) (rest : List Naming) → namings ls ≡ seen ++ rest → ((m : ℕ) → m < suc n → list_all (apart m) rest ≡ true)
    → list_all (leads_to s ls n) (namings ls) ≡ true → Agrees s ls (suc n) seen t
wider s ls n seen t a rest whole apart_rest clear =
    record {
      entries = a.entries;
      size = a.size;
      order = a.order;
      after = rest;
      whole = whole;
      apart_after = apart_rest;
      clear = λ m lt. either m lt (cases_Bool (m == n));
      froms = weaker seen a.froms;
    }
  where
    either : (m : ℕ) → m < suc n → ((m == n) ≡ true) ⊎ ((m == n) ≡ false) → list_all (leads_to s ls m) (namings ls) ≡ true
    either m lt (inl same) = (let i = equal_numbers m n same in subst (λ k. list_all (leads_to s ls k) (namings ls) ≡ true) (sym i) clear)
    either m lt (inr other) = (let l : m < n = grind (arith, nat_tests) in a.clear m l)

    weaker : (ws : List Naming) → list_all (λ w. nat_lt w.from n) ws ≡ true → list_all (λ w. nat_lt w.from (suc n)) ws ≡ true
    weaker [] h = refl
    weaker (w ∷ ws) h =
        let u = and_parts (nat_lt w.from n) _ h in
        and_from (nat_lt w.from (suc n)) _ (one w.from u.0) (weaker ws u.1)
      where
        one : (k : ℕ) → nat_lt k n ≡ true → nat_lt k (suc n) ≡ true
        one k h = grind (arith, nat_tests)
