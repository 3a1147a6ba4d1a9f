-- Which words are numbers.
use Rattle.std.proofs.Common.{ℕ, ◌≡◌, ◌+◌, ◌<◌, ◌≤◌, ◌^◌, Bool, true, false, ◌&&◌, nat_lt, List, [], ◌∷◌, ◌++◌, length, drop, get_or, map, Option, None, Some, Ok, refl, sym, ap, ◌∙◌, append_assoc, if◌then◌else◌}
use Rattle.std.specs.Prelude.{bytes_eq}
use Rattle.std.specs.Fmt.{decimal}
use Rattle.std.specs.Str.Parse.{ParsesUnsigned}
use Rattle.std.proofs.lemmas.Fmt.{parse-decimal}
use Rattle.std.proofs.lemmas.Bool.{and_from, and_parts, lt-ltb, ltb-true}
use Rattle.std.proofs.lemmas.List.{append-nil, drop_all, drop_more}
use Rattle.std.proofs.lemmas.Slice.Eq.{bytes_eq-Decides}
use Rattle.bddl_model.specs.Bytes.{digits_from}
use Rattle.bddl_model.specs.Request.{number_in_word, number_written, numbers_in_words, onto_numbers}
use Rattle.bddl_model.proofs.PlainTokens.{decimal_value}

pub number_found : (word : List ℕ) (n : ℕ) → n < 2 ^ 64 → word ≡ decimal n → number_in_word word ≡ Some n
number_found word n fits e = ap (number_written word) (ap (digits_from 0) (e ∙ sym (append-nil (decimal n))) ∙ decimal_value n fits []) ∙ rw (and_from (bytes_eq word (decimal n)) (nat_lt n (2 ^ 64)) ((bytes_eq-Decides word (decimal n)).1 e) (lt-ltb n (2 ^ 64) fits)) refl

pub no_number : (word : List ℕ) → ((n : ℕ) → n < 2 ^ 64 → word ≡ decimal n → ⊥) → number_in_word word ≡ None
no_number word none = at (digits_from 0 word)
  where
    test : (n : ℕ) (b : Bool) → (bytes_eq word (decimal n) && nat_lt n (2 ^ 64)) ≡ b → (if b then Some n else None) ≡ None
    test n false e = refl
    test n true e = let parts = and_parts (bytes_eq word (decimal n)) (nat_lt n (2 ^ 64)) e in absurd (none n (ltb-true n (2 ^ 64) parts.1) ((bytes_eq-Decides word (decimal n)).0 parts.0))

    at : (digits : Option ℕ) → number_written word digits ≡ None
    at None = refl
    at (Some n) = test n _ refl

pub same_number : {n m most : ℕ} → n ≡ m → m < most → n < most
same_number e h = rw e h

pub only_parsed : (m n : ℕ) (bytes : List ℕ) → n < 2 ^ 64 → bytes ≡ decimal n → ParsesUnsigned {E = Unit {0}} 64 10 bytes (Ok m) → m ≡ n
only_parsed m n bytes fits e h = let same = parse-decimal {E = Unit {0}} 64 n bytes (Ok m) fits fits e h in cc

-- ---- all words

-- those of the words that are left, behind others
abbrev pub behind : List ℕ → Option (List ℕ) → Option (List ℕ)
behind done None = None
behind done (Some ns) = Some (done ++ ns)

module _ {W : Type 0} (bytes_of : W → List ℕ) (words : List W) (i : ℕ) (w : W) (same : w ≡ get_or words i w) (inside : i < length words) where
  left : map bytes_of (drop i words) ≡ bytes_of w ∷ map bytes_of (drop (i + 1) words)
  left = ap (map bytes_of) (drop_more words i w inside ∙ ap (λ v. v ∷ drop (i + 1) words) (sym same))

  pub one_number_more : (done : List ℕ) (n : ℕ) → number_in_word (bytes_of w) ≡ Some n → behind (done ++ n ∷ []) (numbers_in_words (map bytes_of (drop (i + 1) words))) ≡ behind done (numbers_in_words (map bytes_of (drop i words)))
  one_number_more done n e = at (numbers_in_words (map bytes_of (drop (i + 1) words))) ∙ sym (ap (λ ws. behind done (numbers_in_words ws)) left ∙ ap (λ m. behind done (onto_numbers m (numbers_in_words (map bytes_of (drop (i + 1) words))))) e)
    where
      at : (rest : Option (List ℕ)) → behind (done ++ n ∷ []) rest ≡ behind done (onto_numbers (Some n) rest)
      at None = refl
      at (Some ns) = ap Some (append_assoc done (n ∷ []) ns)

  pub no_number_more : (done : List ℕ) → number_in_word (bytes_of w) ≡ None → behind done (numbers_in_words (map bytes_of (drop i words))) ≡ None
  no_number_more done e = ap (λ ws. behind done (numbers_in_words ws)) left ∙ ap (λ m. behind done (onto_numbers m (numbers_in_words (map bytes_of (drop (i + 1) words))))) e

pub all_numbers : {W : Type 0} (bytes_of : W → List ℕ) (words : List W) (i : ℕ) (done : List ℕ) → length words ≤ i → behind done (numbers_in_words (map bytes_of (drop i words))) ≡ Some done
all_numbers bytes_of words i done past = ap (λ ws. behind done (numbers_in_words (map bytes_of ws))) (drop_all i words past) ∙ ap Some (append-nil done)
