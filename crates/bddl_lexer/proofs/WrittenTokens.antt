-- Names and numbers that are written are tokens, and white space may stand before them.
use Rattle.std.proofs.Common.{◌≡◌, ℕ, suc, ◌<◌, ◌≤◌, Bool, true, false, ◌&&◌, ◌||◌, not, eqb, nat_eq, nat_le, List, [], ◌∷◌, ◌++◌, length, Ok, refl, sym, ap, ◌∙◌, append_assoc, zero-add, arith, inl, inr}
use Rattle.std.specs.List.{list_all}
use Rattle.std.specs.Fmt.{decimal}
use Rattle.std.proofs.lemmas.Bool.{cases_Bool, and_parts, or_left, or_right, ne_eqb, le-leb, lt-leb, leb-true}
use Rattle.std.proofs.lemmas.Fmt.{decimal_nonempty, length-decimal-le}
use Rattle.bddl_model.specs.declared.tokens.TokenKind.TheVariants.{Name, Number}
use Rattle.bddl_model.specs.Bytes.{is_white, is_letter, is_digit, is_name_byte}
use Rattle.bddl_model.specs.Forms.{AllPass}
use Rattle.bddl_model.specs.Meanings.{is_name}
use Rattle.bddl_model.specs.Tokens.{Lexeme, run_len, named, numbered, token_from, token_at, IsLexeme, is_gap, Tokens}
use Rattle.bddl_model.proofs.PlainTokens.{decimal_digits}

-- ---- runs

passes : (test : ℕ → Bool) (xs : List ℕ) → list_all test xs ≡ true → AllPass test xs
passes test [] h = tt
passes test (x ∷ xs) h = let p = and_parts (test x) (list_all test xs) h in (p.0, passes test xs p.1)

run_whole : (test : ℕ → Bool) (xs rest : List ℕ) → AllPass test xs → run_len test rest ≡ 0 → run_len test (xs ++ rest) ≡ length xs
run_whole test [] rest all ends = ends
run_whole test (x ∷ xs) rest all ends = rw all.0 (ap suc (run_whole test xs rest all.1 ends))

-- no name byte is next, so that a name or a number ends
abbrev pub EndsWord : List ℕ → Type 0
EndsWord rest = run_len is_name_byte rest ≡ 0

digit_in_name : (b : ℕ) → is_digit b ≡ true → is_name_byte b ≡ true
digit_in_name b digit = or_left (is_letter b || is_digit b || eqb b 95) (eqb b 45) (or_left (is_letter b || is_digit b) (eqb b 95) (or_right (is_letter b) (is_digit b) digit))

ends_number : (rest : List ℕ) → EndsWord rest → run_len is_digit rest ≡ 0
ends_number [] ends = refl
ends_number (b ∷ rest) ends =
    elim (cases_Bool (is_digit b)) [
      | inl digit ↦ absurd (let more = rw (digit_in_name b digit) at ends in cc)
      | inr other ↦ rw other refl
    ]

-- ---- the first byte

-- what passes a test is no byte that fails it
apart : (test : ℕ → Bool) (b c : ℕ) → test b ≡ true → test c ≡ false → eqb b c ≡ false
apart test b c passed failed = ne_eqb b c (λ same. absurd (let both = ap test same in cc))

letter_begins : (b : ℕ) (bs : List ℕ) → is_letter b ≡ true → token_from b bs ≡ named Name 0 (run_len is_name_byte (b ∷ bs))
letter_begins b bs letter =
    rw (apart is_letter b 40 letter refl, apart is_letter b 41 letter refl, apart is_letter b 44 letter refl, apart is_letter b 43 letter refl, apart is_letter b 45 letter refl, apart is_letter b 63 letter refl, apart is_letter b 35 letter refl, apart is_letter b 58 letter refl, letter) refl

digit_is_no_letter : (b : ℕ) → is_digit b ≡ true → is_letter b ≡ false
digit_is_no_letter b digit =
    let most = leb-true b 57 (and_parts (nat_le 48 b) (nat_le b 57) digit).1 in
    rw (lt-leb 65 b (omega arith), lt-leb 97 b (omega arith)) refl

digit_begins : (b : ℕ) (bs : List ℕ) → is_digit b ≡ true → token_from b bs ≡ numbered (run_len is_digit (b ∷ bs))
digit_begins b bs digit =
    rw (apart is_digit b 40 digit refl, apart is_digit b 41 digit refl, apart is_digit b 44 digit refl, apart is_digit b 43 digit refl, apart is_digit b 45 digit refl, apart is_digit b 63 digit refl, apart is_digit b 35 digit refl, apart is_digit b 58 digit refl, digit_is_no_letter b digit, digit) refl

-- ---- names and numbers

pub name_token : (text rest : List ℕ) → is_name text ≡ true → EndsWord rest → token_at (text ++ rest) ≡ Ok (Name, length text)
name_token [] rest named_so ends = absurd cc
name_token (b ∷ bs) rest named_so ends =
    let letter = and_parts (is_letter b) (list_all is_name_byte (b ∷ bs) && nat_le (length (b ∷ bs)) 32) named_so in
    let more = and_parts (list_all is_name_byte (b ∷ bs)) (nat_le (length (b ∷ bs)) 32) letter.1 in
    let run = run_whole is_name_byte (b ∷ bs) rest (passes is_name_byte (b ∷ bs) more.0) ends in
    letter_begins b (bs ++ rest) letter.0 ∙ ap (named Name 0) run ∙ rw (more.1, zero-add) refl

digits_token : (ds rest : List ℕ) → AllPass is_digit ds → 0 < length ds → length ds ≤ 9 → EndsWord rest → token_at (ds ++ rest) ≡ Ok (Number, length ds)
digits_token [] rest all some few ends = absurd (omega arith)
digits_token (d ∷ ds) rest all some few ends =
    digit_begins d (ds ++ rest) all.0 ∙ ap numbered (run_whole is_digit (d ∷ ds) rest all (ends_number rest ends)) ∙ rw (le-leb (length (d ∷ ds)) 9 few) refl

pub decimal_token : (n : ℕ) (rest : List ℕ) → n < 1000000000 → EndsWord rest → token_at (decimal n ++ rest) ≡ Ok (Number, length (decimal n))
decimal_token n rest short ends =
    digits_token (decimal n) rest (decimal_digits n (omega arith)) (decimal_nonempty n (omega arith)) (length-decimal-le 9 n (omega arith) (omega arith) (omega arith)) ends

-- ---- the tokens of a text that grows at its front

pub no_tokens : Tokens [] []
no_tokens = ([], refl, refl)

pub behind_token : (w : Lexeme) (rest : List ℕ) (ws : List Lexeme) → IsLexeme w rest → Tokens rest ws → Tokens (w.text ++ rest) (w ∷ ws)
behind_token w rest ws is tokens = (tokens.0, ([], rest, refl, refl, is, tokens.1), tokens.2)

gap_goes_on : (last commenting : Bool) (gap more : List ℕ) → is_gap false commenting gap ≡ true → is_gap last false more ≡ true → is_gap last commenting (gap ++ more) ≡ true
gap_goes_on last true [] more gap_is more_is = absurd cc
gap_goes_on last false [] more gap_is more_is = more_is
gap_goes_on last true (b ∷ gap) more gap_is more_is = gap_goes_on last (not (nat_eq b 10)) gap more gap_is more_is
gap_goes_on last false (b ∷ gap) more gap_is more_is =
    elim (cases_Bool (eqb b 59)) [
      | inl comment ↦ rw comment (gap_goes_on last true gap more (rw comment at gap_is) more_is)
      | inr other ↦
          let parts = and_parts (is_white b) (is_gap false false gap) (rw other at gap_is) in
          rw (other, parts.0) (gap_goes_on last false gap more parts.1 more_is)
    ]

pub behind_gap : (gap rest : List ℕ) (ws : List Lexeme) → is_gap false false gap ≡ true → Tokens rest ws → Tokens (gap ++ rest) ws
behind_gap gap rest [] gap_is (left, same, ended) = (gap ++ rest, refl, gap_goes_on true false gap rest gap_is (rw same ended))
behind_gap gap rest (w ∷ ws) gap_is (left, (first, more, first_is, splits, is, leads), ended) =
    (left, (gap ++ first, more, gap_goes_on false false gap first gap_is first_is, ap (λ z. gap ++ z) splits ∙ sym (append_assoc gap first (w.text ++ more)), is, leads), ended)
