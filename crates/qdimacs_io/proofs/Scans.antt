-- The words and lines of what is left of a text, behind a white byte, a comment and a word.
use Rattle.std.proofs.Common.{◌≡◌, ℕ, zero, suc, ◌+◌, ◌-◌, ◌≤◌, ◌<◌, Bool, true, false, ◌||◌, nat_eq, if◌then◌else◌, List, [], ◌∷◌, ◌++◌, length, map, take, drop, get_or, refl, sym, ap, ap₂, ◌∙◌, inl, inr, arith, append_assoc, length-drop}
use Rattle.std.proofs.lemmas.Bool.{cases_Bool, or_parts, eqb-true}
use Rattle.std.proofs.lemmas.List.{append-nil, take_rest}
use Rattle.bddl_model.specs.Bytes.{is_white}
use Rattle.bddl_model.specs.FormulaWords.{Word, word_on, lines_of, onto_first, before, runs_from, lines_words}
use Rattle.qdimacs_io.specs.Scanning.{line_len, run_len, feeds, shown_words, words_from, IsAtWord}

-- ---- lines

pub lines_are_feeds : (bytes : List ℕ) → length (lines_of bytes) ≡ suc (feeds bytes)
lines_are_feeds [] = refl
lines_are_feeds (b ∷ bs) = elim (cases_Bool (nat_eq b 10)) [
  | inl feed ↦ rw feed (ap suc (lines_are_feeds bs))
  | inr more ↦ rw more (onto b (lines_of bs) (lines_are_feeds bs))
]
  where
    onto : (b : ℕ) (ls : List (List ℕ)) → length ls ≡ suc (feeds bs) → length (onto_first b ls) ≡ suc (feeds bs)
    onto b [] h = absurd (omega arith)
    onto b (l ∷ ls) h = h

pub comment_feeds : (bs : List ℕ) → feeds (drop (line_len bs) bs) ≡ feeds bs
comment_feeds [] = refl
comment_feeds (b ∷ bs) = elim (cases_Bool (nat_eq b 10)) [
  | inl feed ↦ rw feed (rw feed refl)
  | inr more ↦ rw more (comment_feeds bs)
]

-- the lines but the first one
abbrev others : List (List ℕ) → List (List ℕ)
others [] = []
others (l ∷ ls) = ls

some_lines : (bs : List ℕ) → lines_of bs ≡ [] → ⊥
some_lines bs h = let n = lines_are_feeds bs in absurd (let z = ap length h in omega arith)

-- ---- behind a byte that is white

pub behind_feed : (fresh : Bool) (n : ℕ) (bs : List ℕ) → words_from fresh n (10 ∷ bs) ≡ words_from true (n + 1) bs
behind_feed true n bs = refl
behind_feed false n bs = refl

pub behind_return : (fresh : Bool) (n : ℕ) (bs : List ℕ) → words_from fresh n (13 ∷ bs) ≡ words_from false n bs
behind_return fresh n bs = go fresh (lines_of bs) (some_lines bs)
  where
    go : (fresh : Bool) (ls : List (List ℕ)) → (ls ≡ [] → ⊥) → (if fresh then lines_words n (onto_first 13 ls) else shown_words n (onto_first 13 ls)) ≡ shown_words n ls
    go fresh [] some = absurd (some refl)
    go true (l ∷ ls) some = refl
    go false (l ∷ ls) some = refl

not_feed : (b : ℕ) → (nat_eq b 32 || nat_eq b 9) ≡ true → nat_eq b 10 ≡ false
not_feed b h = elim (cases_Bool (nat_eq b 10)) [
  | inr other ↦ other
  | inl feed ↦ absurd (let same = eqb-true b 10 feed in let z = rw same at h in cc)
]

pub behind_blank : (fresh : Bool) (n b : ℕ) (bs : List ℕ) → (nat_eq b 32 || nat_eq b 9) ≡ true → words_from fresh n (b ∷ bs) ≡ words_from fresh n bs
behind_blank fresh n b bs blank = rw (not_feed b blank) (go fresh (lines_of bs) (some_lines bs))
  where
    go : (fresh : Bool) (ls : List (List ℕ)) → (ls ≡ [] → ⊥) → (if fresh then lines_words n (onto_first b ls) else shown_words n (onto_first b ls)) ≡ (if fresh then lines_words n ls else shown_words n ls)
    go fresh [] some = absurd (some refl)
    go true (l ∷ ls) some = rw blank refl
    go false (l ∷ ls) some = rw blank refl

pub blank_feeds : (b : ℕ) (bs : List ℕ) → (nat_eq b 32 || nat_eq b 9) ≡ true → feeds (b ∷ bs) ≡ feeds bs
blank_feeds b bs blank = rw (not_feed b blank) refl

-- ---- behind a comment

line_passed : (n : ℕ) (bs : List ℕ) → lines_words (n + 1) (others (lines_of bs)) ≡ words_from true n (drop (line_len bs) bs)
line_passed n [] = refl
line_passed n (b ∷ bs) = elim (cases_Bool (nat_eq b 10)) [
  | inl feed ↦ rw feed (rw feed refl)
  | inr more ↦ rw more (ap (lines_words (n + 1)) (onto b (lines_of bs)) ∙ line_passed n bs)
]
  where
    onto : (b : ℕ) (ls : List (List ℕ)) → others (onto_first b ls) ≡ others ls
    onto b [] = refl
    onto b (l ∷ ls) = refl

pub behind_comment : (n : ℕ) (bs : List ℕ) → words_from true n (99 ∷ bs) ≡ words_from true n (drop (line_len bs) bs)
behind_comment n bs = go (lines_of bs) (some_lines bs) ∙ line_passed n bs
  where
    go : (ls : List (List ℕ)) → (ls ≡ [] → ⊥) → lines_words n (onto_first 99 ls) ≡ lines_words (n + 1) (others ls)
    go [] some = absurd (some refl)
    go (l ∷ ls) some = refl

-- ---- a word

-- the words of lines, of which the first is no comment and goes on with a word that has begun so
abbrev begun_words : ℕ → List ℕ → List (List ℕ) → List Word
begun_words n run [] = []
begun_words n run (l ∷ ls) = map (word_on n) (runs_from run l) ++ lines_words (n + 1) ls

before_some : (run : List ℕ) (runs : List (List ℕ)) → 0 < length run → before run runs ≡ run ∷ runs
before_some [] runs h = absurd (omega arith)
before_some (b ∷ run) runs h = refl

white_feed : (b : ℕ) → is_white b ≡ false → nat_eq b 10 ≡ false
white_feed b h = (or_parts (nat_eq b 32 || nat_eq b 9 || nat_eq b 13) (nat_eq b 10) h).1

word_begun : (n : ℕ) (run bs : List ℕ) → 0 < length run + run_len bs → begun_words n run (lines_of bs) ≡ word_on n (run ++ take (run_len bs) bs) ∷ shown_words n (lines_of (drop (run_len bs) bs))
word_begun n run [] some = rw (before_some run [] (omega arith), append-nil run) refl
word_begun n run (b ∷ bs) some = elim (cases_Bool (is_white b)) [
  | inl white ↦ rw white (rw (append-nil run) (elim (cases_Bool (nat_eq b 10)) [
    | inl feed ↦ rw feed (rw (before_some run [] (let z = rw white at some in omega arith)) refl)
    | inr more ↦ rw more (ended b white (lines_of bs) (some_lines bs) (let z = rw white at some in omega arith))
  ]))
  | inr none ↦ rw none (rw (white_feed b none) (goes b none (lines_of bs) (some_lines bs) ∙ word_begun n (run ++ b ∷ []) bs (longer run b) ∙ ap (λ w. word_on n w ∷ shown_words n (lines_of (drop (run_len bs) bs))) (append_assoc run (b ∷ []) (take (run_len bs) bs))))
]
  where
    ended : (b : ℕ) → is_white b ≡ true → (ls : List (List ℕ)) → (ls ≡ [] → ⊥) → 0 < length run → begun_words n run (onto_first b ls) ≡ word_on n run ∷ shown_words n (onto_first b ls)
    ended b white [] some long = absurd (some refl)
    ended b white (l ∷ ls) some long = rw white (rw (before_some run (runs_from [] l) long) refl)

    goes : (b : ℕ) → is_white b ≡ false → (ls : List (List ℕ)) → (ls ≡ [] → ⊥) → begun_words n run (onto_first b ls) ≡ begun_words n (run ++ b ∷ []) ls
    goes b none [] some = absurd (some refl)
    goes b none (l ∷ ls) some = rw none refl

    longer : (run : List ℕ) (b : ℕ) → 0 < length (run ++ b ∷ []) + run_len bs
    longer [] b = omega arith
    longer (x ∷ run) b = omega arith

shown_is_begun : (n : ℕ) (ls : List (List ℕ)) → shown_words n ls ≡ begun_words n [] ls
shown_is_begun n [] = refl
shown_is_begun n (l ∷ ls) = refl

-- where a word begins the line is no comment
pub not_comment : (fresh : Bool) (n : ℕ) (bs : List ℕ) → IsAtWord fresh bs → words_from fresh n bs ≡ shown_words n (lines_of bs)
not_comment false n bs at = refl
not_comment true n [] at = refl
not_comment true n (b ∷ bs) at = rw (white_feed b at.0) (go (lines_of bs) (some_lines bs))
  where
    no_blank : (nat_eq b 32 || nat_eq b 9) ≡ false
    no_blank = (or_parts (nat_eq b 32 || nat_eq b 9) (nat_eq b 13) (or_parts (nat_eq b 32 || nat_eq b 9 || nat_eq b 13) (nat_eq b 10) at.0).0).0

    no_c : nat_eq b 99 ≡ false
    no_c = elim (cases_Bool (nat_eq b 99)) [
      | inr other ↦ other
      | inl c ↦ absurd (let z = rw c at at.1 in cc)
    ]

    go : (ls : List (List ℕ)) → (ls ≡ [] → ⊥) → lines_words n (onto_first b ls) ≡ shown_words n (onto_first b ls)
    go [] some = absurd (some refl)
    go (l ∷ ls) some = rw (no_blank, no_c) refl

pub next_word : (fresh : Bool) (n : ℕ) (bs : List ℕ) → IsAtWord fresh bs → 0 < run_len bs → words_from fresh n bs ≡ word_on n (take (run_len bs) bs) ∷ words_from false n (drop (run_len bs) bs)
next_word fresh n bs at some = not_comment fresh n bs at ∙ shown_is_begun n (lines_of bs) ∙ word_begun n [] bs (omega arith)

-- no word begins where the text ended
pub no_word : (fresh : Bool) (n : ℕ) (bs : List ℕ) → IsAtWord fresh bs → run_len bs ≡ 0 → (words_from fresh n bs ≡ []) × (feeds bs ≡ 0)
no_word true n [] at none = (refl, refl)
no_word false n [] at none = (refl, refl)
no_word fresh n (b ∷ bs) at none = absurd (let z = rw at.0 at none in omega arith)

pub word_feeds : (bs : List ℕ) → feeds (drop (run_len bs) bs) ≡ feeds bs
word_feeds [] = refl
word_feeds (b ∷ bs) = elim (cases_Bool (is_white b)) [
  | inl white ↦ rw white refl
  | inr none ↦ rw (none, white_feed b none) (word_feeds bs)
]

-- ---- the same as the code has it

pub comment_gone : (fresh : Bool) (n e : ℕ) (rest inner : List ℕ) → fresh ≡ true → 1 ≤ length rest → get_or rest 0 0 ≡ 99 → inner ≡ take (length rest - 1) (drop 1 rest) → e ≡ line_len inner
    → (words_from true n (take (length inner - e) (drop e inner)) ≡ words_from fresh n rest) × (n + feeds (take (length inner - e) (drop e inner)) ≡ n + feeds rest) × (length (take (length inner - e) (drop e inner)) ≤ length rest)
comment_gone fresh n e [] inner f some c is len = absurd (omega arith)
comment_gone fresh n e (b ∷ bs) inner f some c is len =
    let inner_is : inner ≡ bs = is ∙ take_rest (b ∷ bs) 1 in
    let left : take (length inner - e) (drop e inner) ≡ drop (line_len bs) bs = take_rest inner e ∙ ap₂ (λ (k : ℕ) (l : List ℕ). drop k l) (len ∙ ap line_len inner_is) inner_is in
    let c_is : b ≡ 99 = c in
    rw (left, f, c_is) (sym (behind_comment n bs), ap (λ k. n + k) (comment_feeds bs), (let short = length-drop (line_len bs) bs in omega arith))

some_run : (run : ℕ) (text bs : List ℕ) → text ≡ take run bs → false ≡ nat_eq (length text) 0 → 0 < run
some_run zero text bs front some = absurd (let z = rw front at some in cc)
some_run (suc run) text bs front some = omega arith

pub word_found : (fresh : Bool) (n run : ℕ) (bs text behind : List ℕ) (all : List Word) → IsAtWord fresh bs → run ≡ run_len bs → text ≡ take run bs → behind ≡ drop run bs → false ≡ nat_eq (length text) 0
    → words_from fresh n bs ≡ all → all ≡ word_on n text ∷ words_from false n behind
word_found fresh n run bs text behind all at len front back some is =
    sym is ∙ next_word fresh n bs at (let s = some_run run text bs front some in omega arith)
    ∙ ap (λ (k : ℕ). word_on n (take k bs) ∷ words_from false n (drop k bs)) (sym len)
    ∙ ap₂ (λ (t b : List ℕ). word_on n t ∷ words_from false n b) (sym front) (sym back)

pub feeds_behind : (run : ℕ) (bs behind : List ℕ) → run ≡ run_len bs → behind ≡ drop run bs → feeds behind ≡ feeds bs
feeds_behind run bs behind len back = ap feeds (back ∙ ap (λ (k : ℕ). drop k bs) len) ∙ word_feeds bs

pub shorter_behind : (run : ℕ) (bs text behind : List ℕ) → text ≡ take run bs → behind ≡ drop run bs → false ≡ nat_eq (length text) 0 → run ≤ length bs → length behind < length bs
shorter_behind run bs text behind front back some within = let s = some_run run text bs front some in let d = length-drop run bs in rw back (omega arith)
