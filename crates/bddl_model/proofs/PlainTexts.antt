-- A text of lines of words has these words.
use Rattle.std.proofs.Common.{◌≡◌, ℕ, ◌+◌, false, ◌||◌, nat_eq, List, [], ◌∷◌, ◌++◌, map, refl, sym, ap, subst, ◌∙◌, append_assoc}
use Rattle.std.specs.List.{flat_map}
use Rattle.std.proofs.lemmas.Bool.{or_parts}
use Rattle.std.proofs.lemmas.List.{append-nil, map-append}
use Rattle.bddl_model.specs.Bytes.{is_white}
use Rattle.bddl_model.specs.FormulaWords.{Word, word_on, is_comment, lines_of, onto_first, before, runs_from, line_words, lines_words, words_of}
use Rattle.bddl_model.specs.FormulaText.{joined, line_text}

-- no byte is white
abbrev pub NoWhite : List ℕ → Type 0
NoWhite [] = Unit {0}
NoWhite (b ∷ bs) = (is_white b ≡ false) × NoWhite bs

abbrev pub IsWord : List ℕ → Type 0
IsWord [] = ⊥
IsWord (b ∷ bs) = (is_white b ≡ false) × NoWhite bs

abbrev pub AllWords : List (List ℕ) → Type 0
AllWords [] = Unit {0}
AllWords (w ∷ ws) = IsWord w × AllWords ws

-- the first byte is no `c`
abbrev pub NoComment : List ℕ → Type 0
NoComment [] = ⊥
NoComment (b ∷ bs) = nat_eq b 99 ≡ false

abbrev pub IsLine : List (List ℕ) → Type 0
IsLine [] = ⊥
IsLine (w ∷ ws) = NoComment w × IsWord w × AllWords ws

no_white : (w : List ℕ) → IsWord w → NoWhite w
no_white [] h = tt
no_white (b ∷ bs) h = h

-- ---- runs

word_ends : (run w rest : List ℕ) → NoWhite w → runs_from run (w ++ 32 ∷ rest) ≡ before (run ++ w) (runs_from [] rest)
word_ends run [] rest none = ap (λ r. before r (runs_from [] rest)) (sym (append-nil run))
word_ends run (b ∷ w) rest none = rw none.0 (word_ends (run ++ b ∷ []) w rest none.1 ∙ ap (λ r. before r (runs_from [] rest)) (append_assoc run (b ∷ []) w))

last_ends : (run w : List ℕ) → NoWhite w → runs_from run w ≡ before (run ++ w) []
last_ends run [] none = ap (λ r. before r []) (sym (append-nil run))
last_ends run (b ∷ w) none = rw none.0 (last_ends (run ++ b ∷ []) w none.1 ∙ ap (λ r. before r []) (append_assoc run (b ∷ []) w))

before_word : (w : List ℕ) (ws : List (List ℕ)) → IsWord w → before w ws ≡ w ∷ ws
before_word [] ws h = absurd h
before_word (b ∷ w) ws h = refl

joined_runs : (ws : List (List ℕ)) → AllWords ws → runs_from [] (joined ws) ≡ ws
joined_runs [] h = refl
joined_runs (w ∷ []) h = last_ends [] w (no_white w h.0) ∙ before_word w [] h.0
joined_runs (w ∷ v ∷ ws) h = word_ends [] w (joined (v ∷ ws)) (no_white w h.0) ∙ before_word w (runs_from [] (joined (v ∷ ws))) h.0 ∙ ap (λ l. w ∷ l) (joined_runs (v ∷ ws) h.1)

-- ---- lines

no_feed : (b : ℕ) → is_white b ≡ false → nat_eq b 10 ≡ false
no_feed b h = (or_parts (nat_eq b 32 || nat_eq b 9 || nat_eq b 13) (nat_eq b 10) h).1

no_blank : (b : ℕ) → is_white b ≡ false → (nat_eq b 32 || nat_eq b 9) ≡ false
no_blank b h = (or_parts (nat_eq b 32 || nat_eq b 9) (nat_eq b 13) (or_parts (nat_eq b 32 || nat_eq b 9 || nat_eq b 13) (nat_eq b 10) h).0).0

abbrev NoFeed : List ℕ → Type 0
NoFeed [] = Unit {0}
NoFeed (b ∷ bs) = (nat_eq b 10 ≡ false) × NoFeed bs

feeds_from : (w rest : List ℕ) → NoWhite w → NoFeed rest → NoFeed (w ++ rest)
feeds_from [] rest a b = b
feeds_from (x ∷ w) rest a b = (no_feed x a.0, feeds_from w rest a.1 b)

joined_feeds : (ws : List (List ℕ)) → AllWords ws → NoFeed (joined ws)
joined_feeds [] h = tt
joined_feeds (w ∷ []) h = subst (λ l. NoFeed l) (append-nil w) (feeds_from w [] (no_white w h.0) tt)
joined_feeds (w ∷ v ∷ ws) h = feeds_from w (32 ∷ joined (v ∷ ws)) (no_white w h.0) (refl, joined_feeds (v ∷ ws) h.1)

first_line : (l rest : List ℕ) → NoFeed l → lines_of (l ++ 10 ∷ rest) ≡ l ∷ lines_of rest
first_line [] rest h = refl
first_line (b ∷ l) rest h = rw h.0 (ap (onto_first b) (first_line l rest h.1))

not_comment : (ws : List (List ℕ)) → IsLine ws → is_comment (joined ws) ≡ false
not_comment [] h = absurd h
not_comment ([] ∷ ws) h = absurd h.0
not_comment ((b ∷ w) ∷ []) h = rw (no_blank b h.1.0) h.0
not_comment ((b ∷ w) ∷ v ∷ ws) h = rw (no_blank b h.1.0) h.0

abbrev pub AllLines : List (List (List ℕ)) → Type 0
AllLines [] = Unit {0}
AllLines (l ∷ ls) = IsLine l × AllLines ls

all_words : (ws : List (List ℕ)) → IsLine ws → AllWords ws
all_words [] h = tt
all_words (w ∷ ws) h = (h.1, h.2)

texts : (n : ℕ) (ws : List (List ℕ)) → map (λ (w : Word). w.text) (map (word_on n) ws) ≡ ws
texts n [] = refl
texts n (w ∷ ws) = ap (λ l. w ∷ l) (texts n ws)

line_read : (n : ℕ) (ws : List (List ℕ)) → IsLine ws → map (λ (w : Word). w.text) (line_words n (joined ws)) ≡ ws
line_read n ws h = rw (not_comment ws h, joined_runs ws (all_words ws h)) (texts n ws)

lines_read : (n : ℕ) (ls : List (List (List ℕ))) → AllLines ls → map (λ (w : Word). w.text) (lines_words n (lines_of (flat_map line_text ls))) ≡ flat_map (λ l. l) ls
lines_read n [] h = refl
lines_read n (l ∷ ls) h =
    ap (λ (x : List ℕ). map (λ (w : Word). w.text) (lines_words n (lines_of x))) (append_assoc (joined l) (10 ∷ []) (flat_map line_text ls))
    ∙ ap (λ x. map (λ (w : Word). w.text) (lines_words n x)) (first_line (joined l) (flat_map line_text ls) (joined_feeds l (all_words l h.0)))
    ∙ map-append (λ (w : Word). w.text) (line_words n (joined l)) (lines_words (n + 1) (lines_of (flat_map line_text ls)))
    ∙ ap (λ x. x ++ map (λ (w : Word). w.text) (lines_words (n + 1) (lines_of (flat_map line_text ls)))) (line_read n l h.0)
    ∙ ap (λ x. l ++ x) (lines_read (n + 1) ls h.1)

-- a text of lines has the words of its lines
pub words_read : (ls : List (List (List ℕ))) → AllLines ls → map (λ (w : Word). w.text) (words_of (flat_map line_text ls)) ≡ flat_map (λ l. l) ls
words_read ls h = lines_read 1 ls h
