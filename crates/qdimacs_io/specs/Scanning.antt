-- What is left of a formula text behind a front of its bytes, and how far lines and words go.
use Rattle.std.specs.Prelude.{ℕ, suc, ◌≡◌, ◌+◌, ◌≤◌, ◌==◌, Bool, false, ◌&&◌, if◌then◌else◌, List, [], ◌∷◌, ◌++◌, map, length}
use Rattle.bddl_model.specs.Bytes.{is_white}
use Rattle.bddl_model.specs.FormulaWords.{Word, word_on, lines_of, runs_from, lines_words, FormulaToken, problem, cnf, quantifier, number, other}
use Rattle.qdimacs_io.specs.declared.tokens.Token.{Token}
use Rattle.qdimacs_io.specs.declared.tokens.Token.TheVariants.{Problem, Cnf, Quantifier, Number, Other}
use Rattle.qdimacs_io.specs.declared.words.Position.{Position}

-- how many bytes stand before the first line feed
abbrev pub line_len : List ℕ → ℕ
line_len [] = 0
line_len (b ∷ bs) = if b == 10 then 0 else suc (line_len bs)

-- how many bytes that aren't white stand in front
abbrev pub run_len : List ℕ → ℕ
run_len [] = 0
run_len (b ∷ bs) = if is_white b then 0 else suc (run_len bs)

-- how many line feeds there are
abbrev pub feeds : List ℕ → ℕ
feeds [] = 0
feeds (b ∷ bs) = if b == 10 then suc (feeds bs) else feeds bs

-- the words of lines, of which the first has this number and is no comment
abbrev pub shown_words : ℕ → List (List ℕ) → List Word
shown_words n [] = []
shown_words n (l ∷ ls) = map (word_on n) (runs_from [] l) ++ lines_words (n + 1) ls

-- the words of what is left, on line n; on a fresh line, where only spaces and tabs stood so far, it may begin with a comment
abbrev pub words_from : Bool → ℕ → List ℕ → List Word
words_from fresh n bytes = if fresh then lines_words n (lines_of bytes) else shown_words n (lines_of bytes)

-- a word begins here, or the text ends
abbrev pub IsAtWord : Bool → List ℕ → Type 0
IsAtWord fresh [] = Unit {0}
IsAtWord fresh (b ∷ bs) = (is_white b ≡ false) × ((b == 99 && fresh) ≡ false)

-- what a scanner tells of the rest of a text
pub record Remaining : Type 0 where
  pub words : List Word
  -- the line on which it stands, and the last one
  pub line : ℕ
  pub last : ℕ
  pub bytes : ℕ

abbrev pub remaining : Position → Remaining
remaining p = record { words = words_from p.fresh p.line p.rest.now; line = p.line; last = p.line + feeds p.rest.now; bytes = length p.rest.now }

-- a position further on, with the same words still to come
pub record PassesGap (old new : Position) : Type 0 where
  pub words : (remaining new).words ≡ (remaining old).words
  pub last : (remaining new).last ≡ (remaining old).last
  pub shorter : length new.rest.now ≤ length old.rest.now
  pub fits : length new.rest.now + new.line ≤ length old.rest.now + old.line

abbrev pub token_view : Token → FormulaToken
token_view Problem = problem
token_view Cnf = cnf
token_view (Quantifier q) = quantifier q
token_view (Number negated size) = number negated size
token_view Other = other
