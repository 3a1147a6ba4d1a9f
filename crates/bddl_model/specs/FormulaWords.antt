-- The words of a formula text, each with the number of its line.
use Rattle.std.specs.Prelude.{ℕ, Bool, true, false, ◌||◌, ◌==◌, if◌then◌else◌, ◌+◌, List, [], ◌∷◌, ◌++◌, length, map, codes, bytes_eq, Option, None, Some}
use Rattle.bddl_model.specs.declared.formula.Quant.{Quant}
use Rattle.bddl_model.specs.declared.formula.Quant.TheVariants.{Exists, All}
use Rattle.bddl_model.specs.Bytes.{is_white, digits_value}

pub record Word : Type 0 where
  pub line : ℕ
  pub text : List ℕ

abbrev pub onto_first : ℕ → List (List ℕ) → List (List ℕ)
onto_first b [] = (b ∷ []) ∷ []
onto_first b (l ∷ ls) = (b ∷ l) ∷ ls

-- the lines of a text, without their line feeds
abbrev pub lines_of : List ℕ → List (List ℕ)
lines_of [] = [] ∷ []
lines_of (b ∷ bs) = if b == 10 then [] ∷ lines_of bs else onto_first b (lines_of bs)

-- the first byte behind spaces and tabs is `c`
abbrev pub is_comment : List ℕ → Bool
is_comment [] = false
is_comment (b ∷ bs) = if b == 32 || b == 9 then is_comment bs else b == 99

-- a run that is not empty stands before the others
abbrev pub before : List ℕ → List (List ℕ) → List (List ℕ)
before [] runs = runs
before (b ∷ bs) runs = (b ∷ bs) ∷ runs

-- the longest runs of bytes that are not white, the first of which has begun so
abbrev pub runs_from : List ℕ → List ℕ → List (List ℕ)
runs_from run [] = before run []
runs_from run (b ∷ bs) = if is_white b then before run (runs_from [] bs) else runs_from (run ++ b ∷ []) bs

abbrev pub word_on : ℕ → List ℕ → Word
word_on n text = record { line = n; text = text }

abbrev pub line_words : ℕ → List ℕ → List Word
line_words n line = if is_comment line then [] else map (word_on n) (runs_from [] line)

-- the words of lines, the first of which has this number
abbrev pub lines_words : ℕ → List (List ℕ) → List Word
lines_words n [] = []
lines_words n (l ∷ ls) = line_words n l ++ lines_words (n + 1) ls

abbrev pub words_of : List ℕ → List Word
words_of bytes = lines_words 1 (lines_of bytes)

-- the number of the last line, which may be empty
abbrev pub last_line : List ℕ → ℕ
last_line bytes = length (lines_of bytes)

-- ---- what a word is

pub data FormulaToken : Type 0 where
  problem : FormulaToken
  cnf : FormulaToken
  quantifier : Quant → FormulaToken
  -- whether it has a minus, and its size
  number : Bool → ℕ → FormulaToken
  other : FormulaToken

abbrev pub plain : Option ℕ → FormulaToken
plain None = other
plain (Some n) = number false n

-- 0 has no minus
abbrev pub negative : Option ℕ → FormulaToken
negative None = other
negative (Some n) = if n == 0 then other else number true n

abbrev pub number_token : List ℕ → FormulaToken
number_token [] = other
number_token (b ∷ bs) = if b == 45 then negative (digits_value bs) else plain (digits_value (b ∷ bs))

abbrev pub token_of : List ℕ → FormulaToken
token_of text =
    if bytes_eq text (codes "p") then problem else (
    if bytes_eq text (codes "cnf") then cnf else (
    if bytes_eq text (codes "a") then quantifier All else (
    if bytes_eq text (codes "e") then quantifier Exists else number_token text)))
