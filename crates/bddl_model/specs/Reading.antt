-- What it is to read a text of a grammar: the tree, or the first fault.
use Rattle.std.specs.Prelude.{ℕ, ◌≡◌, ◌+◌, ◌==◌, not, ◌⊎◌, List, length, take, reverse, count_by, Some, Result, Err, slice_get}
use Rattle.bddl_model.specs.declared.texts.Place.{Place}
use Rattle.bddl_model.specs.declared.tokens.Token.{Token}
use Rattle.bddl_model.specs.declared.fault.ReadFault.{ReadFault}
use Rattle.bddl_model.specs.declared.fault.ReadFault.TheVariants as fault
use Rattle.bddl_model.specs.Tokens.{Lexeme, Tokens, LexFails, AreTokens, lexemes, run_len}
use Rattle.bddl_model.specs.GrammarWords.{Begins}

-- the place of the byte of this number: one line more than line feeds before it, one column more than bytes since the last of them
abbrev pub place_at : List ℕ → ℕ → Place
place_at bytes at = record { line = 1 + count_by (λ b. b == 10) (take at bytes); column = 1 + run_len (λ b. not (b == 10)) (reverse (take at bytes)) }

-- the text's tokens spell this
abbrev pub Reads : {A : Type 0} → (List Lexeme → A → Type 0) → List ℕ → A → Type 0
Reads grammar bytes x = (ws : List Lexeme) × Tokens bytes ws × grammar ws x

-- the tokens before this one begin a text, and with it they begin none
abbrev pub IsUnexpected : {A : Type 0} → (List Lexeme → A → Type 0) → List ℕ → ℕ → Place → Type 0
IsUnexpected grammar bytes n place =
    (ts : List Token) × (t : Token) × AreTokens bytes ts × (slice_get ts n ≡ Some t) × (place ≡ place_at bytes t.start)
    × Begins grammar (take n (lexemes bytes ts)) × (Begins grammar (take (n + 1) (lexemes bytes ts)) → ⊥)

-- the tokens begin a text, and are none
abbrev pub EndsTooEarly : {A : Type 0} → (List Lexeme → A → Type 0) → List ℕ → Place → Type 0
EndsTooEarly {A} grammar bytes place =
    (ws : List Lexeme) × Tokens bytes ws × Begins grammar ws × ((x : A) → grammar ws x → ⊥) × (place ≡ place_at bytes (length bytes))

-- the text can't be read for this fault, which is the first
abbrev pub ReadFails : {A : Type 0} → (List Lexeme → A → Type 0) → List ℕ → ReadFault → Type 0
ReadFails grammar bytes (fault.Lex f) = LexFails bytes f
ReadFails grammar bytes (fault.Unexpected n place) = IsUnexpected grammar bytes n place
ReadFails grammar bytes (fault.EndsEarly place) = EndsTooEarly grammar bytes place
ReadFails grammar bytes fault.NoMemory = ⊥

-- the result is this one, unless memory ran out
abbrev pub UnlessNoMemory : {A : Type 0} → Result A ReadFault → Result A ReadFault → Type 0
UnlessNoMemory result wanted = (result ≡ wanted) ⊎ (result ≡ Err fault.NoMemory)
