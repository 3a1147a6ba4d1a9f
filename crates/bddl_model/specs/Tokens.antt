-- The tokens of a domain or problem text.
use Rattle.std.specs.Prelude.{◌≡◌, ℕ, suc, ◌+◌, ◌-◌, ◌<◌, ◌≤◌, Bool, true, false, not, ◌&&◌, ◌||◌, ◌==◌, nat_le, List, [], ◌∷◌, ◌++◌, length, take, drop, map, Result, Ok, Err, IsTrue, if◌then◌else◌}
use Rattle.bddl_model.specs.declared.tokens.TokenKind.{TokenKind}
use Rattle.bddl_model.specs.declared.tokens.TokenKind.TheVariants.{Left, Right, Comma, Plus, Minus, VarX, VarY, Hash, Colon, Name, Number}
use Rattle.bddl_model.specs.declared.tokens.TokenFault.{TokenFault}
use Rattle.bddl_model.specs.declared.tokens.TokenFault.TheVariants.{BadByte, NameTooLong, NumberTooLong}
use Rattle.bddl_model.specs.declared.tokens.LexFault.{LexFault}
use Rattle.bddl_model.specs.declared.tokens.LexFault.TheVariants as lex
use Rattle.bddl_model.specs.declared.tokens.Token.{Token}
use Rattle.bddl_model.specs.Bytes.{is_white, is_letter, is_digit, is_name_byte}

-- a token as it is spelled
pub record Lexeme : Type 0 where
  pub kind : TokenKind
  pub text : List ℕ

-- ---- bytes at the front

-- how many bytes from the front on are such
abbrev pub run_len : (ℕ → Bool) → List ℕ → ℕ
run_len p [] = 0
run_len p (b ∷ bs) = if p b then suc (run_len p bs) else 0

abbrev pub begins_with_letter : List ℕ → Bool
begins_with_letter [] = false
begins_with_letter (b ∷ bs) = is_letter b

-- ---- the token at the front: its kind and how many bytes it has

-- some bytes, and behind them a run of name bytes
abbrev pub named : TokenKind → ℕ → ℕ → Result (TokenKind × ℕ) TokenFault
named kind before run = if nat_le run 32 then Ok (kind, before + run) else Err NameTooLong

abbrev pub numbered : ℕ → Result (TokenKind × ℕ) TokenFault
numbered run = if nat_le run 9 then Ok (Number, run) else Err NumberTooLong

-- `x` or `y` behind a `?`
abbrev pub variable_of : ℕ → Result (TokenKind × ℕ) TokenFault
variable_of b = if b == 120 then Ok (VarX, 2) else (if b == 121 then Ok (VarY, 2) else Err BadByte)

abbrev pub variable_at : List ℕ → Result (TokenKind × ℕ) TokenFault
variable_at [] = Err BadByte
variable_at (b ∷ bs) = variable_of b

-- a name behind a `#` or a `:`
abbrev pub marked_at : TokenKind → List ℕ → Result (TokenKind × ℕ) TokenFault
marked_at kind bs = if begins_with_letter bs then named kind 1 (run_len is_name_byte bs) else Err BadByte

-- in this order: ( ) , + - ? # : and then letters and digits
abbrev pub token_from : ℕ → List ℕ → Result (TokenKind × ℕ) TokenFault
token_from b bs =
    if b == 40 then Ok (Left, 1) else (
    if b == 41 then Ok (Right, 1) else (
    if b == 44 then Ok (Comma, 1) else (
    if b == 43 then Ok (Plus, 1) else (
    if b == 45 then Ok (Minus, 1) else (
    if b == 63 then variable_at bs else (
    if b == 35 then marked_at Hash bs else (
    if b == 58 then marked_at Colon bs else (
    if is_letter b then named Name 0 (run_len is_name_byte (b ∷ bs)) else (
    if is_digit b then numbered (run_len is_digit (b ∷ bs)) else Err BadByte)))))))))

abbrev pub token_at : List ℕ → Result (TokenKind × ℕ) TokenFault
token_at [] = Err BadByte
token_at (b ∷ bs) = token_from b bs

-- the bytes of the lexeme are a token, as long as it can be before the rest
abbrev pub IsLexeme : Lexeme → List ℕ → Type 0
IsLexeme w rest = token_at (w.text ++ rest) ≡ Ok (w.kind, length w.text)

-- ---- the whole text

-- White space and comments. A comment runs from a `;` up to a line feed; the last one may end where the text does.
abbrev pub is_gap : Bool → Bool → List ℕ → Bool
is_gap last commenting [] = last || not commenting
is_gap last true (b ∷ bs) = is_gap last (not (b == 10)) bs
is_gap last false (b ∷ bs) = if b == 59 then is_gap last true bs else (is_white b && is_gap last false bs)

-- a byte at which a token has to begin
abbrev pub begins_token : List ℕ → Bool
begins_token [] = false
begins_token (b ∷ bs) = not (is_white b || b == 59)

-- the bytes are these lexemes in order, with white space and comments between them, and then the rest
abbrev pub Leads : List ℕ → List Lexeme → List ℕ → Type 0
Leads bytes [] rest = bytes ≡ rest
Leads bytes (w ∷ ws) rest = (gap more : List ℕ) × IsTrue (is_gap false false gap) × (bytes ≡ gap ++ (w.text ++ more)) × IsLexeme w more × Leads more ws rest

-- the text is these lexemes, and white space and comments
abbrev pub Tokens : List ℕ → List Lexeme → Type 0
Tokens bytes ws = (rest : List ℕ) × Leads bytes ws rest × IsTrue (is_gap true false rest)

-- behind lexemes, the bytes from number n on are no token, for this reason
abbrev pub Fails : List ℕ → TokenFault → ℕ → Type 0
Fails bytes fault n = (ws : List Lexeme) × (rest gap more : List ℕ) × Leads bytes ws rest × (rest ≡ gap ++ more) × IsTrue (is_gap false false gap) × IsTrue (begins_token more) × (token_at more ≡ Err fault) × (n + length more ≡ length bytes)

-- a text is refused by the lexer for this fault
abbrev pub LexFails : List ℕ → LexFault → Type 0
LexFails bytes (lex.BadByte n) = Fails bytes BadByte n
LexFails bytes (lex.NameTooLong n) = Fails bytes NameTooLong n
LexFails bytes (lex.NumberTooLong n) = Fails bytes NumberTooLong n
LexFails bytes lex.NoMemory = ⊥

-- ---- tokens with their places

abbrev pub spelling : List ℕ → Token → List ℕ
spelling bytes t = take (t.end - t.start) (drop t.start bytes)

abbrev pub lexeme_of : List ℕ → Token → Lexeme
lexeme_of bytes t = record { kind = t.kind; text = spelling bytes t }

abbrev pub lexemes : List ℕ → List Token → List Lexeme
lexemes bytes ts = map (lexeme_of bytes) ts

-- the tokens stand in the text in order, from byte number n on, each behind a gap
abbrev pub Placed : List ℕ → ℕ → List Token → Type 0
Placed bytes n [] = Unit {0}
Placed bytes n (t ∷ ts) =
    (n ≤ t.start) × IsTrue (is_gap false false (take (t.start - n) (drop n bytes)))
    × (t.start < t.end) × (t.end ≤ length bytes) × (token_at (drop t.start bytes) ≡ Ok (t.kind, t.end - t.start)) × Placed bytes t.end ts

-- the tokens of the text; `Tokens` says what stands behind the last of them
abbrev pub AreTokens : List ℕ → List Token → Type 0
AreTokens bytes ts = Placed bytes 0 ts × Tokens bytes (lexemes bytes ts)
