-- What the lexer answers, from what it found.
use Rattle.std.proofs.Common.{◌≡◌, ℕ, List, Result, Ok, Err, ap, inl, inr, ◌⊎◌}
use Rattle.std.specs.Prelude.{IfOk, IfErr}
use Rattle.std.specs.Global.{Vec}
use Rattle.bddl_model.specs.declared.tokens.Token.{Token}
use Rattle.bddl_model.specs.declared.tokens.LexFault.{LexFault}
use Rattle.bddl_model.specs.declared.tokens.LexFault.TheVariants.{NoMemory}
use Rattle.bddl_model.specs.Tokens.{Lexeme, Tokens, AreTokens, LexFails, lexemes}
use Rattle.bddl_lexer.proofs.OneReading.{one_spelling, tokens_or_fault, one_fault}

pub only : (bytes : List ℕ) (r : Result (Vec Token) LexFault) → IfOk r (λ ts. AreTokens bytes ts.items) → (ws : List Lexeme) → Tokens bytes ws → IfOk r (λ ts. lexemes bytes ts.items ≡ ws)
only bytes (Ok ts) found ws h = one_spelling bytes (lexemes bytes ts.items) ws found.1 h
only bytes (Err e) found ws h = tt

pub never : (bytes : List ℕ) (r : Result (Vec Token) LexFault) → IfErr r (λ f. (f ≡ NoMemory) ⊎ LexFails bytes f) → (ws : List Lexeme) → Tokens bytes ws → IfErr r (λ f. f ≡ NoMemory)
never bytes (Ok ts) fault ws h = tt
never bytes (Err f) (inl memory) ws h = memory
never bytes (Err f) (inr k) ws h = absurd (tokens_or_fault bytes ws f h k)

pub exact : (bytes : List ℕ) (r : Result (Vec Token) LexFault) → IfOk r (λ ts. AreTokens bytes ts.items) → IfErr r (λ f. (f ≡ NoMemory) ⊎ LexFails bytes f) → (f : LexFault) → LexFails bytes f → (r ≡ Err f) ⊎ (r ≡ Err NoMemory)
exact bytes (Ok ts) found fault f h = absurd (tokens_or_fault bytes (lexemes bytes ts.items) f found.1 h)
exact bytes (Err e) found (inl memory) f h = inr (ap Err memory)
exact bytes (Err e) found (inr k) f h = inl (ap Err (one_fault bytes e f k h))
