-- The fault of a text, from the lexer's fault or from where the reading of its tokens stopped.
use Rattle.std.specs.Prelude.{ℕ, ◌-◌, List, length, Option, Some, None, slice_get}
use Rattle.bddl_model.specs.declared.tokens.Token.{Token}
use Rattle.bddl_model.specs.declared.tokens.LexFault.{LexFault}
use Rattle.bddl_model.specs.declared.tokens.LexFault.TheVariants as lex
use Rattle.bddl_model.specs.declared.fault.ReadFault.{ReadFault}
use Rattle.bddl_model.specs.declared.fault.ReadFault.TheVariants as fault
use Rattle.bddl_model.specs.Tokens.{LexFails}
use Rattle.bddl_model.specs.Reading.{place_at}
use Rattle.bddl_reader.specs.declared.stop.Stop.{Stop}
use Rattle.bddl_reader.specs.declared.stop.Stop.TheVariants.{NoMemory, Stuck}

abbrev pub lexer_fault : LexFault → ReadFault
lexer_fault lex.NoMemory = fault.NoMemory
lexer_fault (lex.BadByte n) = fault.Lex (lex.BadByte n)
lexer_fault (lex.NameTooLong n) = fault.Lex (lex.NameTooLong n)
lexer_fault (lex.NumberTooLong n) = fault.Lex (lex.NumberTooLong n)

-- the token of this number is unexpected, or there is none and the text ends early
abbrev pub token_fault : List ℕ → Option Token → ℕ → ReadFault
token_fault bytes (Some t) n = fault.Unexpected n (place_at bytes t.start)
token_fault bytes None n = fault.EndsEarly (place_at bytes (length bytes))

abbrev pub stop_fault : List ℕ → List Token → Stop → ReadFault
stop_fault bytes ts NoMemory = fault.NoMemory
stop_fault bytes ts (Stuck left) = token_fault bytes (slice_get ts (length ts - left)) (length ts - left)

-- how many tokens are left where the reading stopped
abbrev pub left_at : Stop → ℕ
left_at NoMemory = 0
left_at (Stuck left) = left

abbrev pub IsLexerFault : List ℕ → ReadFault → Type 0
IsLexerFault bytes (fault.Lex f) = LexFails bytes f
IsLexerFault bytes _ = ⊥
