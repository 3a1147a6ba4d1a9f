-- The rules for tokens at their edges.
use Rattle.std.proofs.Common.{◌≡◌, true, false, [], ◌∷◌, ◌++◌, Ok, Err, refl}
use Rattle.std.specs.Prelude.{codes, replicate}
use Rattle.bddl_model.specs.declared.tokens.TokenKind.TheVariants.{Left, VarX, Hash, Name, Number}
use Rattle.bddl_model.specs.declared.tokens.TokenFault.TheVariants.{BadByte, NameTooLong, NumberTooLong}
use Rattle.bddl_model.specs.Tokens.{Lexeme, token_at, is_gap, Tokens}

-- ---- comments

comment_at_the_end : is_gap true false (codes "; end") ≡ true
comment_at_the_end = refl

comment_before_a_token_needs_a_line_feed : is_gap false false (codes "; end") ≡ false
comment_before_a_token_needs_a_line_feed = refl

comment_with_a_line_feed : is_gap false false (codes "; end" ++ 10 ∷ []) ≡ true
comment_with_a_line_feed = refl

comment_goes_on_behind_a_carriage_return : is_gap false false (codes "; end" ++ 13 ∷ []) ≡ false
comment_goes_on_behind_a_carriage_return = refl

abbrev left : Lexeme
left = record { kind = Left; text = codes "(" }

comment_ends_with_the_text : Tokens (codes "(; end") (left ∷ [])
comment_ends_with_the_text = (codes "; end", ([], codes "; end", refl, refl, refl, refl), refl)

token_behind_a_comment : Tokens (codes "; one" ++ 10 ∷ codes "(") (left ∷ [])
token_behind_a_comment = ([], (codes "; one" ++ 10 ∷ [], [], refl, refl, refl, refl), refl)

comment_alone : Tokens (codes "; (") []
comment_alone = (codes "; (", refl, refl)

-- ---- names and numbers

name_of_32_bytes : token_at (replicate 32 97 ++ codes "(") ≡ Ok (Name, 32)
name_of_32_bytes = refl

name_of_33_bytes : token_at (replicate 33 97) ≡ Err NameTooLong
name_of_33_bytes = refl

hash_of_32_bytes_and_its_mark : token_at (codes "#" ++ replicate 32 97) ≡ Ok (Hash, 33)
hash_of_32_bytes_and_its_mark = refl

name_keeps_digits_and_dashes : token_at (codes "x-1_y,") ≡ Ok (Name, 5)
name_keeps_digits_and_dashes = refl

number_of_9_digits : token_at (codes "123456789)") ≡ Ok (Number, 9)
number_of_9_digits = refl

number_of_10_digits : token_at (codes "1234567890") ≡ Err NumberTooLong
number_of_10_digits = refl

number_ends_at_a_letter : token_at (codes "12ab") ≡ Ok (Number, 2)
number_ends_at_a_letter = refl

-- ---- bytes that need another behind them

variable_ends_behind_its_letter : token_at (codes "?xy") ≡ Ok (VarX, 2)
variable_ends_behind_its_letter = refl

no_variable_but_x_and_y : token_at (codes "?z") ≡ Err BadByte
no_variable_but_x_and_y = refl

hash_without_a_letter : token_at (codes "#1") ≡ Err BadByte
hash_without_a_letter = refl

hash_at_the_end : token_at (codes "#") ≡ Err BadByte
hash_at_the_end = refl

colon_before_a_space : token_at (codes ": action") ≡ Err BadByte
colon_before_a_space = refl
