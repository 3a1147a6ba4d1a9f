-- A text has one tree or one fault, in any grammar.
use Rattle.std.proofs.Common.{◌≡◌, ℕ, ◌+◌, ◌<◌, List, [], ◌++◌, take, drop, Option, Some, sym, ap, subst, ◌∙◌, append_assoc, arith, slice_get}
use Rattle.std.proofs.lemmas.List.{append-nil, take-append-drop, take-take}
use Rattle.bddl_model.specs.declared.tokens.Token.{Token}
use Rattle.bddl_model.specs.declared.texts.Place.{Place}
use Rattle.bddl_model.specs.declared.fault.ReadFault.{ReadFault}
use Rattle.bddl_model.specs.declared.fault.ReadFault.TheVariants.{Lex, Unexpected, EndsEarly, NoMemory}
use Rattle.bddl_model.specs.GrammarWords.{Begins}
use Rattle.bddl_model.specs.Tokens.{Lexeme, Tokens, AreTokens, lexemes}
use Rattle.bddl_model.specs.Reading.{place_at, Reads, IsUnexpected, ReadFails}
use Rattle.bddl_lexer.proofs.OneReading.{one_spelling, tokens_or_fault, one_fault}
use Rattle.bddl_lexer.proofs.Placing.{one_placing}
use Rattle.bddl_reader.proofs.Exact.{Text}

-- what begins a text has a front that begins it too
begins_less : {A : Type 0} (P : Text Lexeme A) (front more : List Lexeme) → Begins P (front ++ more) → Begins P front
begins_less P front more begun = (more ++ begun.0, begun.1, subst (λ z. P z begun.1) (append_assoc front more begun.0) begun.2)

begins_take : {A : Type 0} (P : Text Lexeme A) (n : ℕ) (ws : List Lexeme) → Begins P ws → Begins P (take n ws)
begins_take P n ws begun = begins_less P (take n ws) (drop n ws) (subst (Begins P) (sym (take-append-drop n ws)) begun)

-- a token with which the tokens begin no text is not among tokens that begin one
not_before : {A : Type 0} (P : Text Lexeme A) (n m : ℕ) (ws : List Lexeme) → (Begins P (take (n + 1) ws) → ⊥) → Begins P (take m ws) → n < m → ⊥
not_before P n m ws none begun before =
    none (subst (Begins P) (take-take (n + 1) m ws (omega arith)) (begins_take P (n + 1) (take m ws) begun))

text_begins : {A : Type 0} (P : Text Lexeme A) (ws : List Lexeme) (x : A) → P ws x → Begins P ws
text_begins P ws x text = ([], x, subst (λ (z : List Lexeme). P z x) (sym (append-nil ws)) text)

-- ---- the tokens of a text are one list

same_tokens : (bytes : List ℕ) (ts : List Token) (ws : List Lexeme) → AreTokens bytes ts → Tokens bytes ws → ws ≡ lexemes bytes ts
same_tokens bytes ts ws placed spelled = one_spelling bytes ws (lexemes bytes ts) spelled placed.1

unexpected_begins_none : {A : Type 0} (P : Text Lexeme A) (bytes : List ℕ) (n : ℕ) (place : Place) (ws : List Lexeme)
    → IsUnexpected P bytes n place → Tokens bytes ws → Begins P ws → ⊥
unexpected_begins_none P bytes n place ws (ts, t, placed, has, at, before, none) spelled begun =
    none (begins_take P (n + 1) (lexemes bytes ts) (subst (Begins P) (same_tokens bytes ts ws placed spelled) begun))

-- ---- one tree or one fault

pub tree_or_fault : {A : Type 0} (P : Text Lexeme A) (bytes : List ℕ) (x : A) (f : ReadFault) → Reads P bytes x → ReadFails P bytes f → ⊥
tree_or_fault P bytes x (Lex f) (ws, spelled, text) fails = tokens_or_fault bytes ws f spelled fails
tree_or_fault P bytes x (Unexpected n place) (ws, spelled, text) fails = unexpected_begins_none P bytes n place ws fails spelled (text_begins P ws x text)
tree_or_fault P bytes x (EndsEarly place) (ws, spelled, text) (vs, others, begun, none, at) =
    none x (subst (λ (z : List Lexeme). P z x) (one_spelling bytes ws vs spelled others) text)
tree_or_fault P bytes x NoMemory reads fails = fails

not_apart : (n m : ℕ) → (n < m → ⊥) → (m < n → ⊥) → n ≡ m
not_apart n m not_less not_more = omega (arith, not_less, not_more)

same_some : {A : Type 0} (o : Option A) (x y : A) → o ≡ Some x → o ≡ Some y → x ≡ y
same_some o x y is_one is_other = let both = sym is_one ∙ is_other in cc

-- the same tokens, stopped at two of them
same_stop : {A : Type 0} (P : Text Lexeme A) (ws : List Lexeme) (n m : ℕ)
    → Begins P (take n ws) → (Begins P (take (n + 1) ws) → ⊥) → Begins P (take m ws) → (Begins P (take (m + 1) ws) → ⊥) → n ≡ m
same_stop P ws n m begins_one none_one begins_other none_other = not_apart n m (not_before P n m ws none_one begins_other) (not_before P m n ws none_other begins_one)

unexpected_once : {A : Type 0} (P : Text Lexeme A) (bytes : List ℕ) (n m : ℕ) (here there : Place) → IsUnexpected P bytes n here → IsUnexpected P bytes m there → (n ≡ m) × (here ≡ there)
unexpected_once P bytes n m here there (ts, t, placed, has, at, before, none) (us, u, also_placed, has_other, at_other, before_other, none_other) =
    let one_list : us ≡ ts = one_placing bytes us ts also_placed placed in
    let before_here = subst (λ (z : List Token). Begins P (take m (lexemes bytes z))) one_list before_other in
    let none_here = subst (λ (z : List Token). Begins P (take (m + 1) (lexemes bytes z)) → ⊥) one_list none_other in
    let same : n ≡ m = same_stop P (lexemes bytes ts) n m before none before_here none_here in
    let has_same : slice_get ts n ≡ Some u = ap (slice_get ts) same ∙ ap (λ (z : List Token). slice_get z m) (sym one_list) ∙ has_other in
    let token : t ≡ u = same_some (slice_get ts n) t u has has_same in
    (same, at ∙ ap (λ (z : Token). place_at bytes z.start) token ∙ sym at_other)

pub one_read_fault : {A : Type 0} (P : Text Lexeme A) (bytes : List ℕ) (f g : ReadFault) → ReadFails P bytes f → ReadFails P bytes g → f ≡ g
one_read_fault P bytes (Lex f) (Lex g) fails other = ap Lex (one_fault bytes f g fails other)
one_read_fault P bytes (Lex f) (Unexpected m q) fails other = absurd (tokens_or_fault bytes (lexemes bytes other.0) f other.2.1 fails)
one_read_fault P bytes (Lex f) (EndsEarly q) fails other = absurd (tokens_or_fault bytes other.0 f other.1 fails)
one_read_fault P bytes (Unexpected n p) (Lex g) fails other = absurd (tokens_or_fault bytes (lexemes bytes fails.0) g fails.2.1 other)
one_read_fault P bytes (Unexpected n p) (Unexpected m q) fails other = let same = unexpected_once P bytes n m p q fails other in cc
one_read_fault P bytes (Unexpected n p) (EndsEarly q) fails other = absurd (unexpected_begins_none P bytes n p other.0 fails other.1 other.2)
one_read_fault P bytes (EndsEarly p) (Lex g) fails other = absurd (tokens_or_fault bytes fails.0 g fails.1 other)
one_read_fault P bytes (EndsEarly p) (Unexpected m q) fails other = absurd (unexpected_begins_none P bytes m q fails.0 other fails.1 fails.2)
one_read_fault P bytes (EndsEarly p) (EndsEarly q) fails other = ap EndsEarly (fails.4 ∙ sym other.4)
one_read_fault P bytes NoMemory g fails other = absurd fails
one_read_fault P bytes f NoMemory fails other = absurd other
