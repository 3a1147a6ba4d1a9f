-- What is answered, from what the reading of the tokens gave.
use Rattle.std.proofs.Common.{◌≡◌, ℕ, zero, suc, ◌+◌, ◌-◌, ◌<◌, ◌≤◌, List, [], ◌∷◌, length, take, Option, Some, None, Result, Ok, Err, refl, sym, ap, subst, arith, inl, inr, ◌⊎◌, slice_get}
use Rattle.std.specs.Prelude.{IfOk, IfErr}
use Rattle.std.proofs.lemmas.List.{length-map, take_all}
use Rattle.std.proofs.lemmas.Option.{slice_get_within}
use Rattle.bddl_model.specs.declared.tokens.Token.{Token}
use Rattle.bddl_model.specs.declared.fault.ReadFault.{ReadFault}
use Rattle.bddl_model.specs.declared.fault.ReadFault.TheVariants as fault
use Rattle.bddl_model.specs.GrammarWords.{Begins}
use Rattle.bddl_model.specs.Tokens.{Lexeme, AreTokens, Placed, lexemes, lexeme_of}
use Rattle.bddl_model.specs.Reading.{place_at, Reads, ReadFails, UnlessNoMemory}
use Rattle.bddl_reader.specs.declared.stop.Stop.{Stop}
use Rattle.bddl_reader.specs.declared.stop.Stop.TheVariants.{NoMemory, Stuck}
use Rattle.bddl_reader.specs.ListReaders.{Reader}
use Rattle.bddl_reader.specs.Gives.{Stops}
use Rattle.bddl_reader.specs.Faults.{token_fault, stop_fault, left_at}
use Rattle.bddl_reader.proofs.Exact.{Text, Exact}
use Rattle.bddl_reader.proofs.ExactWhole.{IsEnd, IsStuck, whole_takes, whole_stuck, one_value}
use Rattle.bddl_reader.proofs.Faults.{tree_or_fault, one_read_fault}
use Rattle.bddl_lexer.proofs.OneReading.{one_spelling}

-- ---- places of tokens

placed_room : (bytes : List ℕ) (n : ℕ) (ts : List Token) → Placed bytes n ts → n ≤ length bytes → n + length ts ≤ length bytes
placed_room bytes n [] placed room = omega arith
placed_room bytes n (t ∷ ts) placed room =
    let more = placed_room bytes t.end ts placed.5 placed.3 in
    let first = placed.0 in
    let some = placed.2 in
    omega arith

-- a text has no more tokens than bytes
pub tokens_within : (bytes : List ℕ) (ts : List Token) → AreTokens bytes ts → length ts ≤ length bytes
tokens_within bytes ts placed = let room = placed_room bytes 0 ts placed.0 (omega arith) in omega arith

placed_start : (bytes : List ℕ) (n : ℕ) (ts : List Token) (k : ℕ) (t : Token) → Placed bytes n ts → slice_get ts k ≡ Some t → t.start < length bytes
placed_start bytes n [] k t placed has = absurd cc
placed_start bytes n (s ∷ ts) zero t placed has =
    let same : s ≡ t = cc in
    let some = placed.2 in
    let within = placed.3 in
    let here : s.start < length bytes = omega arith in
    subst (λ (z : Token). z.start < length bytes) same here
placed_start bytes n (s ∷ ts) (suc k) t placed has = placed_start bytes s.end ts k t placed.5 has

pub token_start : (bytes : List ℕ) (ts : List Token) (k : ℕ) (t : Token) → AreTokens bytes ts → slice_get ts k ≡ Some t → t.start < length bytes
token_start bytes ts k t placed has = placed_start bytes 0 ts k t placed.0 has

-- ---- from tokens to texts

pub read_found : {A : Type 0} {P : Text Lexeme A} {at : Reader Lexeme A} → Exact P IsEnd at → (bytes : List ℕ) (ts : List Token) (x : A) → AreTokens bytes ts → at (lexemes bytes ts) ≡ Ok (x, []) → Reads P bytes x
read_found given bytes ts x placed took = (lexemes bytes ts, placed.1, whole_takes given (lexemes bytes ts) x took)

pub stop_within : {A : Type 0} {P : Text Lexeme A} {at : Reader Lexeme A} → Exact P IsEnd at → (bytes : List ℕ) (ts : List Token) (stop : Stop) → Stops stop (at (lexemes bytes ts)) → left_at stop ≤ length ts
stop_within given bytes ts NoMemory stopped = omega arith
stop_within given bytes ts (Stuck left) stopped =
    let s = whole_stuck given (lexemes bytes ts) left stopped in
    let within = s.within in
    omega (arith, length-map ts (lexeme_of bytes))

cases_slice_get : (ts : List Token) (k : ℕ) → ((t : Token) × (slice_get ts k ≡ Some t)) ⊎ ((slice_get ts k ≡ None) × (length ts ≤ k))
cases_slice_get [] k = inr (refl, omega arith)
cases_slice_get (t ∷ ts) zero = inl (t, refl)
cases_slice_get (t ∷ ts) (suc k) = elim (cases_slice_get ts k) [ inl some ↦ inl some | inr none ↦ inr (none.0, omega (arith, none.1)) ]

stuck_fails : {A : Type 0} (P : Text Lexeme A) (bytes : List ℕ) (ts : List Token) (left n : ℕ) → AreTokens bytes ts → IsStuck P (lexemes bytes ts) left → length ts ≡ length (lexemes bytes ts) → n ≡ length ts - left
    → ReadFails P bytes (token_fault bytes (slice_get ts n) n)
stuck_fails P bytes ts left n placed s lengths number =
    elim (cases_slice_get ts n) [
      | inl some ↦
          let within = s.within in
          let inside = slice_get_within ts n some.0 some.1 in
          let left_some : 0 < left = omega arith in
          let count : n ≡ length (lexemes bytes ts) - left = omega arith in
          let fails : ReadFails P bytes (fault.Unexpected n (place_at bytes some.0.start)) =
          (ts, some.0, placed, some.1, refl, subst (λ k. Begins P (take k (lexemes bytes ts))) (sym count) s.before, subst (λ k. Begins P (take (k + 1) (lexemes bytes ts)) → ⊥) (sym count) (s.next left_some)) in
          subst (λ (o : Option Token). ReadFails P bytes (token_fault bytes o n)) (sym some.1) fails
      | inr none ↦
          let whole : length (lexemes bytes ts) - left ≡ length (lexemes bytes ts) = omega (arith, none.1) in
          let begun : Begins P (lexemes bytes ts) = subst (Begins P) (take_all (length (lexemes bytes ts) - left) (lexemes bytes ts) (omega (arith, whole))) s.before in
          let fails : ReadFails P bytes (fault.EndsEarly (place_at bytes (length bytes))) = (lexemes bytes ts, placed.1, begun, s.none, refl) in
          subst (λ (o : Option Token). ReadFails P bytes (token_fault bytes o n)) (sym none.0) fails
    ]

pub stop_fails : {A : Type 0} {P : Text Lexeme A} {at : Reader Lexeme A} → Exact P IsEnd at → (bytes : List ℕ) (ts : List Token) (stop : Stop) → AreTokens bytes ts → Stops stop (at (lexemes bytes ts))
    → (stop_fault bytes ts stop ≡ fault.NoMemory) ⊎ ReadFails P bytes (stop_fault bytes ts stop)
stop_fails given bytes ts NoMemory placed stopped = inl refl
stop_fails {P = P} given bytes ts (Stuck left) placed stopped =
    inr (stuck_fails P bytes ts left (length ts - left) placed (whole_stuck given (lexemes bytes ts) left stopped) (sym (length-map ts (lexeme_of bytes))) refl)

-- ---- nothing else is answered

one_tree : {A : Type 0} {P : Text Lexeme A} {at : Reader Lexeme A} → Exact P IsEnd at → (bytes : List ℕ) (x y : A) → Reads P bytes x → Reads P bytes y → x ≡ y
one_tree {P = P} given bytes x y (ws, spelled, text) (vs, others, other) =
    one_value given ws x y text (subst (λ (z : List Lexeme). P z y) (sym (one_spelling bytes ws vs spelled others)) other)

pub only : {A : Type 0} {P : Text Lexeme A} {at : Reader Lexeme A} → Exact P IsEnd at → (bytes : List ℕ) (r : Result A ReadFault)
    → IfOk r (Reads P bytes) → IfErr r (λ f. (f ≡ fault.NoMemory) ⊎ ReadFails P bytes f) → (x : A) → Reads P bytes x → UnlessNoMemory r (Ok x)
only given bytes (Ok y) found failed x reads = inl (ap Ok (one_tree given bytes y x found reads))
only given bytes (Err f) found (inl none) x reads = inr (ap Err none)
only {P = P} given bytes (Err f) found (inr fails) x reads = absurd (tree_or_fault P bytes x f reads fails)

pub exact : {A : Type 0} (P : Text Lexeme A) (bytes : List ℕ) (r : Result A ReadFault)
    → IfOk r (Reads P bytes) → IfErr r (λ f. (f ≡ fault.NoMemory) ⊎ ReadFails P bytes f) → (f : ReadFault) → ReadFails P bytes f → UnlessNoMemory r (Err f)
exact P bytes (Ok y) found failed f fails = absurd (tree_or_fault P bytes y f found fails)
exact P bytes (Err g) found (inl none) f fails = inr (ap Err none)
exact P bytes (Err g) found (inr other) f fails = inl (ap Err (one_read_fault P bytes g f other fails))
