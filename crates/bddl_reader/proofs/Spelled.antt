-- A text spells a value of a grammar, before whatever may come behind it.
use Rattle.std.proofs.Common.{◌≡◌, ℕ, Bool, true, false, List, [], ◌∷◌, ◌++◌, map, Option, Some, refl, subst, append_assoc, inl, inr}
use Rattle.std.specs.List.{flat_map, list_all}
use Rattle.std.proofs.lemmas.Bool.{and_parts}
use Rattle.std.proofs.lemmas.List.{append-nil}
use Rattle.bddl_model.specs.Tokens.{Lexeme, IsLexeme, is_gap, Tokens}
use Rattle.bddl_model.specs.GrammarWords.{done, one, follow, many, optional}
use Rattle.bddl_model.specs.FormulaText.{joined}
use Rattle.bddl_model.specs.Canonical.{line}
use Rattle.bddl_model.specs.Reading.{Reads}
use Rattle.bddl_lexer.proofs.WrittenTokens.{no_tokens, behind_token, behind_gap}
use Rattle.bddl_reader.proofs.Exact.{Text, Anything}

-- B is what may come behind the text
pub record Spells {A : Type 0} (P : Text Lexeme A) (B : List ℕ → Type 0) (text : List ℕ) (x : A) : Type 0 where
  pub tokens : List Lexeme
  pub spells : P tokens x
  pub leads : (rest : List ℕ) (ws : List Lexeme) → B rest → Tokens rest ws → Tokens (text ++ rest) (tokens ++ ws)

pub respelled : {A : Type 0} {P : Text Lexeme A} {B : List ℕ → Type 0} {text other : List ℕ} {x : A} → text ≡ other → Spells P B text x → Spells P B other x
respelled {P = P} {B = B} {x = x} same s = subst (λ z. Spells P B z x) same s

-- ---- words of a grammar

pub spells_done : {A : Type 0} {B : List ℕ → Type 0} (v : A) → Spells (done v) B [] v
spells_done v = record { tokens = []; spells = (refl, refl); leads = λ rest ws behind tokens. tokens }

pub spells_one : {A : Type 0} {B : List ℕ → Type 0} (meaning : Lexeme → Option A) (w : Lexeme) (x : A) → meaning w ≡ Some x → ((rest : List ℕ) → B rest → IsLexeme w rest) → Spells (one meaning) B w.text x
spells_one meaning w x means is = record { tokens = w ∷ []; spells = (w, refl, means); leads = λ rest ws behind tokens. behind_token w rest ws (is rest behind) tokens }

pub spells_then : {A C : Type 0} {P : Text Lexeme A} {Q : A → Text Lexeme C} {B D : List ℕ → Type 0} {text more : List ℕ} {x : A} {y : C}
    → Spells P B text x → Spells (Q x) D more y → ((rest : List ℕ) → D rest → B (more ++ rest)) → Spells (follow P Q) D (text ++ more) y
spells_then {text = text} {more = more} {x = x} s t goes_on = record {
  tokens = s.tokens ++ t.tokens;
  spells = (x, s.tokens, t.tokens, refl, s.spells, t.spells);
  leads = λ rest ws behind tokens. rw (append_assoc text more rest, append_assoc s.tokens t.tokens ws) (s.leads (more ++ rest) (t.tokens ++ ws) (goes_on rest behind) (t.leads rest ws behind tokens));
}

-- where anything may come behind the first
pub spells_seq : {A C : Type 0} {P : Text Lexeme A} {Q : A → Text Lexeme C} {D : List ℕ → Type 0} {text more : List ℕ} {x : A} {y : C}
    → Spells P Anything text x → Spells (Q x) D more y → Spells (follow P Q) D (text ++ more) y
spells_seq s t = spells_then s t (λ rest behind. tt)

-- where nothing is written for the second
pub spells_end : {A C : Type 0} {P : Text Lexeme A} {Q : A → Text Lexeme C} {B : List ℕ → Type 0} {text : List ℕ} {x : A} {y : C}
    → Spells P B text x → Spells (Q x) B [] y → Spells (follow P Q) B text y
spells_end {text = text} s t = respelled (append-nil text) (spells_then s t (λ rest behind. behind))

pub spells_none : {A C : Type 0} {B : List ℕ → Type 0} (sign : Lexeme → Option C) (Q : C → Text Lexeme A) (v : A) → Spells (optional sign Q v) B [] v
spells_none sign Q v = record { tokens = []; spells = inr (refl, refl); leads = λ rest ws behind tokens. tokens }

pub spells_some : {A C : Type 0} {B : List ℕ → Type 0} {sign : Lexeme → Option C} {Q : C → Text Lexeme A} {text : List ℕ} {x : A} (v : A) → Spells (follow (one sign) Q) B text x → Spells (optional sign Q v) B text x
spells_some v s = record { tokens = s.tokens; spells = inl s.spells; leads = s.leads }

-- ---- white space

pub before_gap : {A : Type 0} {P : Text Lexeme A} {B : List ℕ → Type 0} {text : List ℕ} {x : A} → Spells P B text x → (gap : List ℕ) → is_gap false false gap ≡ true → ((rest : List ℕ) → B (gap ++ rest)) → Spells P Anything (text ++ gap) x
before_gap {text = text} s gap is may = record {
  tokens = s.tokens;
  spells = s.spells;
  leads = λ rest ws behind tokens. rw (append_assoc text gap rest) (s.leads (gap ++ rest) ws (may rest) (behind_gap gap rest ws is tokens));
}

pub spells_line : {A : Type 0} {P : Text Lexeme A} {text : List ℕ} {x : A} → Spells P Anything text x → Spells P Anything (line text) x
spells_line s = before_gap s (10 ∷ []) refl (λ rest. tt)

pub spells_spaced : {A : Type 0} {P : Text Lexeme A} {text : List ℕ} {x : A} → Spells P Anything text x → Spells P Anything (text ++ 32 ∷ []) x
spells_spaced s = before_gap s (32 ∷ []) refl (λ rest. tt)

-- ---- none or more

pub record SpellsEach {A : Type 0} (P : Text Lexeme A) (text_of : A → List ℕ) (can : A → Bool) : Type 0 where
  pub item : (x : A) → can x ≡ true → Spells P Anything (text_of x) x

more_of : {A : Type 0} {P : Text Lexeme A} {text more : List ℕ} {x : A} {xs : List A} → Spells P Anything text x → Spells (many P) Anything more xs → Spells (many P) Anything (text ++ more) (x ∷ xs)
more_of {text = text} {more = more} s t = record {
  tokens = s.tokens ++ t.tokens;
  spells = (s.tokens, t.tokens, refl, s.spells, t.spells);
  leads = λ rest ws behind tokens. rw (append_assoc text more rest, append_assoc s.tokens t.tokens ws) (s.leads (more ++ rest) (t.tokens ++ ws) tt (t.leads rest ws tt tokens));
}

none_of : {A : Type 0} {P : Text Lexeme A} → Spells (many P) Anything [] []
none_of = record { tokens = []; spells = refl; leads = λ rest ws behind tokens. tokens }

-- one behind the other
pub spells_many : {A : Type 0} {P : Text Lexeme A} {text_of : A → List ℕ} {can : A → Bool} → SpellsEach P text_of can → (xs : List A) → list_all can xs ≡ true → Spells (many P) Anything (flat_map text_of xs) xs
spells_many each [] all = none_of
spells_many {can = can} each (x ∷ xs) all = let p = and_parts (can x) (list_all can xs) all in more_of (each.item x p.0) (spells_many each xs p.1)

-- with a space between
pub spells_joined : {A : Type 0} {P : Text Lexeme A} {text_of : A → List ℕ} {can : A → Bool} → SpellsEach P text_of can → (xs : List A) → list_all can xs ≡ true → Spells (many P) Anything (joined (map text_of xs)) xs
spells_joined each [] all = none_of
spells_joined {text_of = text_of} {can = can} each (x ∷ []) all = respelled (append-nil (text_of x)) (more_of (each.item x (and_parts (can x) true all).0) none_of)
spells_joined {text_of = text_of} {can = can} each (x ∷ y ∷ ys) all =
    let p = and_parts (can x) (list_all can (y ∷ ys)) all in
    respelled (append_assoc (text_of x) (32 ∷ []) (joined (map text_of (y ∷ ys)))) (more_of (spells_spaced (each.item x p.0)) (spells_joined each (y ∷ ys) p.1))

-- ---- a whole text

pub reads_spelled : {A : Type 0} (P : Text Lexeme A) (text : List ℕ) (x : A) → Spells P Anything text x → Reads P text x
reads_spelled P text x s =
    let tokens : Tokens text s.tokens = rw (← append-nil text, ← append-nil s.tokens) (s.leads [] [] tt no_tokens) in
    (s.tokens, tokens, s.spells)
