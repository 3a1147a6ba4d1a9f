-- A text has one list of tokens, or one fault.
use Rattle.std.proofs.Common.{◌≡◌, ℕ, ◌-◌, true, false, List, [], ◌∷◌, ◌++◌, length, take, drop, Result, Ok, Err, refl, sym, ap, subst, ◌∙◌, arith}
use Rattle.std.specs.Prelude.{IsTrue}
use Rattle.std.proofs.lemmas.List.{take_at, drop_at}
use Rattle.bddl_model.specs.declared.tokens.TokenKind.{TokenKind}
use Rattle.bddl_model.specs.declared.tokens.TokenFault.{TokenFault}
use Rattle.bddl_model.specs.declared.tokens.TokenFault.TheVariants as token
use Rattle.bddl_model.specs.declared.tokens.LexFault.{LexFault}
use Rattle.bddl_model.specs.declared.tokens.LexFault.TheVariants.{BadByte, NameTooLong, NumberTooLong, NoMemory}
use Rattle.bddl_model.specs.Tokens.{Lexeme, token_at, is_gap, begins_token, Leads, Tokens, Fails, LexFails}
use Rattle.bddl_lexer.specs.Gaps.{gap_len}
use Rattle.bddl_lexer.proofs.GapLaws.{gap_len-before_token, gap_len-whole, token_begins}

-- what stands behind the white space and comments at the front
abbrev behind_gap : List ℕ → List ℕ
behind_gap bytes = drop (gap_len false bytes) bytes

behind_gap-before_token : (bytes gap rest : List ℕ) → IsTrue (is_gap false false gap) → bytes ≡ gap ++ rest → begins_token rest ≡ true → behind_gap bytes ≡ rest
behind_gap-before_token bytes gap rest g e t =
    let len : gap_len false (gap ++ rest) ≡ length gap = gap_len-before_token false gap rest g t in
    ap behind_gap e ∙ ap (λ n. drop n (gap ++ rest)) len ∙ drop_at gap rest (length gap) refl

drop_all : (xs : List ℕ) → drop (length xs) xs ≡ []
drop_all [] = refl
drop_all (x ∷ xs) = drop_all xs

behind_gap-whole : (bytes : List ℕ) → IsTrue (is_gap true false bytes) → behind_gap bytes ≡ []
behind_gap-whole bytes g = ap (λ n. drop n bytes) (gap_len-whole false bytes g) ∙ drop_all bytes

-- ---- the first lexeme is determined by the bytes

first_lexeme : (bytes : List ℕ) (w : Lexeme) (ws : List Lexeme) (rest : List ℕ) → Leads bytes (w ∷ ws) rest
    → (more : List ℕ) × (behind_gap bytes ≡ w.text ++ more) × (token_at (behind_gap bytes) ≡ Ok (w.kind, length w.text)) × Leads more ws rest
first_lexeme bytes w ws rest h =
    let same = behind_gap-before_token bytes h.0 (w.text ++ h.1) h.2 h.3 (token_begins (w.text ++ h.1) (w.kind, length w.text) h.4) in
    (h.1, same, ap token_at same ∙ h.4, h.5)

pub same_token : (kind other : TokenKind) (n m : ℕ) → (let r : Result (TokenKind × ℕ) TokenFault = Ok (kind, n) in r) ≡ Ok (other, m) → (kind ≡ other) × (n ≡ m)
same_token kind other n m e =
    let pairs : (kind, n) ≡ (other, m) = cc in
    (ap (λ (p : TokenKind × ℕ). p.0) pairs, ap (λ (p : TokenKind × ℕ). p.1) pairs)

same_front : (a b x y : List ℕ) → a ++ x ≡ b ++ y → length a ≡ length b → (a ≡ b) × (x ≡ y)
same_front a b x y e len = (
  sym (take_at a x (length a) refl) ∙ ap (take (length a)) e ∙ take_at b y (length a) (sym len),
  sym (drop_at a x (length a) refl) ∙ ap (drop (length a)) e ∙ drop_at b y (length a) (sym len),
)

same_lexeme : (v w : Lexeme) → v.kind ≡ w.kind → v.text ≡ w.text → v ≡ w
same_lexeme v w k t =
    let one : v ≡ record { kind = w.kind; text = v.text } = ap (λ (x : TokenKind). record { kind = x; text = v.text }) k in
    one ∙ ap (λ (x : List ℕ). record { kind = w.kind; text = x }) t

-- ---- how a reading ends

-- the rest is white space and comments, or behind them is no token and so many bytes are left
data Ending : Type 0 where
  whole : Ending
  wrong : TokenFault → ℕ → Ending

abbrev Ends : List ℕ → Ending → Type 0
Ends rest whole = behind_gap rest ≡ []
Ends rest (wrong fault left) = (begins_token (behind_gap rest) ≡ true) × (token_at (behind_gap rest) ≡ Err fault) × (length (behind_gap rest) ≡ left)

one_ending : (rest : List ℕ) (a b : Ending) → Ends rest a → Ends rest b → a ≡ b
one_ending rest whole whole h k = refl
one_ending rest whole (wrong t n) h k = absurd (let e = ap begins_token (sym h) ∙ k.0 in cc)
one_ending rest (wrong t n) whole h k = absurd (let e = ap begins_token (sym k) ∙ h.0 in cc)
one_ending rest (wrong t n) (wrong u m) h k =
    let e = sym h.1 ∙ k.1 in
    let f = sym h.2 ∙ k.2 in
    cc

no_ending : (bytes : List ℕ) (w : Lexeme) (ws : List Lexeme) (rest : List ℕ) (e : Ending) → Leads bytes (w ∷ ws) rest → Ends bytes e → ⊥
no_ending bytes w ws rest whole h k = let f = first_lexeme bytes w ws rest h in let g = sym (ap token_at k) ∙ f.2 in absurd cc
no_ending bytes w ws rest (wrong t n) h k = let f = first_lexeme bytes w ws rest h in let g = sym k.1 ∙ f.2 in absurd cc

one_reading : (bytes : List ℕ) (vs ws : List Lexeme) (rest other : List ℕ) (a b : Ending) → Leads bytes vs rest → Ends rest a → Leads bytes ws other → Ends other b → (vs ≡ ws) × (a ≡ b)
one_reading bytes [] [] rest other a b l h m k =
    (refl, one_ending bytes a b (subst (λ z. Ends z a) (sym l) h) (subst (λ z. Ends z b) (sym m) k))
one_reading bytes [] (w ∷ ws) rest other a b l h m k = absurd (no_ending bytes w ws other a m (subst (λ z. Ends z a) (sym l) h))
one_reading bytes (v ∷ vs) [] rest other a b l h m k = absurd (no_ending bytes v vs rest b l (subst (λ z. Ends z b) (sym m) k))
one_reading bytes (v ∷ vs) (w ∷ ws) rest other a b l h m k =
    let f = first_lexeme bytes v vs rest l in
    let g = first_lexeme bytes w ws other m in
    let t = same_token v.kind w.kind (length v.text) (length w.text) (sym f.2 ∙ g.2) in
    let p = same_front v.text w.text f.0 g.0 (sym f.1 ∙ g.1) t.1 in
    let more = one_reading f.0 vs ws rest other a b f.3 h (subst (λ z. Leads z ws other) (sym p.1) g.3) k in
    (let head = same_lexeme v w t.0 p.0 in let tail = more.0 in cc, more.1)

-- ---- the laws

fails_end : (bytes : List ℕ) (fault : TokenFault) (n : ℕ) → (f : Fails bytes fault n) → Ends f.1 (wrong fault (length bytes - n))
fails_end bytes fault n f =
    let same = behind_gap-before_token f.1 f.2 f.3 f.6 f.5 f.7 in
    (rw same f.7, rw same f.8, rw same (omega (arith, f.9)))

-- a text is spelled by one list of tokens at most
pub one_spelling : (bytes : List ℕ) (vs ws : List Lexeme) → Tokens bytes vs → Tokens bytes ws → vs ≡ ws
one_spelling bytes vs ws h k = (one_reading bytes vs ws h.0 k.0 whole whole h.1 (behind_gap-whole h.0 h.2) k.1 (behind_gap-whole k.0 k.2)).0

tokens_or_fails : (bytes : List ℕ) (ws : List Lexeme) (fault : TokenFault) (n : ℕ) → Tokens bytes ws → Fails bytes fault n → ⊥
tokens_or_fails bytes ws fault n h f =
    let e = (one_reading bytes ws f.0 h.0 f.1 whole (wrong fault (length bytes - n)) h.1 (behind_gap-whole h.0 h.2) f.4 (fails_end bytes fault n f)).1 in
    absurd cc

fails_once : (bytes : List ℕ) (t u : TokenFault) (n m : ℕ) → Fails bytes t n → Fails bytes u m → (t ≡ u) × (n ≡ m)
fails_once bytes t u n m f g =
    let e = (one_reading bytes f.0 g.0 f.1 g.1 (wrong t (length bytes - n)) (wrong u (length bytes - m)) f.4 (fails_end bytes t n f) g.4 (fails_end bytes u m g)).1 in
    let left : length bytes - n ≡ length bytes - m = cc in
    (cc, omega (arith, left, f.9, g.9))

abbrev fault_at : TokenFault → ℕ → LexFault
fault_at token.BadByte n = BadByte n
fault_at token.NameTooLong n = NameTooLong n
fault_at token.NumberTooLong n = NumberTooLong n

fails_at : (bytes : List ℕ) (f : LexFault) → LexFails bytes f → (fault : TokenFault) × (n : ℕ) × Fails bytes fault n × (f ≡ fault_at fault n)
fails_at bytes (BadByte n) h = (token.BadByte, n, h, refl)
fails_at bytes (NameTooLong n) h = (token.NameTooLong, n, h, refl)
fails_at bytes (NumberTooLong n) h = (token.NumberTooLong, n, h, refl)
fails_at bytes NoMemory h = absurd h

-- a text with tokens has no fault
pub tokens_or_fault : (bytes : List ℕ) (ws : List Lexeme) (f : LexFault) → Tokens bytes ws → LexFails bytes f → ⊥
tokens_or_fault bytes ws f h k = let at = fails_at bytes f k in tokens_or_fails bytes ws at.0 at.1 h at.2

-- a text has one fault at most
pub one_fault : (bytes : List ℕ) (f g : LexFault) → LexFails bytes f → LexFails bytes g → f ≡ g
one_fault bytes f g h k =
    let at = fails_at bytes f h in
    let on = fails_at bytes g k in
    let same = fails_once bytes at.0 on.0 at.1 on.1 at.2 on.2 in
    let e = at.3 in
    let d = on.3 in
    let p = same.0 in
    let q = same.1 in
    cc
