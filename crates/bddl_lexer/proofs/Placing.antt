-- Where the tokens of a text stand.
use Rattle.std.proofs.Common.{◌≡◌, ℕ, ◌+◌, ◌-◌, ◌<◌, ◌≤◌, true, false, List, [], ◌∷◌, ◌++◌, length, take, drop, Ok, Err, refl, sym, ap, subst, ◌∙◌, arith, inl, inr}
use Rattle.std.specs.Prelude.{IsTrue}
use Rattle.std.proofs.lemmas.List.{drop-drop, take-append-drop, length-take-le, length-drop}
use Rattle.bddl_model.specs.declared.tokens.Token.{Token}
use Rattle.bddl_model.specs.declared.tokens.TokenKind.{TokenKind}
use Rattle.bddl_model.specs.declared.tokens.TokenFault.{TokenFault}
use Rattle.bddl_model.specs.Tokens.{token_at, is_gap, begins_token, IsLexeme, Leads, Fails, spelling, lexeme_of, lexemes, Placed, AreTokens}
use Rattle.bddl_lexer.specs.Gaps.{gap_len}
use Rattle.bddl_lexer.proofs.GapLaws.{gap_splits, gap_len-before_token, token_begins}
use Rattle.bddl_lexer.proofs.OneReading.{one_spelling, same_token}

-- where the last token ends, or n
abbrev pub last_end : ℕ → List Token → ℕ
last_end n [] = n
last_end n (t ∷ ts) = last_end t.end ts

pub last_end-push : (n : ℕ) (ts : List Token) (t : Token) → last_end n (ts ++ t ∷ []) ≡ t.end
last_end-push n [] t = refl
last_end-push n (u ∷ us) t = last_end-push u.end us t

pub placed_push : (bytes : List ℕ) (n : ℕ) (ts : List Token) (t : Token) → Placed bytes n ts → Placed bytes (last_end n ts) (t ∷ []) → Placed bytes n (ts ++ t ∷ [])
placed_push bytes n [] t h k = k
placed_push bytes n (u ∷ us) t h k = (h.0, h.1, h.2, h.3, h.4, placed_push bytes u.end us t h.5 k)

-- ---- placed tokens are read in their order

-- the bytes from m on, and those from n on before them
drop_split : (bytes : List ℕ) (n m : ℕ) → n ≤ m → take (m - n) (drop n bytes) ++ drop m bytes ≡ drop n bytes
drop_split bytes n m le =
    let reach : n + (m - n) ≡ m = omega arith in
    let behind : drop (m - n) (drop n bytes) ≡ drop m bytes = drop-drop (m - n) n bytes ∙ ap (λ (k : ℕ). drop k bytes) reach in
    ap (λ (z : List ℕ). take (m - n) (drop n bytes) ++ z) (sym behind) ∙ take-append-drop (m - n) (drop n bytes)

length-spelling : (bytes : List ℕ) (t : Token) → t.start ≤ t.end → t.end ≤ length bytes → length (spelling bytes t) ≡ t.end - t.start
length-spelling bytes t lt le = length-take-le (t.end - t.start) (drop t.start bytes) (omega (arith, length-drop t.start bytes))

pub placed_leads : (bytes : List ℕ) (n : ℕ) (ts : List Token) → Placed bytes n ts → Leads (drop n bytes) (lexemes bytes ts) (drop (last_end n ts) bytes)
placed_leads bytes n [] h = refl
placed_leads bytes n (t ∷ ts) h =
    let le : t.start ≤ t.end = omega (arith, h.2) in
    let parts : spelling bytes t ++ drop t.end bytes ≡ drop t.start bytes = drop_split bytes t.start t.end le in
    let gap = take (t.start - n) (drop n bytes) in
    let whole : drop n bytes ≡ gap ++ (spelling bytes t ++ drop t.end bytes) = sym (ap (λ (z : List ℕ). gap ++ z) parts ∙ drop_split bytes n t.start h.0) in
    let token : IsLexeme (lexeme_of bytes t) (drop t.end bytes) = ap token_at parts ∙ h.4 ∙ ap (λ (k : ℕ). Ok (t.kind, k)) (sym (length-spelling bytes t le h.3)) in
    (gap, drop t.end bytes, h.1, whole, token, placed_leads bytes t.end ts h.5)

-- ---- a text has one placing

start_is : (bytes : List ℕ) (n : ℕ) (t : Token) (ts : List Token) → Placed bytes n (t ∷ ts) → t.start ≡ n + gap_len false (drop n bytes)
start_is bytes n t ts h =
    let gap = take (t.start - n) (drop n bytes) in
    let begins : begins_token (drop t.start bytes) ≡ true = token_begins (drop t.start bytes) (t.kind, t.end - t.start) h.4 in
    let longest : gap_len false (gap ++ drop t.start bytes) ≡ length gap = gap_len-before_token false gap (drop t.start bytes) h.1 begins in
    let same : gap_len false (drop n bytes) ≡ length gap = ap (gap_len false) (sym (drop_split bytes n t.start h.0)) ∙ longest in
    let enough : t.start - n ≤ length (drop n bytes) = omega (arith, h.2, h.3, length-drop n bytes) in
    omega (arith, h.0, same, length-take-le (t.start - n) (drop n bytes) enough)

same_place : (t u : Token) → t.kind ≡ u.kind → t.start ≡ u.start → t.end ≡ u.end → t ≡ u
same_place t u k s e =
    let one : t ≡ record { kind = u.kind; start = t.start; end = t.end } = ap (λ (x : TokenKind). record { kind = x; start = t.start; end = t.end }) k in
    let two : record { kind = u.kind; start = t.start; end = t.end } ≡ record { kind = u.kind; start = u.start; end = t.end } = ap (λ (x : ℕ). record { kind = u.kind; start = x; end = t.end }) s in
    one ∙ two ∙ ap (λ (x : ℕ). record { kind = u.kind; start = u.start; end = x }) e

first_place : (bytes : List ℕ) (n : ℕ) (t u : Token) (ts us : List Token) → Placed bytes n (t ∷ ts) → Placed bytes n (u ∷ us) → t ≡ u
first_place bytes n t u ts us h k =
    let starts : t.start ≡ u.start = start_is bytes n t ts h ∙ sym (start_is bytes n u us k) in
    let same = same_token t.kind u.kind (t.end - t.start) (u.end - u.start) (sym h.4 ∙ ap (λ (s : ℕ). token_at (drop s bytes)) starts ∙ k.4) in
    same_place t u same.0 starts (omega (arith, starts, same.1, h.2, k.2))

one_place_each : (bytes : List ℕ) (n : ℕ) (ts us : List Token) → Placed bytes n ts → Placed bytes n us → lexemes bytes ts ≡ lexemes bytes us → ts ≡ us
one_place_each bytes n [] [] h k e = refl
one_place_each bytes n [] (u ∷ us) h k e = absurd cc
one_place_each bytes n (t ∷ ts) [] h k e = absurd cc
one_place_each bytes n (t ∷ ts) (u ∷ us) h k e =
    let head : t ≡ u = first_place bytes n t u ts us h k in
    let after : Placed bytes t.end us = subst (λ (x : Token). Placed bytes x.end us) (sym head) k.5 in
    let others : lexemes bytes ts ≡ lexemes bytes us = cc in
    let tail : ts ≡ us = one_place_each bytes t.end ts us h.5 after others in
    cc

-- the tokens of a text stand at one place each
pub one_placing : (bytes : List ℕ) (ts us : List Token) → AreTokens bytes ts → AreTokens bytes us → ts ≡ us
one_placing bytes ts us h k = one_place_each bytes 0 ts us h.0 k.0 (one_spelling bytes (lexemes bytes ts) (lexemes bytes us) h.1 k.1)

-- ---- a token more, the end, and a fault

-- where a byte is left behind the gap, the gap is closed
closed : (rest : List ℕ) → gap_len false rest < length rest → (begins_token (drop (gap_len false rest) rest) ≡ true) × (is_gap false false (take (gap_len false rest) rest) ≡ true)
closed rest lt = elim (gap_splits false rest) [
  | inl end ↦ absurd (let e = ap length end.0 in omega (arith, length-drop (gap_len false rest) rest))
  | inr more ↦ more
]

pub place_next : (bytes : List ℕ) (at n : ℕ) (kind : TokenKind) (len : ℕ) → n ≡ gap_len false (drop at bytes) → token_at (drop (at + n) bytes) ≡ Ok (kind, len) → 0 < len → len ≤ length (drop (at + n) bytes)
    → Placed bytes at (record { kind = kind; start = at + n; end = at + n + len } ∷ [])
place_next bytes at n kind len e t some le =
    let within : at + n + len ≤ length bytes = omega (arith, length-drop (at + n) bytes) in
    let long : at + n - at ≡ n = omega arith in
    let size : at + n + len - (at + n) ≡ len = omega arith in
    let parts = closed (drop at bytes) (omega (arith, length-drop at bytes)) in
    let gap : IsTrue (is_gap false false (take (at + n - at) (drop at bytes))) = subst (λ (k : ℕ). is_gap false false (take k (drop at bytes)) ≡ true) (sym (long ∙ e)) parts.1 in
    (omega arith, gap, omega arith, within, t ∙ ap (λ (k : ℕ). Ok (kind, k)) (sym size), tt)

nothing_begins : (bytes : List ℕ) → length bytes ≡ 0 → begins_token bytes ≡ true → ⊥
nothing_begins [] len e = absurd cc
nothing_begins (b ∷ bs) len e = absurd (omega arith)

-- behind the last token only a gap is left
pub placed_whole : (bytes : List ℕ) (ts : List Token) (at n : ℕ) → Placed bytes 0 ts → last_end 0 ts ≡ at → n ≡ gap_len false (drop at bytes) → at + n ≡ length bytes → AreTokens bytes ts
placed_whole bytes ts at n h end e full =
    let left = drop (gap_len false (drop at bytes)) (drop at bytes) in
    let none : length left ≡ 0 = omega (arith, length-drop (gap_len false (drop at bytes)) (drop at bytes), length-drop at bytes) in
    let open_gap : is_gap true false (drop at bytes) ≡ true = elim (gap_splits false (drop at bytes)) [
      | inl all ↦ all.1
      | inr more ↦ absurd (nothing_begins left none more.0)
    ] in
    (h, (drop at bytes, subst (λ (k : ℕ). Leads bytes (lexemes bytes ts) (drop k bytes)) end (placed_leads bytes 0 ts h), open_gap))

-- behind the last token and a gap stands no token
pub placed_fails : (bytes : List ℕ) (ts : List Token) (at n : ℕ) (fault : TokenFault) → Placed bytes 0 ts → last_end 0 ts ≡ at → n ≡ gap_len false (drop at bytes) → at + n < length bytes
    → token_at (drop (at + n) bytes) ≡ Err fault → Fails bytes fault (at + n)
placed_fails bytes ts at n fault h end e lt t =
    let rest = drop at bytes in
    let behind : drop (gap_len false rest) rest ≡ drop (at + n) bytes = ap (λ (k : ℕ). drop k rest) (sym e) ∙ drop-drop n at bytes in
    let parts = closed rest (omega (arith, length-drop at bytes)) in (
      lexemes bytes ts,
      rest,
      take (gap_len false rest) rest,
      drop (at + n) bytes,
      subst (λ (k : ℕ). Leads bytes (lexemes bytes ts) (drop k bytes)) end (placed_leads bytes 0 ts h),
      sym (take-append-drop (gap_len false rest) rest) ∙ ap (λ (z : List ℕ). take (gap_len false rest) rest ++ z) behind,
      parts.1,
      subst (λ (z : List ℕ). begins_token z ≡ true) behind parts.0,
      t,
      omega (arith, length-drop (at + n) bytes),
    )
