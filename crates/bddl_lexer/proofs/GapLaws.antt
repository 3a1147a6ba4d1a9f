-- White space and comments, and the token behind them.
use Rattle.std.proofs.Common.{◌≡◌, ℕ, suc, Bool, true, false, not, ◌||◌, eqb, List, [], ◌∷◌, ◌++◌, length, take, drop, Ok, Err, refl, ap, inl, inr, ◌⊎◌}
use Rattle.std.proofs.lemmas.Bool.{cases_Bool, or_cases, eqb-true}
use Rattle.std.proofs.Math.Bool.{or-true}
use Rattle.bddl_model.specs.declared.tokens.TokenKind.{TokenKind}
use Rattle.bddl_model.specs.declared.tokens.TokenFault.TheVariants.{BadByte}
use Rattle.bddl_model.specs.Bytes.{is_white}
use Rattle.bddl_model.specs.Tokens.{token_at, is_gap, begins_token}
use Rattle.bddl_lexer.specs.Gaps.{gap_len}

-- behind the longest gap stands the end or a token, and before a token the gap is closed
pub gap_splits : (commenting : Bool) (bytes : List ℕ)
    → ((drop (gap_len commenting bytes) bytes ≡ []) × (is_gap true commenting bytes ≡ true))
    ⊎ ((begins_token (drop (gap_len commenting bytes) bytes) ≡ true) × (is_gap false commenting (take (gap_len commenting bytes) bytes) ≡ true))
gap_splits commenting [] = inl (refl, refl)
gap_splits true (b ∷ bs) = gap_splits (not (eqb b 10)) bs
gap_splits false (b ∷ bs) =
    elim (cases_Bool (eqb b 59)) [
      | inl comment ↦ simp comment (gap_splits true bs)
      | inr other ↦ elim (cases_Bool (is_white b)) [
        | inl white ↦ simp (other, white) (gap_splits false bs)
        | inr mark ↦ simp (other, mark) (inr (refl, refl))
      ]
    ]

-- a closed gap before a token is the longest gap
pub gap_len-before_token : (commenting : Bool) (gap rest : List ℕ) → is_gap false commenting gap ≡ true → begins_token rest ≡ true → gap_len commenting (gap ++ rest) ≡ length gap
gap_len-before_token true [] rest g t = absurd cc
gap_len-before_token false [] [] g t = absurd cc
gap_len-before_token false [] (b ∷ bs) g t =
    elim (cases_Bool (eqb b 59)) [
      | inl comment ↦ absurd (let e = simp (comment, or-true) at t in cc)
      | inr other ↦ elim (cases_Bool (is_white b)) [
        | inl white ↦ absurd (let e = simp white at t in cc)
        | inr mark ↦ simp (other, mark) refl
      ]
    ]
gap_len-before_token true (b ∷ gap) rest g t = ap suc (gap_len-before_token (not (eqb b 10)) gap rest g t)
gap_len-before_token false (b ∷ gap) rest g t =
    elim (cases_Bool (eqb b 59)) [
      | inl comment ↦ rw comment (ap suc (gap_len-before_token true gap rest (rw comment at g) t))
      | inr other ↦ elim (cases_Bool (is_white b)) [
        | inl white ↦ rw (other, white) (ap suc (gap_len-before_token false gap rest (rw (other, white) at g) t))
        | inr mark ↦ absurd (let e = rw (other, mark) at g in cc)
      ]
    ]

-- a gap up to the end is the longest gap
pub gap_len-whole : (commenting : Bool) (bytes : List ℕ) → is_gap true commenting bytes ≡ true → gap_len commenting bytes ≡ length bytes
gap_len-whole true [] g = refl
gap_len-whole false [] g = refl
gap_len-whole true (b ∷ bs) g = ap suc (gap_len-whole (not (eqb b 10)) bs g)
gap_len-whole false (b ∷ bs) g =
    elim (cases_Bool (eqb b 59)) [
      | inl comment ↦ rw comment (ap suc (gap_len-whole true bs (rw comment at g)))
      | inr other ↦ elim (cases_Bool (is_white b)) [
        | inl white ↦ rw (other, white) (ap suc (gap_len-whole false bs (rw (other, white) at g)))
        | inr mark ↦ absurd (let e = rw (other, mark) at g in cc)
      ]
    ]

-- ---- no token begins with white space or as a comment

gap_byte_is_bad : (b : ℕ) (bs : List ℕ) → (is_white b || eqb b 59) ≡ true → token_at (b ∷ bs) ≡ Err BadByte
gap_byte_is_bad b bs e = elim (or_cases (is_white b) (eqb b 59) e) [
  | inl white ↦ elim (or_cases (eqb b 32 || eqb b 9 || eqb b 13) (eqb b 10) white) [
    | inl in_line ↦ elim (or_cases (eqb b 32 || eqb b 9) (eqb b 13) in_line) [
      | inl blank ↦ elim (or_cases (eqb b 32) (eqb b 9) blank) [
        | inl space ↦ rw (eqb-true b 32 space) refl
        | inr tab ↦ rw (eqb-true b 9 tab) refl
      ]
      | inr carriage_return ↦ rw (eqb-true b 13 carriage_return) refl
    ]
    | inr feed ↦ rw (eqb-true b 10 feed) refl
  ]
  | inr comment ↦ rw (eqb-true b 59 comment) refl
]

pub token_begins : (bytes : List ℕ) (x : TokenKind × ℕ) → token_at bytes ≡ Ok x → begins_token bytes ≡ true
token_begins [] x e = absurd cc
token_begins (b ∷ bs) x e =
    elim (cases_Bool (is_white b || eqb b 59)) [
      | inl gap ↦ absurd (let f = gap_byte_is_bad b bs gap in cc)
      | inr begins ↦ rw begins refl
    ]
