-- What is read from left to right is what stands in the text.
use Rattle.std.proofs.Common.{◌≡◌, ℕ, zero, suc, true, nat_eq, List, [], ◌∷◌, ◌++◌, length, map, Option, None, Some, Result, Ok, Err, refl, sym, ap, subst, ◌∙◌, inl, inr, ◌⊎◌, arith, append_assoc, bytes_eq, codes}
use Rattle.std.specs.Prelude.{◌↔◌}
use Rattle.std.proofs.lemmas.Bool.{cases_Bool, eqb-true, eq-eqb}
use Rattle.std.proofs.lemmas.List.{append-nil, map_push, length_push, nil_from_length, same_from_push}
use Rattle.bddl_model.specs.declared.fault.QFault.{QFault}
use Rattle.bddl_model.specs.Bytes.{digits_value}
use Rattle.bddl_model.specs.Truth.{Formula}
use Rattle.bddl_model.specs.FormulaText.{FormulaText}
use Rattle.bddl_model.specs.FormulaWords.{Word, words_of, last_line, FormulaToken, token_of, number_token, negative, plain}
use Rattle.bddl_model.specs.Qdimacs.{text_tokens, form_of, Qdimacs}
use Rattle.bddl_model.specs.FormulaPlaces.{FormulaPlace, nothing, after_p, after_cnf, after_variables, in_set, in_clauses, tokens_to, IsProperPlace}
use Rattle.bddl_model.specs.FormulaFaults.{fault_at, end_fault, QdimacsFails}
use Rattle.bddl_model.specs.FormulaReading.{FormulaRead, read_at, unless, behind, step, steps, finished, ended, reading}
use Rattle.bddl_model.proofs.NumbersApart.{last_cases}
use Rattle.bddl_model.proofs.FormulaPlaces.{Signed, step_keeps, led}

abbrev pub kind : Word → FormulaToken
kind w = token_of w.text

negative_signed : (r : Option ℕ) → Signed (negative r)
negative_signed None = tt
negative_signed (Some n) = elim (cases_Bool (nat_eq n 0)) [
  | inl null ↦ rw null tt
  | inr more ↦ rw more (λ e. absurd (let z : nat_eq n 0 ≡ true = eq-eqb n 0 e in cc))
]

plain_signed : (r : Option ℕ) → Signed (plain r)
plain_signed None = tt
plain_signed (Some n) = λ e. refl

number_signed : (text : List ℕ) → Signed (number_token text)
number_signed [] = tt
number_signed (b ∷ bs) = elim (cases_Bool (nat_eq b 45)) [
  | inl minus ↦ rw minus (negative_signed (digits_value bs))
  | inr none ↦ rw none (plain_signed (digits_value (b ∷ bs)))
]

pub token_signed : (text : List ℕ) → Signed (token_of text)
token_signed text = elim (cases_Bool (bytes_eq text (codes "p"))) [
  | inl is ↦ rw is tt
  | inr no1 ↦ elim (cases_Bool (bytes_eq text (codes "cnf"))) [
    | inl is ↦ rw (no1, is) tt
    | inr no2 ↦ elim (cases_Bool (bytes_eq text (codes "a"))) [
      | inl is ↦ rw (no1, no2, is) tt
      | inr no3 ↦ elim (cases_Bool (bytes_eq text (codes "e"))) [
        | inl is ↦ rw (no1, no2, no3, is) tt
        | inr no4 ↦ rw (no1, no2, no3, no4) (number_signed text)
      ]
    ]
  ]
]

pub steps_append : (r : Result FormulaPlace QFault) (xs ys : List Word) → steps r (xs ++ ys) ≡ steps (steps r xs) ys
steps_append (Err f) xs ys = refl
steps_append (Ok p) [] ys = refl
steps_append (Ok p) (x ∷ xs) ys = steps_append (step p x) xs ys

step_right : (p : FormulaPlace) (w : Word) → fault_at w.line p (kind w) ≡ None → step p w ≡ Ok (behind p (kind w))
step_right p w right = ap (λ o. unless o (behind p (kind w))) right

step_wrong : (p : FormulaPlace) (w : Word) (f : QFault) → fault_at w.line p (kind w) ≡ Some f → step p w ≡ Err f
step_wrong p w f wrong = ap (λ o. unless o (behind p (kind w))) wrong

step_leads : (p q : FormulaPlace) (w : Word) (t : FormulaToken) → kind w ≡ t → fault_at w.line p t ≡ None → behind p t ≡ q → step p w ≡ Ok q
step_leads p q w t is right leads = ap (λ u. unless (fault_at w.line p u) (behind p u)) is ∙ ap (λ o. unless o (behind p t)) right ∙ ap (λ r. Ok r) leads

-- ---- what is read is what stands there

cases_option : {A : Type 0} (o : Option A) → (o ≡ None) ⊎ ((x : A) × (o ≡ Some x))
cases_option None = inl refl
cases_option (Some x) = inr (x, refl)

pub steps_keep : (p q : FormulaPlace) (ws : List Word) → IsProperPlace p → steps (Ok p) ws ≡ Ok q → (tokens_to q ≡ tokens_to p ++ map kind ws) × IsProperPlace q
steps_keep p q [] proper e = subst (λ r. (tokens_to r ≡ tokens_to p ++ []) × IsProperPlace r) (let z : p ≡ q = cc in z) (sym (append-nil (tokens_to p)), proper)
steps_keep p q (w ∷ ws) proper e = elim (cases_option (fault_at w.line p (kind w))) [
  | inl right ↦
      let kept = step_keeps w.line p (kind w) (token_signed w.text) right proper in
      let rest = steps_keep (behind p (kind w)) q ws kept.1 (sym (ap (λ r. steps r ws) (step_right p w right)) ∙ e) in
      (rest.0 ∙ ap (λ l. l ++ map kind ws) kept.0 ∙ append_assoc (tokens_to p) (kind w ∷ []) (map kind ws), rest.1)
  | inr wrong ↦ absurd (stuck wrong.0 ws (sym (ap (λ r. steps r ws) (step_wrong p w wrong.0 wrong.1)) ∙ e))
]
  where
    stuck : (f : QFault) (ws : List Word) → steps (Err f) ws ≡ Ok q → ⊥
    stuck f ws e = absurd cc

-- where it stops the word is wrong
abbrev pub StopsAt : FormulaPlace → List Word → QFault → Type 0
StopsAt p ws f = (q : FormulaPlace) × (front : List Word) × (w : Word) × (rest : List Word) × (ws ≡ front ++ w ∷ rest) × (steps (Ok p) front ≡ Ok q) × (fault_at w.line q (kind w) ≡ Some f)

pub stops : (p : FormulaPlace) (ws : List Word) (f : QFault) → steps (Ok p) ws ≡ Err f → StopsAt p ws f
stops p [] f e = absurd cc
stops p (w ∷ ws) f e = elim (cases_option (fault_at w.line p (kind w))) [
  | inl right ↦
      let later = stops (behind p (kind w)) ws f (sym (ap (λ r. steps r ws) (step_right p w right)) ∙ e) in
      (later.0, w ∷ later.1, later.2, later.3, ap (λ l. w ∷ l) later.4, ap (λ r. steps r later.1) (step_right p w right) ∙ later.5, later.6)
  | inr wrong ↦ (p, [], w, ws, refl, refl, wrong.1 ∙ (let z : steps (Err wrong.0) ws ≡ Err f = sym (ap (λ r. steps r ws) (step_wrong p w wrong.0 wrong.1)) ∙ e in let y : wrong.0 ≡ f = cc in ap (λ g. Some g) y))
]

-- ---- what stands there is read

push_some : {A : Type 0} (xs : List A) (x : A) → xs ++ x ∷ [] ≡ [] → ⊥
push_some xs x e = absurd (let z = ap length e ∙ refl in let y = length_push xs x in omega arith)

pub reaches : (k : ℕ) (ws : List Word) → length ws ≡ k → (p : FormulaPlace) → IsProperPlace p → map kind ws ≡ tokens_to p → steps (Ok nothing) ws ≡ Ok p
reaches zero ws len p proper e = elim (led p proper) [
  | inl start ↦ rw (nil_from_length ws len) (ap (λ q. Ok q) (sym start))
  | inr l ↦ absurd (push_some (tokens_to l.0) l.1 (sym l.2 ∙ sym e ∙ ap (map kind) (nil_from_length ws len)))
]
reaches (suc k) ws len p proper e = elim (last_cases ws) [
  | inl none ↦ absurd (let z = ap length none in omega arith)
  | inr some ↦ elim (led p proper) [
    | inl start ↦ absurd (push_some (map kind some.0) (kind some.1) (sym (map_push kind some.0 some.1) ∙ ap (map kind) (sym some.2) ∙ e ∙ ap tokens_to start))
    | inr l ↦
        let same = same_from_push (map kind some.0) (tokens_to l.0) (kind some.1) l.1 (sym (map_push kind some.0 some.1) ∙ ap (map kind) (sym some.2) ∙ e ∙ l.2) in
        let shorter : length some.0 ≡ k = (let a = ap length some.2 in let b = length_push some.0 some.1 in omega arith) in
        let before = reaches k some.0 shorter l.0 l.3 same.0 in
        rw some.2 (steps_append (Ok nothing) some.0 (some.1 ∷ []) ∙ ap (λ r. steps r (some.1 ∷ [])) before ∙ ap (λ r. steps r []) (step_leads l.0 p some.1 l.1 same.1 (l.4 some.1.line) l.5))
  ]
]

pub read_whole : (ws : List Word) (p : FormulaPlace) → IsProperPlace p → map kind ws ≡ tokens_to p → steps (Ok nothing) ws ≡ Ok p
read_whole ws p proper e = reaches (length ws) ws refl p proper e

-- ---- the whole text

pub ends_well : (last : ℕ) (p : FormulaPlace) → IsProperPlace p → end_fault last p ≡ None → (t : FormulaText) × (p ≡ in_clauses t []) × (t.said ≡ length t.clauses)
ends_well last nothing proper e = absurd cc
ends_well last after_p proper e = absurd cc
ends_well last after_cnf proper e = absurd cc
ends_well last (after_variables v) proper e = absurd cc
ends_well last (in_set t q vs) proper e = absurd cc
ends_well last (in_clauses t (l ∷ ls)) proper e = absurd cc
ends_well last (in_clauses t []) proper e = elim (cases_Bool (nat_eq t.said (length t.clauses))) [
  | inl same ↦ (t, refl, eqb-true t.said (length t.clauses) same)
  | inr differs ↦ absurd (let z = rw differs at e in cc)
]

all_said : (bytes : List ℕ) (r : FormulaRead) (p : FormulaPlace) → tokens_to p ≡ map kind (words_of bytes) → IsProperPlace p → finished (end_fault (last_line bytes) p) p ≡ Ok r → Qdimacs bytes r.variables r.clauses r.form
all_said bytes r p e proper h = elim (cases_option (end_fault (last_line bytes) p)) [
  | inr wrong ↦ absurd (let z : Err wrong.0 ≡ Ok r = sym (ap (λ o. finished o p) wrong.1) ∙ h in cc)
  | inl right ↦
      let is : Ok (read_at p) ≡ Ok r = sym (ap (λ o. finished o p) right) ∙ h in
      let whole = ends_well (last_line bytes) p proper right in
      let same : read_at p ≡ r = cc in
      let t = whole.0 in
      let r_is : record { variables = t.variables; clauses = t.said; form = form_of t } ≡ r = ap read_at (sym whole.1) ∙ same in (
        t,
        record { words = sym e ∙ ap tokens_to whole.1 ∙ append-nil (text_tokens t); proper = (subst (λ q. IsProperPlace q) whole.1 proper).0 },
        ap (λ (x : FormulaRead). x.variables) r_is,
        ap (λ (x : FormulaRead). x.clauses) r_is,
        sym whole.2 ∙ ap (λ (x : FormulaRead). x.clauses) r_is,
        ap (λ (x : FormulaRead). x.form) r_is,
      )
]

cases_result : {A B : Type 0} (r : Result A B) → ((x : A) × (r ≡ Ok x)) ⊎ ((e : B) × (r ≡ Err e))
cases_result (Ok x) = inl (x, refl)
cases_result (Err e) = inr (e, refl)

pub read_is_text : (bytes : List ℕ) (r : FormulaRead) → reading bytes ≡ Ok r → Qdimacs bytes r.variables r.clauses r.form
read_is_text bytes r h = elim (cases_result (steps (Ok nothing) (words_of bytes))) [
  | inl right ↦
      let kept = steps_keep nothing right.0 (words_of bytes) tt right.1 in
      all_said bytes r right.0 kept.0 kept.1 (sym (ap (ended (last_line bytes)) right.1) ∙ h)
  | inr wrong ↦ absurd (let z : Err wrong.0 ≡ Ok r = sym (ap (ended (last_line bytes)) wrong.1) ∙ h in cc)
]

pub text_is_read : (bytes : List ℕ) (r : FormulaRead) → Qdimacs bytes r.variables r.clauses r.form → reading bytes ≡ Ok r
text_is_read bytes r q =
    let t = q.0 in
    let there = read_whole (words_of bytes) (in_clauses t []) (q.1.proper, tt) (q.1.words ∙ sym (append-nil (text_tokens t))) in
    let counts : nat_eq t.said (length t.clauses) ≡ true = eq-eqb t.said (length t.clauses) (q.3 ∙ sym q.4) in
    let well : end_fault (last_line bytes) (in_clauses t []) ≡ None = rw counts refl in
    ap (ended (last_line bytes)) there ∙ ap (λ o. finished o (in_clauses t [])) well ∙ ap (λ x. Ok x) (parts t.variables t.said (form_of t) r q.2 q.3 q.5)
  where
    parts : (v c : ℕ) (form : Formula) (r : FormulaRead) → v ≡ r.variables → c ≡ r.clauses → form ≡ r.form → record { variables = v; clauses = c; form = form } ≡ r
    parts v c form r a b d = rw (a, b, d) refl

pub fault_is_wrong : (bytes : List ℕ) (f : QFault) → reading bytes ≡ Err f → QdimacsFails bytes f
fault_is_wrong bytes f h = elim (cases_result (steps (Ok nothing) (words_of bytes))) [
  | inl right ↦
      let kept = steps_keep nothing right.0 (words_of bytes) tt right.1 in
      let end : finished (end_fault (last_line bytes) right.0) right.0 ≡ Err f = sym (ap (ended (last_line bytes)) right.1) ∙ h in
      (right.0, words_of bytes, [], sym (append-nil (words_of bytes)), record { words = sym kept.0; proper = kept.1 }, end_is right.0 (end_fault (last_line bytes) right.0) end)
  | inr wrong ↦
      let same : Err wrong.0 ≡ Err f = sym (ap (ended (last_line bytes)) wrong.1) ∙ h in
      let it : wrong.0 ≡ f = cc in
      let s = stops nothing (words_of bytes) wrong.0 wrong.1 in
      let kept = steps_keep nothing s.0 s.1 tt s.5 in
      (s.0, s.1, s.2 ∷ s.3, s.4, record { words = sym kept.0; proper = kept.1 }, s.6 ∙ ap (λ g. Some g) it)
]
  where
    end_is : (p : FormulaPlace) (o : Option QFault) → finished o p ≡ Err f → o ≡ Some f
    end_is p None e = absurd cc
    end_is p (Some g) e = (let y : g ≡ f = cc in ap (λ g. Some g) y)

pub wrong_is_fault : (bytes : List ℕ) (f : QFault) → QdimacsFails bytes f → reading bytes ≡ Err f
wrong_is_fault bytes f (p, front, [], is, leads, wrong) =
    ap (λ ws. ended (last_line bytes) (steps (Ok nothing) ws)) (is ∙ append-nil front)
    ∙ ap (ended (last_line bytes)) (read_whole front p leads.proper leads.words)
    ∙ ap (λ o. finished o p) wrong
wrong_is_fault bytes f (p, front, w ∷ rest, is, leads, wrong) =
    ap (λ ws. ended (last_line bytes) (steps (Ok nothing) ws)) is
    ∙ ap (ended (last_line bytes)) (steps_append (Ok nothing) front (w ∷ rest) ∙ ap (λ r. steps r (w ∷ rest)) (read_whole front p leads.proper leads.words) ∙ ap (λ r. steps r rest) (step_wrong p w f wrong))

pub reading_is_exact : (bytes : List ℕ) (r : FormulaRead) → (reading bytes ≡ Ok r) ↔ Qdimacs bytes r.variables r.clauses r.form
reading_is_exact bytes r = (read_is_text bytes r, text_is_read bytes r)

pub fault_is_exact : (bytes : List ℕ) (f : QFault) → (reading bytes ≡ Err f) ↔ QdimacsFails bytes f
fault_is_exact bytes f = (fault_is_wrong bytes f, wrong_is_fault bytes f)
