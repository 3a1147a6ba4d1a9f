-- What one literal of a constraint does to the rows, and what those behind it do.
use Rattle.std.proofs.Common.{◌≡◌, ◌≢◌, ℕ, ◌+◌, ◌-◌, true, false, ◌&&◌, ◌||◌, List, [], ◌∷◌, inl, inr, refl, sym, ap, subst, ◌∙◌, arith, eqb-true, eq-eqb, if◌then◌else◌}
use Rattle.std.specs.Prelude.{◌==◌}
use Rattle.std.proofs.lemmas.Bool.{cases_Bool, or_parts, or_from, and_left, false_from_ne_true, false≢true}
use Rattle.bddl_model.specs.declared.formula.Bound.{Bound}
use Rattle.bddl_model.specs.declared.formula.Lit.{Lit}
use Rattle.bddl_model.specs.Forms.{has_number, has_literal, same_literal, literal_variables, FitsPrefix}
use Rattle.bddl_model.proofs.Assignments.{eqb_turned}
use Rattle.qbf_form.proofs.SameClauses.{here, later, literals_same}
use Rattle.qbf_store.specs.declared.constraint.ConstraintId.{ConstraintId}
use Rattle.qbf_store.specs.Constraints.{same_id, times}
use Rattle.qbf_store.specs.Rows.{Rows, row, row_of, entered, HasRoom}
use Rattle.qbf_store.proofs.RowNumbers.{same_row}

absent : (m : Lit) (ms : List Lit) → has_number (literal_variables ms) m.var.0 ≡ false → has_literal ms m ≡ false
absent m [] h = refl
absent m (k ∷ ks) h =
    let parts = or_parts (k.var.0 == m.var.0) (has_number (literal_variables ks) m.var.0) h in
    or_from (same_literal m k) (has_literal ks m) (and_left (m.var.0 == k.var.0) _ (eqb_turned k.var.0 m.var.0 parts.0)) (absent m ks parts.1)

pub rest_fits : (bounds : List Bound) (m : Lit) (ms : List Lit) → FitsPrefix bounds (m ∷ ms) → FitsPrefix bounds ms
rest_fits bounds m ms fits = (fits.0.1, fits.1.1)

-- a literal behind the first has another row
pub other_row : (bounds : List Bound) (m : Lit) (ms : List Lit) (l : Lit) → FitsPrefix bounds (m ∷ ms) → has_literal ms l ≡ true → row_of bounds l ≢ row_of bounds m
other_row bounds m ms l fits h same =
    let is = same_row bounds l m fits.0.0 same in
    false≢true (sym (absent m ms fits.1.0) ∙ subst (λ (x : Lit). has_literal ms x ≡ true) is h)

not_first : (bounds : List Bound) (m : Lit) (ms : List Lit) (l : Lit) → (row_of bounds l == row_of bounds m) ≡ false → has_literal (m ∷ ms) l ≡ has_literal ms l
not_first bounds m ms l other =
    ap (λ b. b || has_literal ms l) (false_from_ne_true (same_literal l m) (λ same. false≢true (sym other ∙ eq-eqb (row_of bounds l) (row_of bounds m) (ap (λ (x : Lit). row_of bounds x) (literals_same l m same)))))

pub entered_first : (bounds : List Bound) (m : Lit) (ms : List Lit) (id : ConstraintId) (l : Lit) (x : ConstraintId) → FitsPrefix bounds (m ∷ ms)
    → entered (m ∷ ms) id l x ≡ (if row_of bounds l == row_of bounds m && same_id x id then 1 else 0) + entered ms id l x
entered_first bounds m ms id l x fits = elim (cases_Bool (row_of bounds l == row_of bounds m)) [
  | inl same ↦ (let is = same_row bounds l m fits.0.0 (eqb-true (row_of bounds l) (row_of bounds m) same) in
      rw (same, ap (λ (k : Lit). has_literal (m ∷ ms) k) is ∙ here m ms, ap (λ (k : Lit). has_literal ms k) is ∙ absent m ms fits.1.0) (omega arith))
  | inr other ↦ rw (other, not_first bounds m ms l other) (omega arith)
]

-- ---- steps of a walk over the literals

pub enter_step : (bounds : List Bound) (rows next : Rows) (m : Lit) (ms : List Lit) (id : ConstraintId) (number : ℕ) (total : Lit → ConstraintId → ℕ) → FitsPrefix bounds (m ∷ ms) → number ≡ row_of bounds m
    → ((n : ℕ) (x : ConstraintId) → times x (row next n) ≡ times x (row rows n) + (if n == number && same_id x id then 1 else 0))
    → ((l : Lit) (x : ConstraintId) → times x (row rows (row_of bounds l)) + entered (m ∷ ms) id l x ≡ total l x)
    → (l : Lit) (x : ConstraintId) → times x (row next (row_of bounds l)) + entered ms id l x ≡ total l x
enter_step bounds rows next m ms id number total fits is step before l x =
    let first = entered_first bounds m ms id l x fits in
    let written = subst (λ k. times x (row next (row_of bounds l)) ≡ times x (row rows (row_of bounds l)) + (if row_of bounds l == k && same_id x id then 1 else 0)) is (step (row_of bounds l) x) in
    let old = before l x in
    omega arith

pub leave_step : (bounds : List Bound) (rows next : Rows) (m : Lit) (ms : List Lit) (id : ConstraintId) (number : ℕ) (total : Lit → ConstraintId → ℕ) → FitsPrefix bounds (m ∷ ms) → number ≡ row_of bounds m
    → ((n : ℕ) (x : ConstraintId) → times x (row next n) ≡ times x (row rows n) - (if n == number && same_id x id then 1 else 0))
    → ((l : Lit) (x : ConstraintId) → times x (row rows (row_of bounds l)) - entered (m ∷ ms) id l x ≡ total l x)
    → (l : Lit) (x : ConstraintId) → times x (row next (row_of bounds l)) - entered ms id l x ≡ total l x
leave_step bounds rows next m ms id number total fits is step before l x =
    let first = entered_first bounds m ms id l x fits in
    let written = subst (λ k. times x (row next (row_of bounds l)) ≡ times x (row rows (row_of bounds l)) - (if row_of bounds l == k && same_id x id then 1 else 0)) is (step (row_of bounds l) x) in
    let old = before l x in
    omega arith

pub room_step : (bounds : List Bound) (rows next : Rows) (m : Lit) (ms : List Lit) (number : ℕ) → FitsPrefix bounds (m ∷ ms) → number ≡ row_of bounds m
    → ((n : ℕ) → n ≢ number → HasRoom rows n → HasRoom next n)
    → ((l : Lit) → has_literal (m ∷ ms) l ≡ true → HasRoom rows (row_of bounds l))
    → (l : Lit) → has_literal ms l ≡ true → HasRoom next (row_of bounds l)
room_step bounds rows next m ms number fits is keeps room l h = keeps (row_of bounds l) (λ e. other_row bounds m ms l fits h (e ∙ is)) (room l (later m l ms h))

-- ---- the same rows by another name

pub entered_behind : (bounds other : List Bound) (start middle next : Rows) (ls : List Lit) (id : ConstraintId) → other ≡ bounds → ((n : ℕ) → row middle n ≡ row start n)
    → ((l : Lit) (x : ConstraintId) → times x (row next (row_of other l)) ≡ times x (row middle (row_of other l)) + entered ls id l x)
    → (l : Lit) (x : ConstraintId) → times x (row next (row_of bounds l)) ≡ times x (row start (row_of bounds l)) + entered ls id l x
entered_behind bounds other start middle next ls id same room steps l x =
    subst (λ p. times x (row next (row_of p l)) ≡ times x (row middle (row_of p l)) + entered ls id l x) same (steps l x)
    ∙ ap (λ ids. times x ids + entered ls id l x) (room (row_of bounds l))

pub left_behind : (bounds other : List Bound) (start next : Rows) (ls : List Lit) (given : List Lit) (id : ConstraintId) → other ≡ bounds → given ≡ ls
    → ((l : Lit) (x : ConstraintId) → times x (row next (row_of other l)) ≡ times x (row start (row_of other l)) - entered given id l x)
    → (l : Lit) (x : ConstraintId) → times x (row next (row_of bounds l)) ≡ times x (row start (row_of bounds l)) - entered ls id l x
left_behind bounds other start next ls given id same literals steps l x =
    subst (λ p. times x (row next (row_of p l)) ≡ times x (row start (row_of p l)) - entered ls id l x) same
    (subst (λ k. times x (row next (row_of other l)) ≡ times x (row start (row_of other l)) - entered k id l x) literals (steps l x))
