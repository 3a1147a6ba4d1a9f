-- The clauses of a form: their rows, one clause after the other, and that they are fine.
use Rattle.std.proofs.Common.{◌≡◌, ◌≢◌, ℕ, zero, suc, ◌+◌, ◌<◌, List, [], ◌∷◌, ◌++◌, length, take, get_or, slice_get, Some, None, refl, sym, ap, subst, ◌∙◌, arith}
use Rattle.std.specs.Prelude.{All}
use Rattle.std.proofs.lemmas.List.{take_more, length-take-le}
use Rattle.std.proofs.lemmas.List.Elements.{All-get_or}
use Rattle.std.proofs.lemmas.Option.{same_Some, none-some, slice_get_within, get_or_from_slice_get}
use Rattle.bddl_model.specs.declared.formula.Kind.TheVariants.{Clause}
use Rattle.bddl_model.specs.declared.formula.Quant.TheVariants as quant
use Rattle.bddl_model.specs.declared.formula.Bound.{Bound}
use Rattle.bddl_model.specs.declared.formula.Lit.{Lit}
use Rattle.bddl_model.specs.Truth.{Formula}
use Rattle.bddl_model.specs.Fine.{IsFine, FineClauseOf, first_block}
use Rattle.qbf_store.specs.declared.constraint.ConstraintId.{ConstraintId}
use Rattle.qbf_store.specs.declared.constraint.ConstraintId.TheVariants.{Original, Learned}
use Rattle.qbf_store.specs.Constraints.{Constraint, constraint, clause_of, of_form, times, AreFine}
use Rattle.qbf_store.specs.Rows.{Rows, row, row_of, row_count, entered}
use Rattle.qbf_store.specs.Kept.{RowsHold, KeepsConstraints}
use Rattle.qbf_store.proofs.Changes.{rows_come}

-- ---- one clause after the other

abbrev pub first_clauses : ℕ → Formula → Formula
first_clauses n f = record f { clauses = take n f.clauses }

at_end : (cs : List (List Lit)) (c : List Lit) → slice_get (cs ++ c ∷ []) (length cs) ≡ Some c
at_end [] c = refl
at_end (d ∷ ds) c = at_end ds c

past_end : (cs : List (List Lit)) → slice_get cs (length cs) ≡ None
past_end [] = refl
past_end (d ∷ ds) = past_end ds

elsewhere : (cs : List (List Lit)) (c : List Lit) (n : ℕ) → n ≢ length cs → slice_get (cs ++ c ∷ []) n ≡ slice_get cs n
elsewhere [] c zero h = absurd (h refl)
elsewhere [] c (suc n) h = refl
elsewhere (d ∷ ds) c zero h = refl
elsewhere (d ∷ ds) c (suc n) h = elsewhere ds c n (λ e. h (ap suc e))

one_clause : (prefix : List Bound) (cs : List (List Lit)) (c : List Lit) (most : ℕ) (rows next : Rows) → RowsHold (of_form (record { prefix = prefix; clauses = cs }) most) rows
    → ((l : Lit) (x : ConstraintId) → times x (row next (row_of prefix l)) ≡ times x (row rows (row_of prefix l)) + entered c (Original (length cs)) l x)
    → RowsHold (of_form (record { prefix = prefix; clauses = cs ++ c ∷ [] }) most) next
one_clause prefix cs c most rows next hold steps =
    rows_come (of_form (record { prefix = prefix; clauses = cs }) most) (of_form (record { prefix = prefix; clauses = cs ++ c ∷ [] }) most) rows next (Original (length cs)) (record { kind = Clause; literals = c })
    hold (ap clause_of (past_end cs)) (ap clause_of (at_end cs c)) others refl steps
  where
    others : (other : ConstraintId) → other ≢ Original (length cs) → constraint (of_form (record { prefix = prefix; clauses = cs ++ c ∷ [] }) most) other ≡ constraint (of_form (record { prefix = prefix; clauses = cs }) most) other
    others (Original n) differs = ap clause_of (elsewhere cs c n (λ e. differs (ap (λ k. Original k) e)))
    others (Learned n) differs = refl

pub next_clause : (f : Formula) (n most : ℕ) (c : List Lit) (rows next : Rows) → n < length f.clauses → c ≡ get_or f.clauses n [] → RowsHold (of_form (first_clauses n f) most) rows
    → ((l : Lit) (x : ConstraintId) → times x (row next (row_of f.prefix l)) ≡ times x (row rows (row_of f.prefix l)) + entered c (Original n) l x)
    → RowsHold (of_form (first_clauses (n + 1) f) most) next
next_clause f n most c rows next within is hold steps =
    let count = length-take-le n f.clauses (omega arith) in
    subst (λ (cs : List (List Lit)). RowsHold (of_form (record { prefix = f.prefix; clauses = cs }) most) next) (ap (λ d. take n f.clauses ++ d ∷ []) is ∙ sym (take_more f.clauses n [] within))
    (one_clause f.prefix (take n f.clauses) c most rows next hold (λ l x. steps l x ∙ ap (λ k. times x (row rows (row_of f.prefix l)) + entered c (Original k) l x) (sym count)))

-- ---- a store of them

fine_each : (f : Formula) → All (FineClauseOf (first_block quant.All f.prefix) f) f.clauses → (most : ℕ) → AreFine (of_form f most)
fine_each f fine most (Original n) c is = at (slice_get f.clauses n) refl is
  where
    at : (o : _) → slice_get f.clauses n ≡ o → clause_of o ≡ Some c → IsFine c.kind f c.literals
    at None there is = absurd (none-some c is)
    at (Some ls) there is =
        subst (λ (x : Constraint). IsFine x.kind f x.literals) (same_Some (record { kind = Clause; literals = ls }) c is)
        (subst (λ d. FineClauseOf (first_block quant.All f.prefix) f d) (get_or_from_slice_get f.clauses n ls [] there)
        (All-get_or (FineClauseOf (first_block quant.All f.prefix) f) f.clauses n [] (slice_get_within f.clauses n ls there) fine))
fine_each f fine most (Learned n) c is = absurd (none-some c is)

pub of_originals : (f : Formula) (most : ℕ) (rows : Rows) → All (FineClauseOf (first_block quant.All f.prefix) f) f.clauses → length rows ≡ row_count f.prefix → RowsHold (of_form f most) rows → KeepsConstraints (of_form f most) rows
of_originals f most rows fine count held = record {
  fine = fine_each f fine most;
  few = omega arith;
  count = count;
  held = held;
}
