-- The answer lines, part by part and as they are defined.
use Rattle.std.proofs.Common.{ℕ, ◌≡◌, ◌+◌, ◌<◌, ◌≤◌, Bool, List, [], ◌∷◌, ◌++◌, length, drop, Option, Ok, refl, sym, ap, ap₂, subst, ◌∙◌, append-nil, arith}
use Rattle.std.specs.List.{slice_index_or}
use Rattle.std.proofs.lemmas.List.{drop_all, drop_more}
use Rattle.io_edge.specs.Puts.{Adds}
use Rattle.io_edge.proofs.Added.{Added}
use Rattle.bddl_model.specs.declared.formula.Bound.{Bound}
use Rattle.bddl_model.specs.declared.formula.Verdict.{Verdict}
use Rattle.bddl_model.specs.Verdicts.{answer_text, result_line, value_line, value_lines}

-- the line of the next variable, and those of the others
pub value_lines_next : (prefix : List Bound) (values : List Bool) (i : ℕ) (d : Bound) (e : Bool) → length values ≤ length prefix → i < length values
    → value_lines (drop i prefix) (drop i values) ≡ value_line (slice_index_or prefix i d).var.0 (slice_index_or values i e) ++ value_lines (drop (i + 1) prefix) (drop (i + 1) values)
value_lines_next prefix values i d e enough within = ap₂ value_lines (drop_more prefix i d (omega arith)) (drop_more values i e within)

no_lines : (bs : List Bound) → value_lines bs [] ≡ []
no_lines [] = refl
no_lines (b ∷ bs) = refl

pub value_lines_none : (prefix : List Bound) (values : List Bool) (i : ℕ) → length values ≤ i → value_lines (drop i prefix) (drop i values) ≡ []
value_lines_none prefix values i past = ap₂ value_lines refl (drop_all i values past) ∙ no_lines (drop i prefix)

pub answer_text_is : (v : Verdict) (variables clauses : ℕ) (prefix bounds : List Bound) (first : List Bool) → bounds ≡ prefix → answer_text v variables clauses prefix first ≡ result_line v variables clauses ++ value_lines bounds first
answer_text_is v variables clauses prefix bounds first same = rw same refl

-- nothing is left, and so the whole text went in
pub added_all : (text rest : List ℕ) → rest ≡ [] → (old new : Option (List ℕ)) (held_old held_new : List ℕ) → Added text rest old held_old new held_new → Adds text old held_old new held_new (Ok tt)
added_all text rest none old new held_old held_new a =
    subst (λ t. Adds t old held_old new held_new (Ok tt)) (sym (append-nil a.part) ∙ ap (λ t. a.part ++ t) (sym none) ∙ a.whole) a.went
