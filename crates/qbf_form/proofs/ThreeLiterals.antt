-- Clauses of three literals: the same in any order, and with three variables.
use Rattle.std.proofs.Common.{◌≡◌, Bool, true, false, ◌||◌, [], ◌∷◌, List, refl}
use Rattle.std.specs.Prelude.{◌==◌}
use Rattle.std.specs.List.{list_all}
use Rattle.std.proofs.lemmas.Bool.{or_parts, and_from}
use Rattle.bddl_model.specs.declared.formula.Lit.{Lit}
use Rattle.bddl_model.specs.Forms.{has_literal, literal_variables, AllApart}
use Rattle.bddl_model.specs.Tail.{same_clause}
use Rattle.qbf_form.proofs.SameClauses.{here, later}

pub three_apart : (l m n : Lit) → AllApart (literal_variables (l ∷ m ∷ n ∷ [])) → ((m.var.0 == l.var.0) ≡ false) × ((n.var.0 == l.var.0) ≡ false) × ((n.var.0 == m.var.0) ≡ false)
three_apart l m n apart =
    let first = or_parts (m.var.0 == l.var.0) (n.var.0 == l.var.0 || false) apart.0 in
    (first.0, (or_parts (n.var.0 == l.var.0) false first.1).0, (or_parts (n.var.0 == m.var.0) false apart.1.0).0)

three_of : (p : Lit → Bool) (l m n : Lit) → p l ≡ true → p m ≡ true → p n ≡ true → list_all p (l ∷ m ∷ n ∷ []) ≡ true
three_of p l m n first second third = and_from (p l) (list_all p (m ∷ n ∷ [])) first (and_from (p m) (list_all p (n ∷ [])) second (and_from (p n) true third refl))

pub has_first : (l m n : Lit) → has_literal (l ∷ m ∷ n ∷ []) l ≡ true
has_first l m n = here l (m ∷ n ∷ [])

pub has_second : (l m n : Lit) → has_literal (l ∷ m ∷ n ∷ []) m ≡ true
has_second l m n = later l m (m ∷ n ∷ []) (here m (n ∷ []))

pub has_third : (l m n : Lit) → has_literal (l ∷ m ∷ n ∷ []) n ≡ true
has_third l m n = later l n (m ∷ n ∷ []) (later m n (n ∷ []) (here n []))

both_ways : (d c : List Lit) → list_all (has_literal c) d ≡ true → list_all (has_literal d) c ≡ true → same_clause d c ≡ true
both_ways d c first second = and_from (list_all (has_literal c) d) (list_all (has_literal d) c) first second

pub same_as_given : (l m n : Lit) → same_clause (l ∷ m ∷ n ∷ []) (l ∷ m ∷ n ∷ []) ≡ true
same_as_given l m n =
    let each = three_of (has_literal (l ∷ m ∷ n ∷ [])) l m n (has_first l m n) (has_second l m n) (has_third l m n) in
    both_ways (l ∷ m ∷ n ∷ []) (l ∷ m ∷ n ∷ []) each each

pub same_second_first : (l m n : Lit) → same_clause (m ∷ l ∷ n ∷ []) (l ∷ m ∷ n ∷ []) ≡ true
same_second_first l m n =
    both_ways (m ∷ l ∷ n ∷ []) (l ∷ m ∷ n ∷ [])
    (three_of (has_literal (l ∷ m ∷ n ∷ [])) m l n (has_second l m n) (has_first l m n) (has_third l m n))
    (three_of (has_literal (m ∷ l ∷ n ∷ [])) l m n (has_second m l n) (has_first m l n) (has_third m l n))

pub same_third_first : (l m n : Lit) → same_clause (n ∷ l ∷ m ∷ []) (l ∷ m ∷ n ∷ []) ≡ true
same_third_first l m n =
    both_ways (n ∷ l ∷ m ∷ []) (l ∷ m ∷ n ∷ [])
    (three_of (has_literal (l ∷ m ∷ n ∷ [])) n l m (has_third l m n) (has_first l m n) (has_second l m n))
    (three_of (has_literal (n ∷ l ∷ m ∷ [])) l m n (has_second n l m) (has_third n l m) (has_first n l m))
