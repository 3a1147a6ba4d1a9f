-- The clauses of two literals as pairs, which are the same in either order of the literals.
use Rattle.std.specs.Prelude.{Bool, ◌&&◌, nat_lt, if◌then◌else◌, List, [], ◌∷◌, flat_map}
use Rattle.std.specs.List.{list_any}
use Rattle.bddl_model.specs.declared.formula.Lit.{Lit}
use Rattle.bddl_model.specs.Forms.{same_literal}
use Rattle.qbf_form.specs.declared.pairs.Pair.{Pair}

-- the literal of the smaller variable stands first
abbrev pub pair_of : Lit → Lit → Pair
pair_of l m = if nat_lt l.var.0 m.var.0 then record { first = l; second = m } else record { first = m; second = l }

-- one where the clause has two literals, and else none
abbrev pub clause_pairs : List Lit → List Pair
clause_pairs (l ∷ m ∷ []) = pair_of l m ∷ []
clause_pairs _ = []

abbrev pub pairs_of : List (List Lit) → List Pair
pairs_of cs = flat_map clause_pairs cs

abbrev pub same_pair : Pair → Pair → Bool
same_pair p q = same_literal p.first q.first && same_literal p.second q.second

abbrev pub has_pair : List Pair → Pair → Bool
has_pair ps p = list_any (same_pair p) ps
