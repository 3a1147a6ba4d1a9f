-- Clauses that are kept as one list of literals and the list of their ends.
use Rattle.std.specs.Prelude.{ℕ, zero, suc, ◌≡◌, ◌≤◌, ◌-◌, List, [], ◌∷◌, length, take, drop}
use Rattle.bddl_model.specs.declared.formula.Lit.{Lit}

-- the clauses, the first of which starts here
abbrev pub cut : ℕ → List ℕ → List Lit → List (List Lit)
cut start [] ls = []
cut start (e ∷ ends) ls = take (e - start) (drop start ls) ∷ cut e ends ls

-- where clause n starts, if the first starts here
abbrev pub start_from : ℕ → List ℕ → ℕ → ℕ
start_from start ends zero = start
start_from start [] (suc n) = 0
start_from start (e ∷ ends) (suc n) = start_from e ends n

-- no end stands before the one before it, and the last one is this
abbrev pub EndsAt : ℕ → ℕ → List ℕ → Type 0
EndsAt last start [] = start ≡ last
EndsAt last start (e ∷ ends) = (start ≤ e) × EndsAt last e ends
