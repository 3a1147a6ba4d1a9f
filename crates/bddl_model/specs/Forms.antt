-- What a formula keeps to that is written, read and decided: its variables are bound once, and a clause names each once.
use Rattle.std.specs.Prelude.{ℕ, ◌≡◌, Bool, true, false, ◌||◌, ◌&&◌, ◌==◌, nat_le, List, [], ◌∷◌, map}
use Rattle.std.specs.Bool.{beq}
use Rattle.std.specs.List.{list_any}
use Rattle.bddl_model.specs.declared.formula.Bound.{Bound}
use Rattle.bddl_model.specs.declared.formula.Lit.{Lit}
use Rattle.bddl_model.specs.Truth.{Formula}

abbrev pub greatest_variables : ℕ
greatest_variables = 16777215

abbrev pub has_number : List ℕ → ℕ → Bool
has_number [] v = false
has_number (w ∷ ws) v = w == v || has_number ws v

abbrev pub in_range : ℕ → ℕ → Bool
in_range most v = nat_le 1 v && nat_le v most

-- each number passes
abbrev pub AllPass : (ℕ → Bool) → List ℕ → Type 0
AllPass test [] = Unit {0}
AllPass test (v ∷ vs) = (test v ≡ true) × AllPass test vs

abbrev pub AllInRange : ℕ → List ℕ → Type 0
AllInRange most vs = AllPass (in_range most) vs

-- no number stands twice
abbrev pub AllApart : List ℕ → Type 0
AllApart [] = Unit {0}
AllApart (v ∷ vs) = (has_number vs v ≡ false) × AllApart vs

abbrev pub AllAmong : List ℕ → List ℕ → Type 0
AllAmong ws vs = AllPass (has_number ws) vs

abbrev pub prefix_variables : List Bound → List ℕ
prefix_variables bounds = map (λ b. b.var.0) bounds

abbrev pub literal_variables : List Lit → List ℕ
literal_variables ls = map (λ l. l.var.0) ls

-- the same variable, with the same sign
abbrev pub same_literal : Lit → Lit → Bool
same_literal l m = l.var.0 == m.var.0 && beq l.negated m.negated

abbrev pub has_literal : List Lit → Lit → Bool
has_literal ls l = list_any (same_literal l) ls

-- the clause's variables are bound, and none stands twice
abbrev pub FitsPrefix : List Bound → List Lit → Type 0
FitsPrefix bounds ls = AllAmong (prefix_variables bounds) (literal_variables ls) × AllApart (literal_variables ls)

abbrev pub AllFitPrefix : List Bound → List (List Lit) → Type 0
AllFitPrefix bounds [] = Unit {0}
AllFitPrefix bounds (c ∷ cs) = FitsPrefix bounds c × AllFitPrefix bounds cs

pub record IsForm (f : Formula) : Type 0 where
  pub in_range : AllInRange greatest_variables (prefix_variables f.prefix)
  pub apart : AllApart (prefix_variables f.prefix)
  pub clauses : AllFitPrefix f.prefix f.clauses
