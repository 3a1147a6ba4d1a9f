-- The tail of a form: the variables at the end of its prefix that gates define.
use Rattle.std.specs.Prelude.{◌≡◌, ◌≢◌, ℕ, ◌-◌, Bool, true, false, not, ◌&&◌, ◌==◌, List, [], ◌∷◌, ◌++◌, length, drop, if◌then◌else◌}
use Rattle.std.specs.List.{list_any, list_all}
use Rattle.bddl_model.specs.declared.formula.Quant.TheVariants.{Exists}
use Rattle.bddl_model.specs.declared.formula.Bound.{Bound}
use Rattle.bddl_model.specs.declared.formula.Lit.{Lit}
use Rattle.bddl_model.specs.Truth.{Formula, negation}
use Rattle.bddl_model.specs.FormulaText.{same_quant}
use Rattle.bddl_model.specs.Circuit.{positive}
use Rattle.bddl_model.specs.Forms.{has_number, prefix_variables, has_literal}

-- ---- clauses that a form has

-- exactly the same literals, in any order
abbrev pub same_clause : List Lit → List Lit → Bool
same_clause c d = list_all (has_literal d) c && list_all (has_literal c) d

abbrev pub has_clause : List (List Lit) → List Lit → Bool
has_clause cs wanted = list_any (same_clause wanted) cs

-- ---- gates

-- both literals of each variable
abbrev pub literals_of : List ℕ → List Lit
literals_of [] = []
literals_of (v ∷ vs) = positive v ∷ negation (positive v) ∷ literals_of vs

-- the clauses say that the variable holds where both literals do, and elsewhere not
abbrev pub defines : List (List Lit) → ℕ → Lit → Lit → Bool
defines cs g a b =
    has_clause cs (negation (positive g) ∷ a ∷ [])
    && (has_clause cs (negation (positive g) ∷ b ∷ [])
    && has_clause cs (positive g ∷ negation a ∷ negation b ∷ []))

-- they say so for two literals of two different variables among these
abbrev pub is_gate : List (List Lit) → List ℕ → ℕ → Bool
is_gate cs before g = list_any (λ a. list_any (λ b. not (a.var.0 == b.var.0) && defines cs g a b) (literals_of before)) (literals_of before)

-- each is existential and a gate of variables before it
abbrev pub are_gates : List (List Lit) → List ℕ → List Bound → Bool
are_gates cs before [] = true
are_gates cs before (b ∷ rest) = same_quant b.quant Exists && (is_gate cs before b.var.0 && are_gates cs (before ++ b.var.0 ∷ []) rest)

-- ---- the tail

-- the first variable is existential and has a clause of its own, and the later ones are gates
abbrev pub is_tail : List (List Lit) → List ℕ → List Bound → Bool
is_tail cs before [] = false
is_tail cs before (t ∷ gates) = same_quant t.quant Exists && (has_clause cs (positive t.var.0 ∷ []) && are_gates cs (before ++ t.var.0 ∷ []) gates)

-- the length of the longest tail of these, which stand behind the variables before
abbrev pub tail_from : List (List Lit) → List ℕ → List Bound → ℕ
tail_from cs before [] = 0
tail_from cs before (b ∷ rest) = if is_tail cs before (b ∷ rest) then length (b ∷ rest) else tail_from cs (before ++ b.var.0 ∷ []) rest

unfoldable pub tail_length : Formula → ℕ
tail_length f = tail_from f.clauses [] f.prefix

-- ---- gates that stand apart

-- the first number is among these, and the second stands behind it
abbrev pub stands_before : List ℕ → ℕ → ℕ → Bool
stands_before [] v w = false
stands_before (u ∷ us) v w = if u == v then has_number us w else stands_before us v w

-- the variable is one of the tail's
abbrev pub in_tail : Formula → ℕ → Bool
in_tail f v = has_number (drop (length f.prefix - tail_length f) (prefix_variables f.prefix)) v

-- the variable is one of the tail's, and stands behind those of both literals
abbrev pub IsBehind : Formula → ℕ → Lit → Lit → Type 0
IsBehind f g a b =
    (in_tail f g ≡ true)
    × (stands_before (prefix_variables f.prefix) a.var.0 g ≡ true)
    × (stands_before (prefix_variables f.prefix) b.var.0 g ≡ true)

-- the form doesn't have, for two variables of the tail and two literals before both, both clauses that the variable holds where the literals do
unfoldable pub GatesApart : Formula → Type 0
GatesApart f = (g h : ℕ) (a b : Lit) → g ≢ h → IsBehind f g a b → IsBehind f h a b
    → has_clause f.clauses (positive g ∷ negation a ∷ negation b ∷ []) ≡ true
    → has_clause f.clauses (positive h ∷ negation a ∷ negation b ∷ []) ≡ false
