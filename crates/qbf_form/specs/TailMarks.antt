-- The variables that a tail can begin with, those that gates define, and the longest tail of these.
use Rattle.std.specs.Prelude.{ℕ, ◌+◌, ◌==◌, nat_lt, Bool, false, not, ◌&&◌, ◌||◌, if◌then◌else◌, List, [], ◌∷◌, slice_index_or}
use Rattle.std.specs.List.{list_any}
use Rattle.bddl_model.specs.declared.formula.Quant.TheVariants.{Exists}
use Rattle.bddl_model.specs.declared.formula.Bound.{Bound}
use Rattle.bddl_model.specs.declared.formula.Lit.{Lit}
use Rattle.bddl_model.specs.Truth.{negation}
use Rattle.bddl_model.specs.FormulaText.{same_quant}
use Rattle.qbf_form.specs.declared.pairs.Pair.{Pair}
use Rattle.qbf_form.specs.Pairs.{pair_of}

abbrev pub has_mark : List Bool → ℕ → Bool
has_mark marks v = slice_index_or marks v false

-- ---- clauses of one literal

-- the clause is this variable
abbrev pub is_unit : List Lit → ℕ → Bool
is_unit (l ∷ []) v = not l.negated && l.var.0 == v
is_unit _ v = false

abbrev pub has_unit : List (List Lit) → ℕ → Bool
has_unit cs v = list_any (λ c. is_unit c v) cs

-- ---- clauses of three literals, by the places of variables and the clauses of two

-- the literal's variable stands before the head's, and a clause says that the literal is false where the head's variable holds
abbrev pub is_operand : (ℕ → ℕ) → (Pair → Bool) → Lit → Lit → Bool
is_operand place pairs head l = nat_lt (place l.var.0) (place head.var.0) && pairs (pair_of (negation head) (negation l))

-- the head defines its variable, where the other two literals are its operands
abbrev pub is_head : (ℕ → ℕ) → (Pair → Bool) → Lit → Lit → Lit → Bool
is_head place pairs head l m = not head.negated && (is_operand place pairs head l && is_operand place pairs head m)

-- the clause defines this variable
abbrev pub is_defined : (ℕ → ℕ) → (Pair → Bool) → List Lit → ℕ → Bool
is_defined place pairs (l ∷ m ∷ n ∷ []) v =
    l.var.0 == v && is_head place pairs l m n || (m.var.0 == v && is_head place pairs m l n || n.var.0 == v && is_head place pairs n l m)
is_defined place pairs _ v = false

abbrev pub has_definition : (ℕ → ℕ) → (Pair → Bool) → List (List Lit) → ℕ → Bool
has_definition place pairs cs v = list_any (λ c. is_defined place pairs c v) cs

-- ---- the longest tail

-- of the variables up to this one, where those before it had one of this length
abbrev pub next_length : (ℕ → Bool) → (ℕ → Bool) → ℕ → Bound → ℕ
next_length unit gate n b =
    if same_quant b.quant Exists then if nat_lt 0 n && gate b.var.0 then n + 1 else if unit b.var.0 then 1 else 0
    else 0

abbrev pub longest_from : (ℕ → Bool) → (ℕ → Bool) → ℕ → List Bound → ℕ
longest_from unit gate n [] = n
longest_from unit gate n (b ∷ bounds) = longest_from unit gate (next_length unit gate n b) bounds
