-- The clauses of a circuit that has no gate twice: the same two literals are the operands of one variable alone.
use Rattle.std.proofs.Common.{◌≡◌, ◌≢◌, ℕ, zero, suc, ◌+◌, ◌<◌, ◌≤◌, Bool, true, false, not, List, [], ◌∷◌, ◌++◌, length, get_or, if◌then◌else◌, AllPairs, ◌⊎◌, inl, inr, ⊎_elim, refl, sym, ap, ap₂, ◌∙◌, subst, arith, eqb-true}
use Rattle.std.specs.Prelude.{◌==◌}
use Rattle.std.specs.Bool.{beq}
use Rattle.std.specs.Cmp.{booleans_Decides}
use Rattle.std.specs.List.{list_all, range_with_len}
use Rattle.std.proofs.lemmas.Bool.{or_cases, and_parts, cases_lt, cases_order, false≢true, false_from_ne_true}
use Rattle.std.proofs.Math.Bool.{or-false}
use Rattle.bddl_model.specs.declared.formula.Quant.TheVariants.{Exists}
use Rattle.bddl_model.specs.declared.formula.Bound.{Bound}
use Rattle.bddl_model.specs.declared.formula.Lit.{Lit}
use Rattle.bddl_model.specs.declared.circuit.Wire.{Wire}
use Rattle.bddl_model.specs.declared.circuit.Gate.{Gate}
use Rattle.bddl_model.specs.Truth.{negation}
use Rattle.bddl_model.specs.Forms.{has_number, prefix_variables, same_literal, has_literal}
use Rattle.bddl_model.specs.Circuit.{Circuit, IsCircuit, Ordered, variable_of, literal_of, positive, gate_clauses, gates_clauses, output_clause, circuit_clauses}
use Rattle.bddl_model.specs.CircuitValues.{gate_bounds}
use Rattle.bddl_model.specs.Tail.{same_clause, has_clause, stands_before, GatesApart}
use Rattle.bddl_model.proofs.Counted.{counted, not_counted, variables-append}
use Rattle.bddl_model.proofs.Covering.{counted-range, bounds-range, range-append}
use Rattle.bddl_model.proofs.Tseitin.{var_below}
use Rattle.bddl_model.proofs.CircuitForms.{var_apart}

-- ---- the literals of short clauses

-- literals are equal where the test says so
pub literal_is : (l m : Lit) → same_literal l m ≡ true → l ≡ m
literal_is l m h =
    let parts = and_parts (l.var.0 == m.var.0) (beq l.negated m.negated) h in
    ap₂ (λ v n. record { var = record { 0 = v }; negated = n }) (eqb-true l.var.0 m.var.0 parts.0) ((booleans_Decides l.negated m.negated).0 parts.1)

-- literals are equal where their negations are
negation_is : (l m : Lit) → negation l ≡ negation m → l ≡ m
negation_is l m e = ap₂ (λ v n. record { var = record { 0 = v }; negated = n }) (ap (λ x. x.var.0) e) (sign l.negated m.negated (ap (λ x. x.negated) e))
  where
    sign : (s t : Bool) → not s ≡ not t → s ≡ t
    sign true true q = refl
    sign true false q = absurd (false≢true q)
    sign false true q = absurd (false≢true (sym q))
    sign false false q = refl

pub one_literal : (l x : Lit) → has_literal (x ∷ []) l ≡ true → l ≡ x
one_literal l x h = literal_is l x (sym (or-false (same_literal l x)) ∙ h)

pub two_literals : (l x y : Lit) → has_literal (x ∷ y ∷ []) l ≡ true → (l ≡ x) ⊎ (l ≡ y)
two_literals l x y h = ⊎_elim (λ here. inl (literal_is l x here)) (λ later. inr (one_literal l y later)) (or_cases (same_literal l x) (has_literal (y ∷ []) l) h)

three_literals : (l x y z : Lit) → has_literal (x ∷ y ∷ z ∷ []) l ≡ true → (l ≡ x) ⊎ ((l ≡ y) ⊎ (l ≡ z))
three_literals l x y z h = ⊎_elim (λ here. inl (literal_is l x here)) (λ later. inr (two_literals l y z later)) (or_cases (same_literal l x) (has_literal (y ∷ z ∷ []) l) h)

-- the first of some literals passes, and so do the others
first_passes : (test : Lit → Bool) (l : Lit) (ls : List Lit) → list_all test (l ∷ ls) ≡ true → (test l ≡ true) × (list_all test ls ≡ true)
first_passes test l ls h = and_parts (test l) (list_all test ls) h

-- ---- the third clause of a gate

-- the variable holds where both literals do
abbrev third_clause : ℕ → Lit → Lit → List Lit
third_clause g a b = positive g ∷ negation a ∷ negation b ∷ []

-- its literals stand in this clause, and those of this clause in it
abbrev IsThird : ℕ → Lit → Lit → List Lit → Type 0
IsThird g a b c =
    (has_literal c (positive g) ≡ true)
    × (has_literal c (negation a) ≡ true)
    × (has_literal c (negation b) ≡ true)
    × (list_all (has_literal (third_clause g a b)) c ≡ true)

is_third : (g : ℕ) (a b : Lit) (c : List Lit) → same_clause (third_clause g a b) c ≡ true → IsThird g a b c
is_third g a b c h =
    let both = and_parts (list_all (has_literal c) (third_clause g a b)) (list_all (has_literal (third_clause g a b)) c) h in
    let one = first_passes (has_literal c) (positive g) (negation a ∷ negation b ∷ []) both.0 in
    let two = first_passes (has_literal c) (negation a) (negation b ∷ []) one.1 in
    let three = first_passes (has_literal c) (negation b) [] two.1 in
    (one.0, two.0, three.0, both.1)

-- the two literals are these two, in one order or the other
abbrev AreBoth : Lit → Lit → Lit → Lit → Type 0
AreBoth a b x y = ((a ≡ x) × (b ≡ y)) ⊎ ((a ≡ y) × (b ≡ x))

-- where each of two literals is one of two others, and the other way round, they are the same two
same_two : (a b x y : Lit) → x ≢ y → (a ≡ x) ⊎ (a ≡ y) → (b ≡ x) ⊎ (b ≡ y) → (x ≡ a) ⊎ (x ≡ b) → (y ≡ a) ⊎ (y ≡ b) → AreBoth a b x y
same_two a b x y apart (inl p) (inr q) hx hy = inl (p, q)
same_two a b x y apart (inr p) (inl q) hx hy = inr (p, q)
same_two a b x y apart (inl p) (inl q) hx (inl r) = absurd (apart (sym (r ∙ p)))
same_two a b x y apart (inl p) (inl q) hx (inr r) = absurd (apart (sym (r ∙ q)))
same_two a b x y apart (inr p) (inr q) (inl r) hy = absurd (apart (r ∙ p))
same_two a b x y apart (inr p) (inr q) (inr r) hy = absurd (apart (r ∙ q))

-- a literal of the clause has no greater variable than the clause's own
at_most_own : (v : ℕ) (x y l : Lit) → x.var.0 < v → y.var.0 < v → has_literal (third_clause v x y) l ≡ true → l.var.0 ≤ v
at_most_own v x y l low_x low_y h = go (three_literals l (positive v) (negation x) (negation y) h)
  where
    go : (l ≡ positive v) ⊎ ((l ≡ negation x) ⊎ (l ≡ negation y)) → l.var.0 ≤ v
    go (inl e) = let same : l.var.0 ≡ v = ap (λ z. z.var.0) e in omega (arith, same)
    go (inr (inl e)) = let same : l.var.0 ≡ x.var.0 = ap (λ z. z.var.0) e in omega (arith, same, low_x)
    go (inr (inr e)) = let same : l.var.0 ≡ y.var.0 = ap (λ z. z.var.0) e in omega (arith, same, low_y)

-- and a negated variable that stands in it is smaller
negated_is_smaller : (v : ℕ) (x y : Lit) (w : ℕ) → x.var.0 < v → y.var.0 < v → has_literal (third_clause v x y) (negation (positive w)) ≡ true → w < v
negated_is_smaller v x y w low_x low_y h = go (three_literals (negation (positive w)) (positive v) (negation x) (negation y) h)
  where
    go : (negation (positive w) ≡ positive v) ⊎ ((negation (positive w) ≡ negation x) ⊎ (negation (positive w) ≡ negation y)) → w < v
    go (inl e) = absurd (false≢true (sym (ap (λ z. z.negated) e)))
    go (inr (inl e)) = let same : w ≡ x.var.0 = ap (λ z. z.var.0) e in omega (arith, same, low_x)
    go (inr (inr e)) = let same : w ≡ y.var.0 = ap (λ z. z.var.0) e in omega (arith, same, low_y)

-- a literal of a smaller variable whose negation stands in it is one of the two
operand_is : (v : ℕ) (x y l : Lit) → l.var.0 < v → has_literal (third_clause v x y) (negation l) ≡ true → (l ≡ x) ⊎ (l ≡ y)
operand_is v x y l low h = go (three_literals (negation l) (positive v) (negation x) (negation y) h)
  where
    go : (negation l ≡ positive v) ⊎ ((negation l ≡ negation x) ⊎ (negation l ≡ negation y)) → (l ≡ x) ⊎ (l ≡ y)
    go (inl e) = let same : l.var.0 ≡ v = ap (λ z. z.var.0) e in absurd (omega (arith, low, same))
    go (inr (inl e)) = inl (negation_is l x e)
    go (inr (inr e)) = inr (negation_is l y e)

module _ (g : ℕ) (a b : Lit) (low_a : a.var.0 < g) (low_b : b.var.0 < g) where
  -- a clause of one literal is another one
  unit_is_other : (l : Lit) → same_clause (third_clause g a b) (l ∷ []) ≡ true → ⊥
  unit_is_other l h =
      let is = is_third g a b (l ∷ []) h in
      let same : g ≡ a.var.0 = ap (λ z. z.var.0) (one_literal (positive g) l is.0 ∙ sym (one_literal (negation a) l is.1)) in
      omega (arith, low_a, same)

  -- a clause that an earlier literal holds where a variable does is another one
  pair_is_other : (v : ℕ) (x : Lit) → x.var.0 < v → same_clause (third_clause g a b) (negation (positive v) ∷ x ∷ []) ≡ true → ⊥
  pair_is_other v x low h = go (two_literals (positive g) (negation (positive v)) x is.0)
    where
      is : IsThird g a b (negation (positive v) ∷ x ∷ [])
      is = is_third g a b (negation (positive v) ∷ x ∷ []) h

      below : v < g
      below = negated_is_smaller g a b v low_a low_b (first_passes (has_literal (third_clause g a b)) (negation (positive v)) (x ∷ []) is.3).0

      go : (positive g ≡ negation (positive v)) ⊎ (positive g ≡ x) → ⊥
      go (inl e) = false≢true (ap (λ z. z.negated) e)
      go (inr e) = let same : g ≡ x.var.0 = ap (λ z. z.var.0) e in omega (arith, low, below, same)

  -- the third clause of a gate is the same only where the variable and the literals are
  third_is_own : (v : ℕ) (x y : Lit) → x.var.0 < v → y.var.0 < v → x ≢ y → same_clause (third_clause g a b) (third_clause v x y) ≡ true → (g ≡ v) × AreBoth a b x y
  third_is_own v x y low_x low_y apart h = (
    own,
    same_two a b x y apart
        (operand_is v x y a (omega (arith, own, low_a)) is.1) (operand_is v x y b (omega (arith, own, low_b)) is.2)
        (operand_is g a b x (omega (arith, own, low_x)) second.0) (operand_is g a b y (omega (arith, own, low_y)) third.0),
  )
    where
      is : IsThird g a b (third_clause v x y)
      is = is_third g a b (third_clause v x y) h

      first : (has_literal (third_clause g a b) (positive v) ≡ true) × (list_all (has_literal (third_clause g a b)) (negation x ∷ negation y ∷ []) ≡ true)
      first = first_passes (has_literal (third_clause g a b)) (positive v) (negation x ∷ negation y ∷ []) is.3

      second : (has_literal (third_clause g a b) (negation x) ≡ true) × (list_all (has_literal (third_clause g a b)) (negation y ∷ []) ≡ true)
      second = first_passes (has_literal (third_clause g a b)) (negation x) (negation y ∷ []) first.1

      third : (has_literal (third_clause g a b) (negation y) ≡ true) × (list_all (has_literal (third_clause g a b)) [] ≡ true)
      third = first_passes (has_literal (third_clause g a b)) (negation y) [] second.1

      own : g ≡ v
      own =
          let up : g ≤ v = at_most_own v x y (positive g) low_x low_y is.0 in
          let down : v ≤ g = at_most_own g a b (positive v) low_a low_b first.0 in
          omega (arith, up, down)

  -- it is the third clause of a gate, or stands behind the gate's clauses
  this_or_later : (v : ℕ) (x y : Lit) (rest : List (List Lit)) → x.var.0 < v → y.var.0 < v → x ≢ y → has_clause (gate_clauses v x y rest) (third_clause g a b) ≡ true → ((g ≡ v) × AreBoth a b x y) ⊎ (has_clause rest (third_clause g a b) ≡ true)
  this_or_later v x y rest low_x low_y apart h = at_first (or_cases (same_clause (third_clause g a b) not_x) (has_clause (not_y ∷ third_clause v x y ∷ rest) (third_clause g a b)) h)
    where
      not_x : List Lit
      not_x = negation (positive v) ∷ x ∷ []

      not_y : List Lit
      not_y = negation (positive v) ∷ y ∷ []

      at_third : (same_clause (third_clause g a b) (third_clause v x y) ≡ true) ⊎ (has_clause rest (third_clause g a b) ≡ true) → ((g ≡ v) × AreBoth a b x y) ⊎ (has_clause rest (third_clause g a b) ≡ true)
      at_third (inl e) = inl (third_is_own v x y low_x low_y apart e)
      at_third (inr later) = inr later

      at_second : (same_clause (third_clause g a b) not_y ≡ true) ⊎ (has_clause (third_clause v x y ∷ rest) (third_clause g a b) ≡ true) → ((g ≡ v) × AreBoth a b x y) ⊎ (has_clause rest (third_clause g a b) ≡ true)
      at_second (inl e) = absurd (pair_is_other v y low_y e)
      at_second (inr later) = at_third (or_cases (same_clause (third_clause g a b) (third_clause v x y)) (has_clause rest (third_clause g a b)) later)

      at_first : (same_clause (third_clause g a b) not_x ≡ true) ⊎ (has_clause (not_y ∷ third_clause v x y ∷ rest) (third_clause g a b) ≡ true) → ((g ≡ v) × AreBoth a b x y) ⊎ (has_clause rest (third_clause g a b) ≡ true)
      at_first (inl e) = absurd (pair_is_other v x low_x e)
      at_first (inr later) = at_second (or_cases (same_clause (third_clause g a b) not_y) (has_clause (third_clause v x y ∷ rest) (third_clause g a b)) later)

-- ---- the gates of a circuit

-- wires are equal where their literals are
wire_is : (inputs : ℕ) (v w : Wire) → literal_of inputs v ≡ literal_of inputs w → v ≡ w
wire_is inputs v w e = ap₂ (λ n s. record { node = record { 0 = n }; negated = s }) (node (cases_order v.node.0 w.node.0)) (ap (λ l. l.negated) e)
  where
    variable : variable_of inputs v.node.0 ≡ variable_of inputs w.node.0
    variable = ap (λ l. l.var.0) e

    node : (v.node.0 ≡ w.node.0) ⊎ ((v.node.0 < w.node.0) ⊎ (w.node.0 < v.node.0)) → v.node.0 ≡ w.node.0
    node (inl same) = same
    node (inr (inl lt)) = absurd (var_apart inputs v.node.0 w.node.0 lt variable)
    node (inr (inr lt)) = absurd (var_apart inputs w.node.0 v.node.0 lt (sym variable))

-- the gate's operands are of two nodes, the smaller one first, and have these literals
abbrev IsOver : ℕ → Lit → Lit → Gate → Type 0
IsOver inputs a b gate = (gate.left.node.0 < gate.right.node.0) × AreBoth a b (literal_of inputs gate.left) (literal_of inputs gate.right)

-- the operands don't stand the other way round in another gate
not_turned : (inputs : ℕ) (f g : Gate) → f.left.node.0 < f.right.node.0 → g.left.node.0 < g.right.node.0 → literal_of inputs f.left ≡ literal_of inputs g.right → literal_of inputs f.right ≡ literal_of inputs g.left → ⊥
not_turned inputs f g low_f low_g p q =
    let one : f.left.node.0 ≡ g.right.node.0 = ap (λ w. w.node.0) (wire_is inputs f.left g.right p) in
    let two : f.right.node.0 ≡ g.left.node.0 = ap (λ w. w.node.0) (wire_is inputs f.right g.left q) in
    omega (arith, low_f, low_g, one, two)

-- gates over the same two literals are equal
gate_is : (inputs : ℕ) (a b : Lit) (f g : Gate) → IsOver inputs a b f → IsOver inputs a b g → f ≡ g
gate_is inputs a b f g (low_f, inl p) (low_g, inl q) = ap₂ (λ v w. record { left = v; right = w }) (wire_is inputs f.left g.left (sym p.0 ∙ q.0)) (wire_is inputs f.right g.right (sym p.1 ∙ q.1))
gate_is inputs a b f g (low_f, inr p) (low_g, inr q) = ap₂ (λ v w. record { left = v; right = w }) (wire_is inputs f.left g.left (sym p.1 ∙ q.1)) (wire_is inputs f.right g.right (sym p.0 ∙ q.0))
gate_is inputs a b f g (low_f, inl p) (low_g, inr q) = absurd (not_turned inputs f g low_f low_g (sym p.0 ∙ q.0) (sym p.1 ∙ q.1))
gate_is inputs a b f g (low_f, inr p) (low_g, inl q) = absurd (not_turned inputs f g low_f low_g (sym p.1 ∙ q.1) (sym p.0 ∙ q.0))

-- one of the gates, whose variables stand from v on, is over these literals, and the variable is its own
abbrev GateStands : ℕ → Gate → List Gate → ℕ → ℕ → Lit → Lit → Type 0
GateStands inputs default gs v g a b = (k : ℕ) × (k < length gs) × (g ≡ v + k) × IsOver inputs a b (get_or gs k default)

module _ (inputs : ℕ) (out : Wire) (default : Gate) (g : ℕ) (a b : Lit) (low_a : a.var.0 < g) (low_b : b.var.0 < g) where
  -- where the clauses of some gates have the clause, it is the third one of a gate
  gate_found : (gs : List Gate) (n : ℕ) → inputs < n → Ordered gs n → has_clause (gates_clauses inputs gs (suc n) (output_clause inputs out)) (third_clause g a b) ≡ true → GateStands inputs default gs (suc n) g a b
  gate_found [] n i o h = absurd (unit_is_other g a b low_a low_b (literal_of inputs out) (sym (or-false (same_clause (third_clause g a b) (literal_of inputs out ∷ []))) ∙ h))
  gate_found (f ∷ gs) n i o h = go (this_or_later g a b low_a low_b (suc n) x y rest
      (var_below inputs f.left.node.0 n i (omega (arith, o.0, o.1))) (var_below inputs f.right.node.0 n i o.1) (λ e. var_apart inputs f.left.node.0 f.right.node.0 o.0 (ap (λ l. l.var.0) e)) h)
      (gate_found gs (suc n) (omega arith) o.2)
    where
      x : Lit
      x = literal_of inputs f.left

      y : Lit
      y = literal_of inputs f.right

      rest : List (List Lit)
      rest = gates_clauses inputs gs (suc (suc n)) (output_clause inputs out)

      go : ((g ≡ suc n) × AreBoth a b x y) ⊎ (has_clause rest (third_clause g a b) ≡ true) → (has_clause rest (third_clause g a b) ≡ true → GateStands inputs default gs (suc (suc n)) g a b) → GateStands inputs default (f ∷ gs) (suc n) g a b
      go (inl here) next = (0, omega arith, omega (arith, here.0), (o.0, here.1))
      go (inr later) next = let found = next later in (suc found.0, omega (arith, found.1), omega (arith, found.2), found.3)

  -- so too where the clauses of a circuit have it
  circuit_gate_found : (gs : List Gate) → Ordered gs (suc inputs) → has_clause (circuit_clauses (record { inputs = inputs; gates = gs }) out) (third_clause g a b) ≡ true → GateStands inputs default gs (suc (suc inputs)) g a b
  circuit_gate_found gs o h = ⊎_elim
      (λ e. absurd (unit_is_other g a b low_a low_b (positive (suc inputs)) e))
      (λ later. gate_found gs (suc inputs) (omega arith) o later)
      (or_cases (same_clause (third_clause g a b) (positive (suc inputs) ∷ [])) (has_clause (gates_clauses inputs gs (suc (suc inputs)) (output_clause inputs out)) (third_clause g a b)) h)

-- where no gate stands twice, the same literals are the operands of one variable alone
one_variable : (inputs : ℕ) (default : Gate) (gs : List Gate) (v g h : ℕ) (a b : Lit) → AllPairs (λ x y. x ≢ y) gs → GateStands inputs default gs v g a b → GateStands inputs default gs v h a b → g ≡ h
one_variable inputs default gs v g h a b apart (i, within_i, own_i, over_i) (j, within_j, own_j, over_j) = go (cases_order i j)
  where
    same : get_or gs i default ≡ get_or gs j default
    same = gate_is inputs a b (get_or gs i default) (get_or gs j default) over_i over_j

    go : (i ≡ j) ⊎ ((i < j) ⊎ (j < i)) → g ≡ h
    go (inl e) = omega (arith, own_i, own_j, e)
    go (inr (inl lt)) = absurd (apart i j default lt within_j same)
    go (inr (inr lt)) = absurd (apart j i default lt within_i (sym same))

-- ---- the variables in their order

-- of numbers one after the other, one that stands before another is smaller
before_is_smaller : (v n a g : ℕ) → stands_before (counted v n) a g ≡ true → a < g
before_is_smaller v zero a g h = absurd (false≢true h)
before_is_smaller v (suc n) a g h = go (v == a) refl (before_is_smaller (suc v) n a g) h
  where
    go : (here : Bool) → (v == a) ≡ here → (stands_before (counted (suc v) n) a g ≡ true → a < g) → (if here then has_number (counted (suc v) n) g else stands_before (counted (suc v) n) a g) ≡ true → a < g
    go true e next h =
        let same : v ≡ a = eqb-true v a e in
        ⊎_elim (λ lt. absurd (false≢true (sym (not_counted (suc v) n g (inl lt)) ∙ h))) (λ le. omega (arith, same, le)) (cases_lt g (suc v))
    go false e next h = next h

variables_counted : (prefix : List Bound) (c : Circuit) → prefix_variables prefix ≡ range_with_len 1 c.inputs → prefix_variables (prefix ++ gate_bounds c) ≡ counted 1 (c.inputs + suc (length c.gates))
variables_counted prefix c numbered =
    variables-append prefix (gate_bounds c)
    ∙ ap₂ (λ x y. x ++ y) numbered (bounds-range Exists (suc c.inputs) (suc (length c.gates)))
    ∙ range-append 1 c.inputs (suc (length c.gates)) (suc c.inputs) (omega arith)
    ∙ sym (counted-range 1 (c.inputs + suc (length c.gates)))

pub circuit_gates_apart : (prefix : List Bound) (c : Circuit) (out : Wire) → IsCircuit c → AllPairs (λ g h. g ≢ h) c.gates → prefix_variables prefix ≡ range_with_len 1 c.inputs → GatesApart (record { prefix = prefix ++ gate_bounds c; clauses = circuit_clauses c out })
unfolding GatesApart
circuit_gates_apart prefix c out is apart numbered g h a b differ behind_g behind_h has_g = false_from_ne_true (has_clause (circuit_clauses c out) (third_clause h a b))
    (λ has_h. differ (one_variable c.inputs default c.gates (suc (suc c.inputs)) g h a b apart
    (circuit_gate_found c.inputs out default g a b (smaller a.var.0 g behind_g.1) (smaller b.var.0 g behind_g.2) c.gates is has_g)
    (circuit_gate_found c.inputs out default h a b (smaller a.var.0 h behind_h.1) (smaller b.var.0 h behind_h.2) c.gates is has_h)))
  where
    default : Gate
    default = record { left = out; right = out }

    smaller : (v w : ℕ) → stands_before (prefix_variables (prefix ++ gate_bounds c)) v w ≡ true → v < w
    smaller v w before = before_is_smaller 1 (c.inputs + suc (length c.gates)) v w (subst (λ vs. stands_before vs v w ≡ true) (variables_counted prefix c numbered) before)
