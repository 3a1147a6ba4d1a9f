-- The longest tail, found in one walk from the first variable to the last.
use Rattle.std.proofs.Common.{◌≡◌, ℕ, zero, suc, ◌+◌, Bool, true, false, ◌&&◌, if◌then◌else◌, List, [], ◌∷◌, ◌++◌, length, refl, sym, ap₂, ◌∙◌, arith, append_assoc}
use Rattle.std.specs.Prelude.{nat_lt}
use Rattle.std.specs.List.{list_all}
use Rattle.std.proofs.Math.Bool.{and_assoc}
use Rattle.std.proofs.lemmas.Bool.{lt-ltb}
use Rattle.bddl_model.specs.declared.formula.Quant.TheVariants.{Exists}
use Rattle.bddl_model.specs.declared.formula.Bound.{Bound}
use Rattle.bddl_model.specs.declared.formula.Lit.{Lit}
use Rattle.bddl_model.specs.Circuit.{positive}
use Rattle.bddl_model.specs.Forms.{prefix_variables}
use Rattle.bddl_model.specs.FormulaText.{same_quant}
use Rattle.bddl_model.specs.Tail.{has_clause, is_gate, are_gates, tail_from}
use Rattle.qbf_form.specs.TailMarks.{next_length, longest_from}

abbrev gate_bound : (ℕ → Bool) → Bound → Bool
gate_bound gate b = same_quant b.quant Exists && gate b.var.0

-- the longest of the ends that are tails
abbrev longest : (ℕ → Bool) → (ℕ → Bool) → List Bound → ℕ
longest unit gate [] = 0
longest unit gate (b ∷ rest) = if same_quant b.quant Exists && (unit b.var.0 && list_all (gate_bound gate) rest) then length (b ∷ rest) else longest unit gate rest

-- ---- one walk

-- a tail of length n goes on while gates follow
abbrev gone_on : ℕ → Bool → ℕ → ℕ → ℕ
gone_on n gates many other = if nat_lt 0 n && gates then n + many else other

abbrev next_of : Bool → Bool → Bool → ℕ → ℕ
next_of existential unit gate n = if existential then if nat_lt 0 n && gate then n + 1 else if unit then 1 else 0 else 0

walk_step : (existential unit gate gates : Bool) (n many other : ℕ) → gone_on (next_of existential unit gate n) gates many other ≡ gone_on n ((existential && gate) && gates) (suc many) (if existential && (unit && gates) then suc many else other)
walk_step false unit gate gates zero many other = refl
walk_step true false gate gates zero many other = refl
walk_step true true gate false zero many other = refl
walk_step true true gate true zero many other = omega arith
walk_step false unit gate gates (suc n) many other = rw (lt-ltb 0 (suc n) (omega arith)) refl
walk_step true unit true true (suc n) many other = rw (lt-ltb 0 (suc n) (omega arith), lt-ltb 0 (suc n + 1) (omega arith)) (omega arith)
walk_step true false true false (suc n) many other = rw (lt-ltb 0 (suc n) (omega arith), lt-ltb 0 (suc n + 1) (omega arith)) refl
walk_step true true true false (suc n) many other = rw (lt-ltb 0 (suc n) (omega arith), lt-ltb 0 (suc n + 1) (omega arith)) refl
walk_step true false false gates (suc n) many other = rw (lt-ltb 0 (suc n) (omega arith)) refl
walk_step true true false true (suc n) many other = rw (lt-ltb 0 (suc n) (omega arith)) (omega arith)
walk_step true true false false (suc n) many other = rw (lt-ltb 0 (suc n) (omega arith)) refl

walked : (unit gate : ℕ → Bool) (n : ℕ) (bounds : List Bound) → longest_from unit gate n bounds ≡ gone_on n (list_all (gate_bound gate) bounds) (length bounds) (longest unit gate bounds)
walked unit gate zero [] = refl
walked unit gate (suc n) [] = rw (lt-ltb 0 (suc n) (omega arith)) (omega arith)
walked unit gate n (b ∷ rest) =
    walked unit gate (next_length unit gate n b) rest
    ∙ walk_step (same_quant b.quant Exists) (unit b.var.0) (gate b.var.0) (list_all (gate_bound gate) rest) n (length rest) (longest unit gate rest)

-- ---- the tail

-- a gate is one by its place in the prefix
abbrev pub GatesAre : List (List Lit) → List ℕ → (ℕ → Bool) → Type 0
GatesAre cs vs gate = (before : List ℕ) (g : ℕ) (behind : List ℕ) → before ++ g ∷ behind ≡ vs → is_gate cs before g ≡ gate g

all_gates : (cs : List (List Lit)) (vs : List ℕ) (gate : ℕ → Bool) → GatesAre cs vs gate → (before : List ℕ) (rest : List Bound) → before ++ prefix_variables rest ≡ vs
    → are_gates cs before rest ≡ list_all (gate_bound gate) rest
all_gates cs vs gate are before [] split = refl
all_gates cs vs gate are before (b ∷ rest) split =
    ap₂ (λ x y. same_quant b.quant Exists && (x && y)) (are before b.var.0 (prefix_variables rest) split) (all_gates cs vs gate are (before ++ b.var.0 ∷ []) rest (append_assoc before (b.var.0 ∷ []) (prefix_variables rest) ∙ split))
    ∙ sym (and_assoc (same_quant b.quant Exists) (gate b.var.0) (list_all (gate_bound gate) rest))

longest_is : (cs : List (List Lit)) (vs : List ℕ) (unit gate : ℕ → Bool) → ((v : ℕ) → has_clause cs (positive v ∷ []) ≡ unit v) → GatesAre cs vs gate
    → (before : List ℕ) (rest : List Bound) → before ++ prefix_variables rest ≡ vs → tail_from cs before rest ≡ longest unit gate rest
longest_is cs vs unit gate units gates before [] split = refl
longest_is cs vs unit gate units gates before (b ∷ rest) split =
    let next = append_assoc before (b.var.0 ∷ []) (prefix_variables rest) ∙ split in
    ap₂ (λ x y. if same_quant b.quant Exists && x then length (b ∷ rest) else y)
    (ap₂ (λ x y. x && y) (units b.var.0) (all_gates cs vs gate gates (before ++ b.var.0 ∷ []) rest next))
    (longest_is cs vs unit gate units gates (before ++ b.var.0 ∷ []) rest next)

pub walk_is_tail : (cs : List (List Lit)) (bounds : List Bound) (unit gate : ℕ → Bool) → ((v : ℕ) → has_clause cs (positive v ∷ []) ≡ unit v) → GatesAre cs (prefix_variables bounds) gate
    → longest_from unit gate 0 bounds ≡ tail_from cs [] bounds
walk_is_tail cs bounds unit gate units gates =
    walked unit gate 0 bounds ∙ sym (longest_is cs (prefix_variables bounds) unit gate units gates [] bounds refl)
