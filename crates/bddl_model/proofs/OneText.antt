-- A text has one form at most.
use Rattle.std.proofs.Common.{◌≡◌, ℕ, Bool, List, [], ◌∷◌, ◌++◌, map, refl, sym, ap, ap₂, ◌∙◌, arith, append_assoc}
use Rattle.std.specs.List.{flat_map}
use Rattle.bddl_model.specs.declared.formula.Quant.{Quant}
use Rattle.bddl_model.specs.declared.formula.Lit.{Lit}
use Rattle.bddl_model.specs.Truth.{Formula}
use Rattle.bddl_model.specs.Forms.{AllInRange, literal_variables}
use Rattle.bddl_model.specs.FormulaText.{QuantSet, FormulaText}
use Rattle.bddl_model.specs.FormulaWords.{FormulaToken, quantifier}
use Rattle.bddl_model.specs.Qdimacs.{natural, literal, set_tokens, clause_tokens, text_tokens, bound_variables, IsProper, form_of, Qdimacs}
use Rattle.bddl_model.proofs.NumberLists.{ranges_parts}
use Rattle.bddl_model.proofs.PlainTokens.{in_range_is}

-- ---- up to a 0

one_set : (most other : ℕ) (vs ws : List ℕ) (r s : List FormulaToken) → AllInRange most vs → AllInRange other ws → map natural vs ++ natural 0 ∷ r ≡ map natural ws ++ natural 0 ∷ s → (vs ≡ ws) × (r ≡ s)
one_set most other [] [] r s a b h = (refl, cc)
one_set most other [] (w ∷ ws) r s a b h = let e : 0 ≡ w = cc in let k = in_range_is other w b.0 in absurd (omega (arith, k.0))
one_set most other (v ∷ vs) [] r s a b h = let e : v ≡ 0 = cc in let k = in_range_is most v a.0 in absurd (omega (arith, k.0))
one_set most other (v ∷ vs) (w ∷ ws) r s a b h =
    let e : v ≡ w = cc in
    let t : map natural vs ++ natural 0 ∷ r ≡ map natural ws ++ natural 0 ∷ s = cc in
    let rest = one_set most other vs ws r s a.1 b.1 t in
    (ap₂ (λ x l. x ∷ l) e rest.0, rest.1)

one_literal : (l m : Lit) → literal l ≡ literal m → l ≡ m
one_literal l m h = let n : l.negated ≡ m.negated = cc in let v : l.var.0 ≡ m.var.0 = cc in ap₂ (λ (t : Bool) (x : ℕ). record { var = record { 0 = x }; negated = t }) n v

one_clause : (most other : ℕ) (ls ms : List Lit) (r s : List FormulaToken) → AllInRange most (literal_variables ls) → AllInRange other (literal_variables ms) → map literal ls ++ natural 0 ∷ r ≡ map literal ms ++ natural 0 ∷ s → (ls ≡ ms) × (r ≡ s)
one_clause most other [] [] r s a b h = (refl, cc)
one_clause most other [] (m ∷ ms) r s a b h = let e : 0 ≡ m.var.0 = cc in let k = in_range_is other m.var.0 b.0 in absurd (omega (arith, k.0))
one_clause most other (l ∷ ls) [] r s a b h = let e : l.var.0 ≡ 0 = cc in let k = in_range_is most l.var.0 a.0 in absurd (omega (arith, k.0))
one_clause most other (l ∷ ls) (m ∷ ms) r s a b h =
    let e : literal l ≡ literal m = cc in
    let t : map literal ls ++ natural 0 ∷ r ≡ map literal ms ++ natural 0 ∷ s = cc in
    let rest = one_clause most other ls ms r s a.1 b.1 t in
    (ap₂ (λ x l. x ∷ l) (one_literal l m e) rest.0, rest.1)

-- ---- all sets, and all clauses

set_front : (s : QuantSet) (sets : List QuantSet) (rest : List FormulaToken) → flat_map set_tokens (s ∷ sets) ++ rest ≡ quantifier s.quant ∷ map natural s.vars ++ natural 0 ∷ (flat_map set_tokens sets ++ rest)
set_front s sets rest =
    append_assoc (set_tokens s) (flat_map set_tokens sets) rest
    ∙ ap (λ l. quantifier s.quant ∷ l) (append_assoc (map natural s.vars) (natural 0 ∷ []) (flat_map set_tokens sets ++ rest))

clause_front : (ls : List Lit) (cs : List (List Lit)) → flat_map clause_tokens (ls ∷ cs) ≡ map literal ls ++ natural 0 ∷ flat_map clause_tokens cs
clause_front ls cs = append_assoc (map literal ls) (natural 0 ∷ []) (flat_map clause_tokens cs)

-- clauses begin with no quantifier
no_quantifier : (q : Quant) (ls : List Lit) (cs : List (List Lit)) (rest : List FormulaToken) → flat_map clause_tokens (ls ∷ cs) ≡ quantifier q ∷ rest → ⊥
no_quantifier q [] cs rest h = absurd cc
no_quantifier q (l ∷ ls) cs rest h = absurd cc

clauses_one : (most other : ℕ) (cs ds : List (List Lit)) → AllInRange most (flat_map literal_variables cs) → AllInRange other (flat_map literal_variables ds) → flat_map clause_tokens cs ≡ flat_map clause_tokens ds → cs ≡ ds
clauses_one most other [] [] a b h = refl
clauses_one most other [] ([] ∷ ds) a b h = absurd cc
clauses_one most other [] ((d ∷ ls) ∷ ds) a b h = absurd cc
clauses_one most other ([] ∷ cs) [] a b h = absurd cc
clauses_one most other ((c ∷ ls) ∷ cs) [] a b h = absurd cc
clauses_one most other (c ∷ cs) (d ∷ ds) a b h =
    let x = ranges_parts most (literal_variables c) (flat_map literal_variables cs) a in
    let y = ranges_parts other (literal_variables d) (flat_map literal_variables ds) b in
    let same = one_clause most other c d (flat_map clause_tokens cs) (flat_map clause_tokens ds) x.0 y.0 (sym (clause_front c cs) ∙ h ∙ clause_front d ds) in
    ap₂ (λ l ls. l ∷ ls) same.0 (clauses_one most other cs ds x.1 y.1 same.1)

sets_one : (most other : ℕ) (ss ts : List QuantSet) (cs ds : List (List Lit)) → AllInRange most (bound_variables ss) → AllInRange other (bound_variables ts)
    → flat_map set_tokens ss ++ flat_map clause_tokens cs ≡ flat_map set_tokens ts ++ flat_map clause_tokens ds → (ss ≡ ts) × (flat_map clause_tokens cs ≡ flat_map clause_tokens ds)
sets_one most other [] [] cs ds a b h = (refl, h)
sets_one most other [] (t ∷ ts) [] ds a b h = absurd (let e = h ∙ set_front t ts (flat_map clause_tokens ds) in cc)
sets_one most other [] (t ∷ ts) (c ∷ cs) ds a b h = absurd (no_quantifier t.quant c cs _ (h ∙ set_front t ts (flat_map clause_tokens ds)))
sets_one most other (s ∷ ss) [] cs [] a b h = absurd (let e = sym h ∙ set_front s ss (flat_map clause_tokens cs) in cc)
sets_one most other (s ∷ ss) [] cs (d ∷ ds) a b h = absurd (no_quantifier s.quant d ds _ (sym h ∙ set_front s ss (flat_map clause_tokens cs)))
sets_one most other (s ∷ ss) (t ∷ ts) cs ds a b h =
    let x = ranges_parts most s.vars (bound_variables ss) a in
    let y = ranges_parts other t.vars (bound_variables ts) b in
    let e = sym (set_front s ss (flat_map clause_tokens cs)) ∙ h ∙ set_front t ts (flat_map clause_tokens ds) in
    let q : s.quant ≡ t.quant = cc in
    let tail : map natural s.vars ++ natural 0 ∷ (flat_map set_tokens ss ++ flat_map clause_tokens cs) ≡ map natural t.vars ++ natural 0 ∷ (flat_map set_tokens ts ++ flat_map clause_tokens ds) = cc in
    let same = one_set most other s.vars t.vars (flat_map set_tokens ss ++ flat_map clause_tokens cs) (flat_map set_tokens ts ++ flat_map clause_tokens ds) x.0 y.0 tail in
    let rest = sets_one most other ss ts cs ds x.1 y.1 same.1 in
    (ap₂ (λ l ls. l ∷ ls) (ap₂ (λ (k : Quant) (vs : List ℕ). record { quant = k; vars = vs }) q same.0) rest.0, rest.1)

-- ---- the whole

abbrev text_of : ℕ → ℕ → List QuantSet → List (List Lit) → FormulaText
text_of variables said sets clauses = record { variables = variables; said = said; sets = sets; clauses = clauses }

one_text : (t u : FormulaText) → IsProper t → IsProper u → text_tokens t ≡ text_tokens u → t ≡ u
one_text t u p q h =
    let v : t.variables ≡ u.variables = cc in
    let n : t.said ≡ u.said = cc in
    let e : flat_map set_tokens t.sets ++ flat_map clause_tokens t.clauses ≡ flat_map set_tokens u.sets ++ flat_map clause_tokens u.clauses = cc in
    let sets = sets_one t.variables u.variables t.sets u.sets t.clauses u.clauses p.bound_range q.bound_range e in
    let clauses = clauses_one t.variables u.variables t.clauses u.clauses p.literals_range q.literals_range sets.1 in
    ap₂ (λ x y. text_of x y t.sets t.clauses) v n ∙ ap₂ (text_of u.variables u.said) sets.0 clauses

-- two readings of a text give one form and the same numbers
pub one_form : (bytes : List ℕ) (variables clauses others many : ℕ) (f g : Formula) → Qdimacs bytes variables clauses f → Qdimacs bytes others many g → (f ≡ g) × (variables ≡ others) × (clauses ≡ many)
one_form bytes variables clauses others many f g x y =
    let same = one_text x.0 y.0 x.1.proper y.1.proper (sym x.1.words ∙ y.1.words) in
    (sym x.5 ∙ ap form_of same ∙ y.5, sym x.2 ∙ ap (λ t. t.variables) same ∙ y.2, sym x.3 ∙ ap (λ t. t.said) same ∙ y.3)
