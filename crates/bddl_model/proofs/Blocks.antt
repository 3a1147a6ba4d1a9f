-- A block of one quantifier asks for some values of its variables, or for all.
use Rattle.std.proofs.Common.{◌≡◌, ℕ, zero, suc, ◌+◌, ◌≤◌, ◌<◌, Bool, true, false, List, [], ◌∷◌, ◌++◌, ◌⊎◌, inl, inr, ⊎_elim, refl, sym, ap, ap₂, ◌∙◌, arith, eq-eqb, eqb-true, ne_eqb}
use Rattle.std.specs.Prelude.{◌==◌}
use Rattle.std.proofs.lemmas.Bool.{or_from, or_cases, or_left, or_right, and_parts, and_from, false≢true, cases_lt}
use mathlib.Core.Path.{fun_ext}
use Rattle.bddl_model.specs.declared.formula.Quant.{Quant}
use Rattle.bddl_model.specs.declared.formula.Quant.TheVariants.{Exists, All}
use Rattle.bddl_model.specs.declared.formula.Bound.{Bound}
use Rattle.bddl_model.specs.Truth.{Assignment, assign, join, value}
use Rattle.bddl_model.specs.Forms.{has_number}
use Rattle.bddl_model.specs.Layout.{bounds}
use Rattle.bddl_model.proofs.Truth.{join_same}
use Rattle.bddl_model.proofs.Counted.{variables-bounds, not_counted, among_counted}
use Rattle.bddl_model.proofs.Assignments.{binds, SameOutside, same_at_all, outside_assign, assign_other}

-- ---- which variables a block binds

pub not_bound : (q : Quant) (n v w : ℕ) → (w < v) ⊎ (v + n ≤ w) → binds (bounds q v n) w ≡ false
not_bound q n v w out = ap (λ l. has_number l w) (variables-bounds q v n) ∙ not_counted v n w out

pub stands_outside : (q : Quant) (n v w : ℕ) → binds (bounds q v n) w ≡ false → (w < v) ⊎ (v + n ≤ w)
stands_outside q n v w h = elim (cases_lt w v) [
  | inl before ↦ inl before
  | inr low ↦ elim (cases_lt w (v + n)) [
    | inl high ↦ absurd (false≢true (sym h ∙ ap (λ l. has_number l w) (variables-bounds q v n) ∙ among_counted v n w low high))
    | inr behind ↦ inr behind
  ]
]

-- what is the same outside of a block is so outside of a wider one
pub outside_wider : (q p : Quant) (n v m w : ℕ) (a b : Assignment) → v ≤ w → w + m ≤ v + n → SameOutside (bounds p w m) a b → SameOutside (bounds q v n) a b
outside_wider q p n v m w a b low high s u out = s u (not_bound p m w u (⊎_elim (λ l. inl (omega arith)) (λ g. inr (omega arith)) (stands_outside q n v u out)))

-- ---- some values of a block's variables, or all

pub some_of_block : (n v : ℕ) (m : Assignment → Bool) (a : Assignment) → value (bounds Exists v n) m a ≡ true → (b : Assignment) × SameOutside (bounds Exists v n) a b × (m b ≡ true)
some_of_block zero v m a h = (a, same_at_all a [], h)
some_of_block (suc n) v m a h = ⊎_elim (λ i. step true (some_of_block n (suc v) m (assign v true a) i)) (λ i. step false (some_of_block n (suc v) m (assign v false a) i)) (or_cases _ _ h)
  where
    step : (t : Bool) → (b : Assignment) × SameOutside (bounds Exists (suc v) n) (assign v t a) b × (m b ≡ true) → (b : Assignment) × SameOutside (bounds Exists v (suc n)) a b × (m b ≡ true)
    step t x = (x.0, outside_assign (record { quant = Exists; var = record { 0 = v } }) (bounds Exists (suc v) n) t a x.0 x.1, x.2)

-- going on from values that are the same but at the first variable
outside_tail : (q : Quant) (v n : ℕ) (a b : Assignment) → SameOutside (bounds q v (suc n)) a b → SameOutside (bounds q (suc v) n) (assign v (b v) a) b
outside_tail q v n a b h w o = at (v == w) refl
  where
    at : (t : Bool) → (v == w) ≡ t → assign v (b v) a w ≡ b w
    at true e = rw (eq-eqb w v (sym (eqb-true v w e))) (ap b (eqb-true v w e))
    at false e = assign_other v (b v) a w e ∙ h w (or_from _ _ e o)

pub block_some : (n v : ℕ) (m : Assignment → Bool) (a b : Assignment) → SameOutside (bounds Exists v n) a b → m b ≡ true → value (bounds Exists v n) m a ≡ true
block_some zero v m a b s h = ap m (fun_ext (λ w. s w refl)) ∙ h
block_some (suc n) v m a b s h = at (b v) (block_some n (suc v) m (assign v (b v) a) b (outside_tail Exists v n a b s) h)
  where
    at : (t : Bool) → value (bounds Exists (suc v) n) m (assign v t a) ≡ true → value (bounds Exists v (suc n)) m a ≡ true
    at true i = or_left _ _ i
    at false i = or_right _ _ i

pub all_of_block : (n v : ℕ) (m : Assignment → Bool) (a b : Assignment) → SameOutside (bounds All v n) a b → value (bounds All v n) m a ≡ true → m b ≡ true
all_of_block zero v m a b s h = sym (ap m (fun_ext (λ w. s w refl))) ∙ h
all_of_block (suc n) v m a b s h = all_of_block n (suc v) m (assign v (b v) a) b (outside_tail All v n a b s) (at (b v) (and_parts _ _ h))
  where
    at : (t : Bool) → (value (bounds All (suc v) n) m (assign v true a) ≡ true) × (value (bounds All (suc v) n) m (assign v false a) ≡ true) → value (bounds All (suc v) n) m (assign v t a) ≡ true
    at true i = i.0
    at false i = i.1

pub block_all : (n v : ℕ) (m : Assignment → Bool) (a : Assignment) → ((b : Assignment) → SameOutside (bounds All v n) a b → m b ≡ true) → value (bounds All v n) m a ≡ true
block_all zero v m a h = h a (same_at_all a [])
block_all (suc n) v m a h = and_from _ _ (block_all n (suc v) m (assign v true a) (λ b s. h b (step true b s))) (block_all n (suc v) m (assign v false a) (λ b s. h b (step false b s)))
  where
    step : (t : Bool) (b : Assignment) → SameOutside (bounds All (suc v) n) (assign v t a) b → SameOutside (bounds All v (suc n)) a b
    step t b s = outside_assign (record { quant = All; var = record { 0 = v } }) (bounds All (suc v) n) t a b s

-- ---- a test that reads no variable from some number on

-- values that are the same below v
abbrev pub SameBelow : ℕ → Assignment → Assignment → Type 0
SameBelow v a b = (w : ℕ) → w < v → a w ≡ b w

pub below_block : (q : Quant) (n v : ℕ) (a b : Assignment) → SameOutside (bounds q v n) a b → SameBelow v a b
below_block q n v a b s w lt = s w (not_bound q n v w (inl lt))

-- a matrix with one VALUE whatever the variables from v on are
abbrev pub AllFrom : ℕ → List Bound → Type 0
AllFrom v [] = Unit {0}
AllFrom v (x ∷ rest) = (v ≤ x.var.0) × AllFrom v rest

put_below : (v x : ℕ) (y : Bool) (a b : Assignment) → v ≤ x → SameBelow v (assign x y a) b → SameBelow v a b
put_below v x y a b f s w lt = sym (assign_other x y a w (ne_eqb x w (λ e. omega arith))) ∙ s w lt

pub settled : (rest : List Bound) (v : ℕ) (m : Assignment → Bool) (t : Bool) (a : Assignment) → AllFrom v rest → ((b : Assignment) → SameBelow v a b → m b ≡ t) → value rest m a ≡ t
settled [] v m t a f h = h a (λ w lt. refl)
settled (x ∷ rest) v m t a f h =
    ap₂ (join x.quant)
    (settled rest v m t (assign x.var.0 true a) f.1 (λ b s. h b (put_below v x.var.0 true a b f.0 s)))
    (settled rest v m t (assign x.var.0 false a) f.1 (λ b s. h b (put_below v x.var.0 false a b f.0 s)))
    ∙ join_same x.quant t

pub all_from_block : (q : Quant) (n v w : ℕ) → w ≤ v → AllFrom w (bounds q v n)
all_from_block q zero v w le = tt
all_from_block q (suc n) v w le = (le, all_from_block q n (suc v) w (omega arith))

pub AllFrom-append : (p q : List Bound) (w : ℕ) → AllFrom w p → AllFrom w q → AllFrom w (p ++ q)
AllFrom-append [] q w f g = g
AllFrom-append (x ∷ p) q w f g = (f.0, AllFrom-append p q w f.1 g)

pub all_from_less : (p : List Bound) (v w : ℕ) → w ≤ v → AllFrom v p → AllFrom w p
all_from_less [] v w le f = tt
all_from_less (x ∷ p) v w le f = ((let h : v ≤ x.var.0 = f.0 in omega arith), all_from_less p v w le f.1)
