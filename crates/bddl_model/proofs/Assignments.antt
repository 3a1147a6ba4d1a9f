-- Assignments that are the same but for the variables that a prefix binds.
use Rattle.std.proofs.Common.{◌≡◌, ℕ, Bool, true, false, List, [], ◌∷◌, ◌++◌, refl, sym, ap, ap₂, ◌∙◌, eq-eqb, ne_eqb, eqb-true}
use Rattle.std.specs.Prelude.{◌==◌}
use Rattle.std.proofs.lemmas.Bool.{or_parts, or_from, false≢true}
use mathlib.Core.Path.{fun_ext}
use Rattle.bddl_model.specs.declared.formula.Bound.{Bound}
use Rattle.bddl_model.specs.Truth.{Assignment, assign, join, value}
use Rattle.bddl_model.specs.Forms.{has_number, prefix_variables}

abbrev pub binds : List Bound → ℕ → Bool
binds bounds v = has_number (prefix_variables bounds) v

-- the other way round
pub eqb_turned : (v w : ℕ) → (v == w) ≡ false → (w == v) ≡ false
eqb_turned v w h = ne_eqb w v (λ e. false≢true (sym h ∙ eq-eqb v w (sym e)))

pub assign_same : (v : ℕ) (b : Bool) (a : Assignment) → assign v b a v ≡ b
assign_same v b a = rw (eq-eqb v v refl)

pub assign_other : (v : ℕ) (b : Bool) (a : Assignment) (w : ℕ) → (v == w) ≡ false → assign v b a w ≡ a w
assign_other v b a w h = rw (eqb_turned v w h)

-- two assignments that differ at most where the prefix binds
abbrev pub SameOutside : List Bound → Assignment → Assignment → Type 0
SameOutside rest a b = (w : ℕ) → binds rest w ≡ false → a w ≡ b w

pub same_at_all : (a : Assignment) (rest : List Bound) → SameOutside rest a a
same_at_all a rest w o = refl

-- one more value, the same on both sides
pub same_assign : (x : Bound) (rest : List Bound) (v : Bool) (a b : Assignment) → SameOutside (x ∷ rest) a b → SameOutside rest (assign x.var.0 v a) (assign x.var.0 v b)
same_assign x rest v a b h w out = go (x.var.0 == w) refl
  where
    go : (t : Bool) → (x.var.0 == w) ≡ t → assign x.var.0 v a w ≡ assign x.var.0 v b w
    go true e = rw (eq-eqb w x.var.0 (sym (eqb-true x.var.0 w e)))
    go false e = assign_other x.var.0 v a w e ∙ h w (or_from _ _ e out) ∙ sym (assign_other x.var.0 v b w e)

pub outside_assign : (x : Bound) (rest : List Bound) (t : Bool) (a b : Assignment) → SameOutside rest (assign x.var.0 t a) b → SameOutside (x ∷ rest) a b
outside_assign x rest t a b h w out =
    let p = or_parts _ _ out in
    sym (assign_other x.var.0 t a w p.0) ∙ h w p.1

-- the value is the test's of what lies outside the prefix
pub value_same : (rest : List Bound) (m : Assignment → Bool) (a b : Assignment) → SameOutside rest a b → value rest m a ≡ value rest m b
value_same [] m a b h = ap m (fun_ext (λ w. h w refl))
value_same (x ∷ rest) m a b h =
    ap₂ (join x.quant) (value_same rest m _ _ (same_assign x rest true a b h)) (value_same rest m _ _ (same_assign x rest false a b h))

pub value-append : (p q : List Bound) (m : Assignment → Bool) (a : Assignment) → value (p ++ q) m a ≡ value p (value q m) a
value-append [] q m a = refl
value-append (x ∷ p) q m a = ap₂ (join x.quant) (value-append p q m _) (value-append p q m _)
