use Rattle.std.proofs.Common.{◌≡◌, ℕ, ◌<◌, ◌-◌, suc, false, vec_len, set, not, sym, ap, subst, ◌∙◌, arith}
use Rattle.bddl_model.specs.declared.formula.Bound.{Bound}
use Rattle.bddl_model.specs.Truth.{Assignment, assign}
use Rattle.qbf_search.specs.Standing.{Stands, bound_at, decides, value_from}
use Rattle.qbf_search.specs.Values.{assignment}
use Rattle.qbf_search.proofs.Standing.{flip_stands, variable_within}
use Rattle.qbf_search.proofs.search.flip.Goals as goal

bound_is : (c : goal.After-set_value-arg-1) → c.bound_at.result ≡ bound_at c.args.form.now.prefix (c.len-place.result - 1)
bound_is c = c.bound_at.ensures ∙ ap (λ p. bound_at p (c.len-place.result - 1)) (c.as_slice.ensures ∙ c.prefix.ensures)

pub set_value-requires : goal.set_value-requires
set_value-requires c =
    subst (λ (b : Bound). b.var.0 < vec_len c.args.values.now) (sym (bound_is c))
    (variable_within c.args.form.now (c.len-place.result - 1) (vec_len c.args.values.now) c.requires.room (let within = c.requires.stands.within in omega arith))

pub returns-clause-stands : goal.returns-clause-stands
returns-clause-stands c =
    let f = c.args.form.now in
    let a = assignment c.args.values.now.items in
    let i = c.len-place.result - 1 in
    let last : vec_len c.args.decisions.now ≡ suc (c.len-place.result - 1) = omega arith in
    let before_last : vec_len c.args.decisions.now - 1 ≡ c.len-place.result - 1 = omega arith in
    let bound : c.bound_at.result ≡ bound_at f.prefix i = c.bound_at.ensures ∙ ap (λ p. bound_at p i) (c.as_slice.ensures ∙ c.prefix.ensures) in
    let same : assignment c.set_value.new.values.items ≡ assign (bound_at f.prefix i).var.0 (not (a (bound_at f.prefix i).var.0)) a =
    c.set_value.ensures.value
    ∙ ap (λ t. assign c.bound_at.result.var.0 (not t) a) (c.value_of-value.ensures ∙ ap (λ xs. assignment xs c.bound_at.result.var.0) c.deref.ensures.value)
    ∙ ap (λ (b : Bound). assign b.var.0 (not (a b.var.0)) a) bound in
    subst (λ (x : Assignment). Stands f c.args.tail.now.before (set c.args.decisions.now.items i false) x) (sym same)
    (flip_stands f c.args.tail.now.before c.args.decisions.now.items a i c.keeps_its_form.ensures c.requires.stands (sym c.args.decisions.now.ok.0 ∙ last)
    (subst (λ (n : ℕ). decides (bound_at f.prefix i).quant (value_from n f a) ≡ false) last
    (subst (λ (n : ℕ). decides (bound_at f.prefix n).quant (value_from (vec_len c.args.decisions.now) f a) ≡ false) before_last c.requires.tried)))
