use Rattle.std.proofs.Common.{◌≡◌, ℕ, ◌<◌, List, [], ◌∷◌, ◌++◌, Bool, length, vec_len, sym, ap, subst, ◌∙◌, arith}
use Rattle.std.specs.Prelude.{nat_lt}
use Rattle.bddl_model.specs.declared.formula.Bound.{Bound}
use Rattle.bddl_model.specs.Truth.{Assignment, assign}
use Rattle.qbf_search.specs.Standing.{Stands, bound_at}
use Rattle.qbf_search.specs.Tails.{first_value}
use Rattle.qbf_search.specs.Values.{assignment}
use Rattle.qbf_search.proofs.Standing.{put_stands, variable_within}
use Rattle.qbf_search.proofs.search.put.Goals as goal

pub set_value-requires : goal.set_value-requires
set_value-requires c =
    let bound : c.bound_at.result ≡ bound_at c.args.form.now.prefix c.len-place.result = c.bound_at.ensures ∙ ap (λ p. bound_at p c.len-place.result) (c.as_slice.ensures ∙ c.prefix.ensures) in
    subst (λ (b : Bound). b.var.0 < vec_len c.args.values.now) (sym bound)
    (variable_within c.args.form.now c.len-place.result (vec_len c.args.values.now) c.requires.room (omega arith))

pub returns-clause-stands : goal.returns-clause-stands
returns-clause-stands c =
    let f = c.args.form.now in
    let before = c.args.tail.now.before in
    let rows = c.args.tail.now.implied in
    let decisions = c.args.decisions.now.items in
    let a = assignment c.args.values.now.items in
    let place : length decisions ≡ c.len-place.result = sym c.args.decisions.now.ok.0 ∙ sym c.len-place.ensures in
    let bound : c.bound_at.result ≡ bound_at f.prefix c.len-place.result = c.bound_at.ensures ∙ ap (λ p. bound_at p c.len-place.result) (c.as_slice.ensures ∙ c.prefix.ensures) in
    let same : assignment c.set_value.new.values.items ≡ assign (bound_at f.prefix c.len-place.result).var.0 (first_value before rows c.len-place.result a) a =
    c.set_value.ensures.value
    ∙ ap (λ t. assign c.bound_at.result.var.0 t a) (c.first_value-value.ensures ∙ ap (λ xs. first_value before rows c.len-place.result (assignment xs)) c.deref.ensures.value)
    ∙ ap (λ (b : Bound). assign b.var.0 (first_value before rows c.len-place.result a) a) bound in
    let more : c.push_reserved.new.self.items ≡ decisions ++ nat_lt c.len-place.result before ∷ [] = c.push_reserved.ensures.items ∙ ap (λ t. decisions ++ t ∷ []) c.is_before.ensures in
    let shorter : length decisions < length f.prefix = omega arith in
    subst (λ (x : Assignment). Stands f before c.push_reserved.new.self.items x) (sym same)
    (subst (λ (ds : List Bool). Stands f before ds (assign (bound_at f.prefix c.len-place.result).var.0 (first_value before rows c.len-place.result a) a)) (sym more)
    (subst (λ (n : ℕ). Stands f before (decisions ++ nat_lt n before ∷ []) (assign (bound_at f.prefix n).var.0 (first_value before rows n a) a)) place
    (put_stands f before rows decisions a c.keeps_its_form.ensures c.requires.tail shorter c.requires.stands)))
