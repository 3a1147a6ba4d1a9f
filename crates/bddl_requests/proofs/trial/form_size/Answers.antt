use Rattle.std.proofs.Common.{ℕ, ◌≡◌, ◌<◌, ◌-◌, true, length, drop, length-drop, ap, ◌∙◌, arith}
use Rattle.std.proofs.lemmas.Bool.{leb-true}
use Rattle.bddl_model.specs.Layout.{Inputs}
use Rattle.bddl_model.specs.Setup.{Setup}
use Rattle.bddl_model.specs.Size.{gate_limit, inputs_of, is_small}
use Rattle.bddl_model.specs.Truth.{Formula}
use Rattle.lifted_encode.specs.Encoded.{setup_of}
use Rattle.bddl_requests.proofs.trial.form_size.Goals as goal

within : (f : Formula) (s : Setup) (inputs count gates limit : ℕ) → is_small f s ≡ true → inputs ≡ inputs_of s → count ≡ length f.prefix → gates ≡ count - inputs → limit ≡ gate_limit s → limit < gates → ⊥
unfolding is_small
within f s inputs count gates limit small i n g l over =
    let few = leb-true (length (drop (inputs_of s) f.prefix)) (gate_limit s) small in
    let rest = length-drop (inputs_of s) f.prefix in
    omega (arith, few, rest, i, n, g, l, over)

pub prove-unreachable-requires : goal.prove-unreachable-requires
prove-unreachable-requires c =
    let s = setup_of c.setup.inside.game c.setup.inside.board.marks c.setup.inside.first c.setup.inside.depth in
    let inputs = ap (λ t. t.layout.inputs) c.compiled.view_is ∙ ap (λ (t : Inputs). t.inputs) c.in_ok-compiled.ensures.layout in
    let count = ap length (c.as_slice.ensures ∙ c.prefix.ensures) ∙ ap (λ t. length t.form.prefix) c.compiled.view_is in
    within c.in_ok-compiled.compiled.form s _ _ c.saturating_sub-gates.result c.gate_limit-limit.result c.in_ok-compiled.ensures.form.small inputs count c.saturating_sub-gates.ensures c.gate_limit-limit.ensures.limit c.if-prove.true
