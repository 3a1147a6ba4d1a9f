use Rattle.std.proofs.Common.{length, refl, ap, ◌∙◌}
use Rattle.std.proofs.lemmas.Result.{on_ok_weaker}
use Rattle.symbol_cell.specs.Runs.{Run}
use Rattle.symbol_cell.specs.Coded.{Carries}
use Rattle.std.proofs.Common.{sym, subst, List}
use Rattle.bddl_model.specs.declared.circuit.Wire.{Wire}
use Rattle.lifted_encode.proofs.Carrying.{carries_stay}
use Rattle.lifted_encode.proofs.Reading.{carried_length}
use Rattle.lifted_encode.proofs.run.also_follow.Goals as goal

pub step-requires-clause-code_bits : goal.step-requires-clause-code_bits
step-requires-clause-code_bits c = ap length c.deref.ensures.value ∙ carried_length c.args.dag.now c.args.ply.code c.in_ok-code.code.items c.in_ok-code.ensures ∙ c.requires.ply.code.1

pub returns-clause-ply : goal.returns-clause-ply
returns-clause-ply c =
    let code = subst (λ (ws : List Wire). Carries c.args.dag.now c.args.ply.code ws) (sym c.deref.ensures.value) c.in_ok-code.ensures in
    on_ok_weaker c.step.result
    (λ added. (
      record { side = c.args.ply.side; code = c.deref.result.now },
      ap (λ (r : Run). r.plies) added.1,
      refl,
      carries_stay _ c.args.dag.now c.step.new.dag c.args.ply.code c.deref.result.now c.step.ensures.grows code,
    ))
    c.step.ensures.added
