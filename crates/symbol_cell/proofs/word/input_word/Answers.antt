use Rattle.std.proofs.Common.{◌≡◌, suc, ◌+◌, sym, subst, ap, ap₂, ◌∙◌, ◌∷◌, [], ◌++◌, arith}
use Rattle.std.proofs.lemmas.List.{map-append}
use Rattle.bddl_model.specs.Circuit.{holds}
use Rattle.bddl_model.specs.Words.{AreWires, word_bits}
use Rattle.bddl_model.proofs.WireItems.{word_push}
use Rattle.symbol_cell.specs.Coded.{values_at}
use Rattle.symbol_cell.proofs.Carried.{values_push}
use Rattle.symbol_cell.proofs.word.input_word.Goals as goal

pub inputs-preserved : goal.inputs-preserved
inputs-preserved c =
    let dag = c.args.dag.now in
    let pushed = c.in_ok-push.ensures.items in
    let next : suc c.inputs.i ≡ c.inputs.i + 1 = omega arith in
    record {
      wires = subst (AreWires dag) (sym pushed) (word_push dag c.inputs.word.items c.input.result c.inputs.invariant.wires c.input.ensures.wire);
      bits = λ a.
          ap (λ ws. word_bits dag ws a) pushed
          ∙ map-append (λ w. holds dag w a) c.inputs.word.items (c.input.result ∷ [])
          ∙ ap₂ (λ l b. l ++ b ∷ []) (c.inputs.invariant.bits a) (c.input.ensures.value a)
          ∙ sym (values_push a c.args.span.from c.inputs.i)
          ∙ ap (values_at a c.args.span.from) next;
    }
