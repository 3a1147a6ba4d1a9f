use Rattle.std.proofs.Common.{rules, ◌++◌, ap, sym, ◌∙◌}
use Rattle.io_edge.proofs.Added.{added_nothing, added_more, added_stops, added_last, adds_same}
use Rattle.qdimacs_io.proofs.Lines.{number_of, ended, block_is, ended_next, ended_none}
use Rattle.qdimacs_io.proofs.head.add_block.Goals as goal

pub returns-in_err-add-clause-text : goal.returns-in_err-add-clause-text
returns-in_err-add-clause-text g c =
    let next = block_is c.args.quant c.args.block.now ∙ ap (λ t. t ++ ended number_of c.args.block.now) (sym c.opening.ensures) in
    added_stops _ _ _ _ next _ _ _ _ _ _ (added_nothing _ _ _) _ c.from_residual.ensures.0 c.in_err-add.ensures.text

pub loop-bound-init : goal.loop-bound-init
loop-bound-init g c =
    let next = ap (λ t. t ++ ended number_of c.args.block.now) (sym c.opening.ensures) in
    record {
      added = added_more _ _ _ _ next _ _ _ _ _ _ (added_nothing _ _ _) c.in_ok-add.ensures.text;
      counts = search rules;
    }

pub returns-in_err-add_variable-clause-text : goal.returns-in_err-add_variable-clause-text
returns-in_err-add_variable-clause-text g c =
    let next = ended_next number_of c.args.block.now c.loop-bound.bound-index _ c.loop-bound-test.true in
    adds_same _ _ (sym (block_is c.args.quant c.args.block.now)) _ _ _ _ _ (added_stops _ _ _ _ next _ _ _ _ _ _ c.loop-bound.invariant.added _ c.from_residual-in_err-add_variable.ensures.0 c.in_err-add_variable.ensures.text)

pub loop-bound-preserved : goal.loop-bound-preserved
loop-bound-preserved g c =
    let next = ended_next number_of c.args.block.now c.loop-bound.bound-index _ c.loop-bound-test.true in
    record {
      added = added_more _ _ _ _ next _ _ _ _ _ _ c.loop-bound.invariant.added c.in_ok-add_variable.ensures.text;
      counts = search rules;
    }

pub returns-clause-text : goal.returns-clause-text
returns-clause-text g c =
    let rest = ended_none number_of c.args.block.now c.loop-bound.bound-index c.loop-bound-test.false in
    adds_same _ _ (sym (block_is c.args.quant c.args.block.now)) _ _ _ _ _ (added_last _ _ _ rest _ _ _ _ _ _ _ c.loop-bound.invariant.added c.add-2.ensures.text)
