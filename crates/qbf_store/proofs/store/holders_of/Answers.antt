use Rattle.std.proofs.Common.{subst, ◌∙◌, arith}
use Rattle.std.proofs.lemmas.List.{take_all}
use Rattle.qbf_store.specs.declared.constraint.ConstraintId.TheVariants.{Original}
use Rattle.qbf_store.specs.Constraints.{of_form}
use Rattle.qbf_store.specs.Kept.{RowsHold}
use Rattle.qbf_store.proofs.Entering.{entered_behind}
use Rattle.qbf_store.proofs.Originals.{next_clause}
use Rattle.qbf_store.proofs.store.holders_of.Goals as goal

pub loop-number-preserved : goal.loop-number-preserved
loop-number-preserved c =
    let f = c.args.form.now in
    let n = c.loop-number.number in
    let rows = c.loop-number.holders.rows.items in
    record {
      count = c.enter.ensures.count ∙ c.reserve.ensures.count ∙ c.loop-number.invariant.count;
      rows = λ most. next_clause f n most c.clause-literals.result.now rows c.enter.new.self.rows.items (omega arith) c.clause-literals.ensures.literals (c.loop-number.invariant.rows most)
          (entered_behind f.prefix c.prefix-in-loop-number-2.result.now rows c.reserve.new.self.rows.items c.enter.new.self.rows.items c.clause-literals.result.now (Original n) c.prefix-in-loop-number-2.ensures c.reserve.ensures.rows c.enter.ensures.rows);
    }

pub returns-clause-rows : goal.returns-clause-rows
returns-clause-rows c most =
    let f = c.args.form.now in
    subst (λ cs. RowsHold (of_form (record { prefix = f.prefix; clauses = cs }) most) c.loop-number.holders.rows.items) (take_all c.loop-number.number f.clauses (omega arith)) (c.loop-number.invariant.rows most)
