use Rattle.std.proofs.Common.{◌≡◌, ◌+◌, ◌-◌, false, drop, get_or, subst, ◌∙◌}
use Rattle.std.proofs.lemmas.List.{drop_more}
use Rattle.bddl_model.specs.declared.formula.Lit.{Lit}
use Rattle.bddl_model.specs.Forms.{FitsPrefix}
use Rattle.qbf_store.specs.Constraints.{times}
use Rattle.qbf_store.specs.Rows.{row, row_of, entered}
use Rattle.qbf_store.proofs.Entering.{rest_fits, leave_step}
use Rattle.qbf_store.proofs.holders.Holders.leave.Goals as goal

pub loop-literal-preserved : goal.loop-literal-preserved
loop-literal-preserved c =
    let bounds = c.args.prefix.now in
    let ls = c.args.literals.now in
    let i = c.loop-literal.literal-index in
    let m : Lit = get_or ls i (record { var = record { 0 = 0 }; negated = false }) in
    let split = drop_more ls i (record { var = record { 0 = 0 }; negated = false }) c.loop-literal-test.true in
    let fits = subst (λ r. FitsPrefix bounds r) split c.loop-literal.invariant.fits in
    let rows = c.loop-literal.self.rows.items in
    record {
      count = c.leave.ensures.count ∙ c.loop-literal.invariant.count;
      fits = rest_fits bounds m (drop (i + 1) ls) fits;
      rows = leave_step bounds rows c.leave.new.rows.items m (drop (i + 1) ls) c.args.id c.row_number.result (λ l x. times x (row c.args.self.now.rows.items (row_of bounds l)) - entered ls c.args.id l x) fits c.row_number.ensures.number c.leave.ensures.rows
          (λ l x. subst (λ r. times x (row rows (row_of bounds l)) - entered r c.args.id l x ≡ times x (row c.args.self.now.rows.items (row_of bounds l)) - entered ls c.args.id l x) split (c.loop-literal.invariant.rows l x));
    }
