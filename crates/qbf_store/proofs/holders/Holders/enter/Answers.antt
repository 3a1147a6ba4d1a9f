use Rattle.std.proofs.Common.{◌≡◌, ◌+◌, true, false, drop, get_or, subst, sym, ◌∙◌}
use Rattle.std.proofs.lemmas.List.{drop_more}
use Rattle.bddl_model.specs.declared.formula.Lit.{Lit}
use Rattle.bddl_model.specs.Forms.{has_literal, FitsPrefix}
use Rattle.qbf_form.proofs.SameClauses.{here}
use Rattle.qbf_store.specs.Constraints.{times}
use Rattle.qbf_store.specs.Rows.{row, row_of, entered, HasRoom}
use Rattle.qbf_store.proofs.Entering.{rest_fits, enter_step, room_step}
use Rattle.qbf_store.proofs.holders.Holders.enter.Goals as goal

pub enter-requires-clause-room : goal.enter-requires-clause-room
enter-requires-clause-room c =
    let ls = c.args.literals.now in
    let i = c.loop-literal.literal-index in
    let m : Lit = get_or ls i (record { var = record { 0 = 0 }; negated = false }) in
    subst (λ n. HasRoom c.loop-literal.self.rows.items n) (sym c.row_number.ensures.number)
    (c.loop-literal.invariant.room m (subst (λ r. has_literal r m ≡ true) (sym (drop_more ls i (record { var = record { 0 = 0 }; negated = false }) c.loop-literal-test.true)) (here m (drop (i + 1) ls))))

pub loop-literal-preserved : goal.loop-literal-preserved
loop-literal-preserved c =
    let bounds = c.args.prefix.now in
    let ls = c.args.literals.now in
    let i = c.loop-literal.literal-index in
    let m : Lit = get_or ls i (record { var = record { 0 = 0 }; negated = false }) in
    let split = drop_more ls i (record { var = record { 0 = 0 }; negated = false }) c.loop-literal-test.true in
    let fits = subst (λ r. FitsPrefix bounds r) split c.loop-literal.invariant.fits in
    let rows = c.loop-literal.self.rows.items in
    let next = c.enter.new.rows.items in
    record {
      count = c.enter.ensures.count ∙ c.loop-literal.invariant.count;
      fits = rest_fits bounds m (drop (i + 1) ls) fits;
      room = room_step bounds rows next m (drop (i + 1) ls) c.row_number.result fits c.row_number.ensures.number c.enter.ensures.keeps
          (λ l h. c.loop-literal.invariant.room l (subst (λ r. has_literal r l ≡ true) (sym split) h));
      rows = enter_step bounds rows next m (drop (i + 1) ls) c.args.id c.row_number.result (λ l x. times x (row c.args.self.now.rows.items (row_of bounds l)) + entered ls c.args.id l x) fits c.row_number.ensures.number c.enter.ensures.rows
          (λ l x. subst (λ r. times x (row rows (row_of bounds l)) + entered r c.args.id l x ≡ times x (row c.args.self.now.rows.items (row_of bounds l)) + entered ls c.args.id l x) split (c.loop-literal.invariant.rows l x));
    }
