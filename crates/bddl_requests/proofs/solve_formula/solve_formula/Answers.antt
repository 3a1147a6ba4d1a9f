use Rattle.std.proofs.Common.{false, subst, sym, true}
use Rattle.bddl_model.specs.declared.formula.Quant.TheVariants as quant
use Rattle.bddl_model.specs.declared.formula.Verdict.TheVariants as verdict
use Rattle.bddl_model.specs.Outcome.{FormulaSolveEnds, FormulaThen}
use Rattle.bddl_model.specs.Verdicts.{IsValue}
use Rattle.bddl_requests.specs.Decisions.{IsTold}
use Rattle.bddl_requests.proofs.Deciding.{block_within, false_is_an_end, true_is_an_end, writes_in}
use Rattle.bddl_requests.proofs.solve_formula.solve_formula.Goals as goal

pub tell-requires : goal.tell-requires
tell-requires g c =
    let value = rw c.in-True.is at c.in_ok-first.ensures.yes in
    rw (c.deref.ensures.value, value.block) (block_within quant.Exists c.in_ok-read.read.form.prefix)

pub returns-in-True-clause-written : goal.returns-in-True-clause-written
returns-in-True-clause-written g c =
    let read = c.in_ok-read.read in
    let value = subst (IsValue read.form quant.Exists true) (sym c.deref.ensures.value) (rw c.in-True.is at c.in_ok-first.ensures.yes) in
    writes_in (IsTold verdict.True read.variables read.clauses read.form.prefix c.deref.result.now) (FormulaThen c.args.text.now (FormulaSolveEnds c.args.budget)) _ _ _
    (true_is_an_end c.args.text.now c.args.budget read.variables read.clauses read.form c.in_ok-read.ensures.found c.deref.result.now value) c.tell.ensures.written

pub tell-requires-in-False : goal.tell-requires-in-False
tell-requires-in-False g c =
    let value = rw c.in-False.is at c.in_ok-first.ensures.no in
    rw (c.deref-in-False.ensures.value, value.block) (block_within quant.All c.in_ok-read.read.form.prefix)

pub returns-in-False-clause-written : goal.returns-in-False-clause-written
returns-in-False-clause-written g c =
    let read = c.in_ok-read.read in
    let value = subst (IsValue read.form quant.All false) (sym c.deref-in-False.ensures.value) (rw c.in-False.is at c.in_ok-first.ensures.no) in
    writes_in (IsTold verdict.False read.variables read.clauses read.form.prefix c.deref-in-False.result.now) (FormulaThen c.args.text.now (FormulaSolveEnds c.args.budget)) _ _ _
    (false_is_an_end c.args.text.now c.args.budget read.variables read.clauses read.form c.in_ok-read.ensures.found c.deref-in-False.result.now value) c.tell-in-False.ensures.written
