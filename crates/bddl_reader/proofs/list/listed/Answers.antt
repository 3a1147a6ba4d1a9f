use Rattle.std.proofs.Common.{◌∙◌, ap, not}
use Rattle.std.proofs.lemmas.Result.{err_from_is_err_and}
use Rattle.bddl_reader.proofs.Loops.{begins, goes_on, fails, is_done}
use Rattle.bddl_reader.proofs.list.listed.Goals as goal

pub items-init : goal.items-init
items-init g c = rw c.new-found.ensures (begins _ _ _)

pub returns-in_err-item : goal.returns-in_err-item
returns-in_err-item g c =
    let stopped = err_from_is_err_and c.from_residual.result c.from_residual.ensures.1 in
    let going = c.is_next.ensures ∙ ap not c.items-test.true in
    rw (stopped.1, stopped.2) (fails c.items.invariant c.in_err-item.field-0.0 going c.in_err-item.ensures.gives)

pub items-preserved : goal.items-preserved
items-preserved g c =
    let going = c.is_next.ensures ∙ ap not c.items-test.true in
    rw c.in_ok-push.ensures.ok (goes_on c.args.bytes.now c.items.rest.now c.in_ok-item.after.now c.items.invariant c.in_ok-item.item going c.in_ok-item.ensures.gives c.in_ok-item.ensures.fewer)

pub returns : goal.returns
returns g c = is_done c.items.invariant (c.is_next.ensures ∙ ap not c.items-test.false)
