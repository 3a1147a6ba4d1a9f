use Rattle.std.proofs.lemmas.Result.{on_ok_weaker}
use Rattle.bddl_reader.proofs.Pushed.{five_pushed}
use Rattle.bddl_reader.proofs.printing.push_problem.Goals as goal

pub returns : goal.returns
returns c =
    let init = rw c.as_slice.ensures at c.in_ok-push_list_line.ensures in
    let goals = rw (c.as_slice-2.ensures, c.as_slice-3.ensures) at c.push_goals.ensures in
    on_ok_weaker c.push_goals.result (five_pushed _ _ _ _ _ _ _ _ _ _ _ c.in_ok-push_size.ensures init c.in_ok-push_depth.ensures c.in_ok-push_first.ensures) goals
