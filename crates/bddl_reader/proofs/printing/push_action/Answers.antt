use Rattle.std.proofs.lemmas.Result.{on_ok_weaker}
use Rattle.bddl_reader.proofs.Pushed.{four_pushed}
use Rattle.bddl_reader.proofs.printing.push_action.Goals as goal

pub returns : goal.returns
returns c =
    let name = rw c.as_slice.ensures at c.in_ok-push_name_line.ensures in
    let before = rw c.as_slice-2.ensures at c.in_ok-push_list_line.ensures in
    let effects = rw c.as_slice-3.ensures at c.push_list_line-2.ensures in
    on_ok_weaker c.push_list_line-2.result (four_pushed _ _ _ _ _ _ _ _ _ name c.in_ok-push.ensures before) effects
