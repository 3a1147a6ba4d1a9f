use Rattle.std.proofs.lemmas.Result.{on_ok_weaker}
use Rattle.bddl_reader.proofs.Pushed.{four_pushed}
use Rattle.bddl_reader.proofs.printing.push_domain.Goals as goal

pub returns : goal.returns
returns c =
    let black = rw c.as_slice.ensures at c.in_ok-push_actions.ensures in
    let white = rw c.as_slice-2.ensures at c.push_actions-2.ensures in
    on_ok_weaker c.push_actions-2.result (four_pushed _ _ _ _ _ _ _ _ _ c.in_ok-push.ensures black c.in_ok-push-2.ensures) white
