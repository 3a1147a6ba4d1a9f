use Rattle.std.proofs.lemmas.Result.{on_ok_weaker}
use Rattle.bddl_reader.proofs.Pushed.{listed_pushed}
use Rattle.bddl_reader.proofs.printing.list.push_list.Goals as goal

pub returns-in_ok-push_more-in-len1-up : goal.returns-in_ok-push_more-in-len1-up
returns-in_ok-push_more-in-len1-up g c =
    on_ok_weaker c.push-in-len1-up-2.result (listed_pushed g.P.Printed.text_of c.args.items.now c.first-item.result c.in-len1-up.len_at_least c.first-item.is _ _ _ _ _ c.in_ok-push-in-len1-up.ensures c.in_ok-push_to-in-len1-up.ensures c.in_ok-push_more-in-len1-up.ensures) c.push-in-len1-up-2.ensures
