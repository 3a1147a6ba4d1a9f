use Rattle.std.proofs.Common.{◌++◌}
use Rattle.std.specs.Prelude.{codes, decimal}
use Rattle.std.proofs.lemmas.Result.{on_ok_weaker}
use Rattle.bddl_reader.proofs.Pushed.{behind, four_pushed}
use Rattle.bddl_reader.proofs.printing.push_size.Goals as goal

pub returns : goal.returns
returns c =
    let size = four_pushed c.args.text.now.items (codes "#boardsize ") (decimal c.args.width) (codes " ") (decimal c.args.height) _ _ _ _ c.in_ok-push.ensures c.in_ok-push_number.ensures c.in_ok-push-2.ensures c.in_ok-push_number-2.ensures in
    on_ok_weaker c.push-3.result (behind c.args.text.now.items (codes "#boardsize " ++ (decimal c.args.width ++ (codes " " ++ decimal c.args.height))) (codes "\n") _ _ size) c.push-3.ensures
