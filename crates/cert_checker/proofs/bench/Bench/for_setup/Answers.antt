use Rattle.std.proofs.Common.{ap}
use Rattle.bddl_model.specs.Setup.{Setup}
use Rattle.cert_checker.proofs.Benches.{is_bench}
use Rattle.cert_checker.proofs.bench.Bench.for_setup.Goals as goal

pub returns : goal.returns
returns c =
    is_bench c.setup.inside.game c.args.setup.now.game c.setup.inside.board _ (ap (λ (s : Setup). s.game) c.setup.view_is) c.setup.invariant.0 c.in_ok-copy.ensures c.in_ok-copy-2.ensures c.in_ok-copy-3.ensures c.in_ok-for_game.ensures.room
