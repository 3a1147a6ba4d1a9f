use Rattle.std.proofs.Common.{Ok, ap}
use Rattle.lifted_encode.specs.Encoded.{setup_of}
use Rattle.bddl_laws.proofs.BreadthFirst.{made_shared}
use Rattle.strategy.proofs.extracting.extract.Goals as goal

pub returns-clause-won : goal.returns-clause-won
returns-clause-won g c =
    let grown = c.in_ok-grow.ensures.made (ap (λ b. Ok b) c.if-not-branch.false) in
    made_shared (setup_of c.args.game.now c.args.board.now.marks c.args.first c.args.depth) c.grow.new.growing.places c.grow.new.growing.nodes grown.0.made grown.1 c.keeps_places_apart.ensures
