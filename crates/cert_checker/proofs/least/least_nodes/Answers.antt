use Rattle.cert_checker.proofs.LeastPlaces.{numbers_within, are_least}
use Rattle.cert_checker.proofs.least.least_nodes.Goals as goal

pub least_of_each-requires : goal.least_of_each-requires
least_of_each-requires c = numbers_within c.args.setup.now c.args.nodes.now c.requires.valid c.in_ok-placing.placing c.in_ok-placing.ensures

pub returns : goal.returns
returns c = are_least c.args.setup.now c.args.nodes.now c.requires.valid c.in_ok-placing.placing c.in_ok-least.least.items c.in_ok-placing.ensures c.keeps_places_apart.ensures c.in_ok-least.ensures
