use Rattle.std.proofs.Common.{Ok, ◌*◌, refl, ap, ap₂, ◌∙◌}
use Rattle.bddl_model.specs.Setup.{Setup}
use Rattle.bddl_model.specs.declared.game.Side.TheVariants.{Black}
use Rattle.lifted_encode.specs.Encoded.{setup_of}
use Rattle.strategy.proofs.Growth.{start_place, start_node_made, first_search_within, first_spent_within, first_node_within}
use Rattle.strategy.proofs.extracting.black_begins.Goals as goal

pub returns-in_err-add_node-clause-used : goal.returns-in_err-add_node-clause-used
returns-in_err-add_node-clause-used g c =
    let s : Setup = setup_of c.args.game.now c.args.board.now.marks Black c.args.depth in
    let size = c.keeps_the_size.ensures.marks ∙ ap₂ (λ h w. h * w) c.requires.board.1 c.requires.board.0 in
    let taken = c.add_node.ensures.used _ (start_place s c.args.growing.now c.add_node.new.self c.requires.places c.requires.nodes) in
    (taken.0, first_search_within s c.args.growing.now c.add_node.new.self c.requires.places c.requires.nodes refl size _ _ taken.1)

pub returns-in-Node-clause-won : goal.returns-in-Node-clause-won
returns-in-Node-clause-won g c was =
    let s : Setup = setup_of c.args.game.now c.args.board.now.marks Black c.args.depth in
    let size = c.keeps_the_size.ensures.marks ∙ ap₂ (λ h w. h * w) c.requires.board.1 c.requires.board.0 in
    let place = start_place s c.args.growing.now c.add_node.new.self c.requires.places c.requires.nodes in
    (start_node_made s c.args.growing.now c.add_node.new.self c.requires.places c.requires.nodes size (c.in_ok-add_node.ensures.made (ap (λ m. Ok m) c.in-Node.is) _ place)).0

pub returns-in-Node-clause-used : goal.returns-in-Node-clause-used
returns-in-Node-clause-used g c =
    let s : Setup = setup_of c.args.game.now c.args.board.now.marks Black c.args.depth in
    let size = c.keeps_the_size.ensures.marks ∙ ap₂ (λ h w. h * w) c.requires.board.1 c.requires.board.0 in
    let taken = c.add_node.ensures.used _ (start_place s c.args.growing.now c.add_node.new.self c.requires.places c.requires.nodes) in
    (taken.0, first_search_within s c.args.growing.now c.add_node.new.self c.requires.places c.requires.nodes refl size _ _ taken.1)

pub returns-in-Node-clause-left : goal.returns-in-Node-clause-left
returns-in-Node-clause-left g c was =
    let s : Setup = setup_of c.args.game.now c.args.board.now.marks Black c.args.depth in
    let size = c.keeps_the_size.ensures.marks ∙ ap₂ (λ h w. h * w) c.requires.board.1 c.requires.board.0 in
    let place = start_place s c.args.growing.now c.add_node.new.self c.requires.places c.requires.nodes in
    let taken = c.add_node.ensures.used _ place in
    first_node_within s c.args.growing.now c.add_node.new.self c.requires.places c.requires.nodes refl size (c.in_ok-add_node.ensures.made (ap (λ m. Ok m) c.in-Node.is) _ place) _ _ taken.1

pub returns-in-Lost-clause-not_won : goal.returns-in-Lost-clause-not_won
returns-in-Lost-clause-not_won g c was =
    let s : Setup = setup_of c.args.game.now c.args.board.now.marks Black c.args.depth in
    c.in_ok-add_node.ensures.lost (ap (λ m. Ok m) c.in-Lost.is) _ (start_place s c.args.growing.now c.add_node.new.self c.requires.places c.requires.nodes)

pub returns-in-Lost-clause-used : goal.returns-in-Lost-clause-used
returns-in-Lost-clause-used g c =
    let s : Setup = setup_of c.args.game.now c.args.board.now.marks Black c.args.depth in
    let size = c.keeps_the_size.ensures.marks ∙ ap₂ (λ h w. h * w) c.requires.board.1 c.requires.board.0 in
    let taken = c.add_node.ensures.used _ (start_place s c.args.growing.now c.add_node.new.self c.requires.places c.requires.nodes) in
    (taken.0, first_search_within s c.args.growing.now c.add_node.new.self c.requires.places c.requires.nodes refl size _ _ taken.1)

pub returns-clause-spent : goal.returns-clause-spent
returns-clause-spent g c was =
    let s : Setup = setup_of c.args.game.now c.args.board.now.marks Black c.args.depth in
    let size = c.keeps_the_size.ensures.marks ∙ ap₂ (λ h w. h * w) c.requires.board.1 c.requires.board.0 in
    let spent = c.in_ok-add_node.ensures.spent (ap (λ m. Ok m) c.in-Spent.is) _ (start_place s c.args.growing.now c.add_node.new.self c.requires.places c.requires.nodes) in
    (spent.0, first_spent_within s c.args.growing.now c.add_node.new.self c.requires.places c.requires.nodes refl size _ _ spent.1)

pub returns-clause-used : goal.returns-clause-used
returns-clause-used g c =
    let s : Setup = setup_of c.args.game.now c.args.board.now.marks Black c.args.depth in
    let size = c.keeps_the_size.ensures.marks ∙ ap₂ (λ h w. h * w) c.requires.board.1 c.requires.board.0 in
    let taken = c.add_node.ensures.used _ (start_place s c.args.growing.now c.add_node.new.self c.requires.places c.requires.nodes) in
    (taken.0, first_search_within s c.args.growing.now c.add_node.new.self c.requires.places c.requires.nodes refl size _ _ taken.1)
