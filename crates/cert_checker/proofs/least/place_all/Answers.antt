use Rattle.std.proofs.Common.{◌*◌, sym, ap, ap₂, ◌∙◌, subst, length, arith}
use Rattle.std.specs.Prelude.{All}
use Rattle.std.specs.List.{slice_index_or}
use Rattle.std.proofs.lemmas.List.{length-replicate}
use Rattle.std.proofs.lemmas.Option.{slice_get_within}
use Rattle.bddl_model.specs.Setup.{Setup}
use Rattle.bddl_model.specs.Certificate.{Place, place}
use Rattle.bddl_model.specs.CertificateGraph.{answers, links}
use Rattle.cert_checker.specs.Checking.{IsAnswer}
use Rattle.cert_checker.specs.Placing.{of_node}
use Rattle.cert_checker.proofs.LeastPlaces.{place_size, some_nodes, answers_there, due_found, found_there, found_on, node_of, start_found, room_size, first_number, all_done, next_number}
use Rattle.cert_checker.proofs.least.place_all.Goals as goal

pub loop-number-init : goal.loop-number-init
loop-number-init c = record {
  size = room_size c.setup.inside.game c.args.setup.now.game c.setup.inside.board c.in_ok-room.room (ap (λ (s : Setup). s.game) c.setup.view_is) c.setup.invariant.0 c.in_ok-room.ensures;
  found = start_found c.args.setup.now c.args.nodes.now c.in_ok-placing.placing (some_nodes c.args.setup.now c.args.nodes.now c.requires.valid) c.in_ok-placing.ensures.places
      (ap length c.in_ok-placing.ensures.numbers ∙ length-replicate (length c.args.nodes.now) 0)
      (ap (λ ns. slice_index_or ns 0 0) c.in_ok-placing.ensures.numbers ∙ first_number (length c.args.nodes.now))
      c.in_ok-placing.ensures.least;
}

pub follow_node-requires-clause-size : goal.follow_node-requires-clause-size
follow_node-requires-clause-size c = c.loop-number.invariant.size

pub follow_node-requires-clause-inside : goal.follow_node-requires-clause-inside
follow_node-requires-clause-inside c = let count = c.loop-number.invariant.found.places.count in let within = c.loop-number-test.true in omega (arith, count, within)

pub follow_node-requires-clause-same : goal.follow_node-requires-clause-same
follow_node-requires-clause-same c = c.loop-number.invariant.found.places.same

pub follow_node-requires-clause-number : goal.follow_node-requires-clause-number
follow_node-requires-clause-number c =
    slice_get_within c.loop-number.placing.places (of_node c.loop-number.placing c.loop-number.number) _
    (due_found c.args.setup.now c.args.nodes.now c.requires.valid c.loop-number.placing c.loop-number.number c.loop-number.invariant.found c.loop-number-test.true).there

pub follow_node-requires-clause-board : goal.follow_node-requires-clause-board
follow_node-requires-clause-board c p found =
    let there = found_there c.args.setup.now c.args.nodes.now c.requires.valid c.loop-number.placing c.loop-number.number c.loop-number.invariant.found c.loop-number-test.true p found in
    let size = c.loop-number.invariant.size in
    ap (λ (q : Place). length q.board) (sym there) ∙ place_size c.args.setup.now (links c.args.nodes.now) c.loop-number.number c.keeps_its_size.ensures.board ∙ ap₂ (λ h w. h * w) (sym size.1) (sym size.0)

pub follow_node-requires-clause-answers : goal.follow_node-requires-clause-answers
follow_node-requires-clause-answers c p found =
    let there = found_there c.args.setup.now c.args.nodes.now c.requires.valid c.loop-number.placing c.loop-number.number c.loop-number.invariant.found c.loop-number-test.true p found in
    let node = node_of c.args.nodes.now c.loop-number.number c.index-nodes-number.result c.loop-number-test.true c.index-nodes-number.is in
    subst (λ n. All (IsAnswer c.args.setup.now n c.loop-number.number p) (answers c.index-nodes-number.result)) (sym c.loop-number.invariant.found.places.count)
    (subst (λ q. All (IsAnswer c.args.setup.now (length c.args.nodes.now) c.loop-number.number q) (answers c.index-nodes-number.result)) there
    (answers_there c.args.setup.now c.args.nodes.now c.requires.valid c.loop-number.number c.index-nodes-number.result node))

pub loop-number-preserved : goal.loop-number-preserved
loop-number-preserved c =
    let node = node_of c.args.nodes.now c.loop-number.number c.index-nodes-number.result c.loop-number-test.true c.index-nodes-number.is in
    let due = due_found c.args.setup.now c.args.nodes.now c.requires.valid c.loop-number.placing c.loop-number.number c.loop-number.invariant.found c.loop-number-test.true in
    let on = found_on c.args.setup.now c.args.nodes.now c.requires.valid c.loop-number.placing c.follow_node.new.self c.loop-number.number c.index-nodes-number.result c.loop-number.invariant.found node
    (c.in_ok-follow_node.ensures.stands (place c.args.setup.now (links c.args.nodes.now) c.loop-number.number) due.there) in
    record {
      size = c.in_ok-follow_node.ensures.size;
      found = next_number c.args.setup.now c.args.nodes.now c.follow_node.new.self c.loop-number.number on;
    }

pub returns : goal.returns
returns c = all_done c.args.setup.now c.args.nodes.now c.loop-number.placing c.loop-number.number c.loop-number.auto.number-end c.loop-number-test.false c.loop-number.invariant.found
