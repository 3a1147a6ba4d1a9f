use Rattle.std.proofs.Common.{Ok, length, sym, ap, ◌∙◌, arith}
use Rattle.std.proofs.lemmas.Bool.{false≢true}
use Rattle.bddl_model.specs.Setup.{Setup}
use Rattle.lifted_encode.specs.Encoded.{setup_of}
use Rattle.strategy.proofs.Growth.{next_place, next_awaits, search_waits, made_goes_on, fewer_wait, still_within, used_within, spent_below}
use Rattle.strategy.proofs.extracting.grow.Goals as goal

pub add_node-requires-clause-place : goal.add_node-requires-clause-place
add_node-requires-clause-place g c = next_awaits _ c.nodes.growing c.nodes.invariant.grows c.requires.depth

pub returns-in_err-add_node-clause-used : goal.returns-in_err-add_node-clause-used
returns-in_err-add_node-clause-used g c =
    let s : Setup = setup_of c.args.game.now c.args.board.now.marks c.args.first c.args.depth in
    let here = next_place c.nodes.growing (let count = ap length c.as_slice.ensures in omega (arith, c.nodes-test.true, count, c.len.ensures)) in
    let taken = c.add_node.ensures.used here.0 here.1 in
    let may = search_waits s c.nodes.growing c.add_node.new.self here.0 c.nodes.invariant.grows here.1 in (
      (let before = c.nodes.invariant.used in let now = taken.0 in omega (arith, before, now)),
      used_within _ _ _ _ _ taken.1 may c.nodes.invariant.waits,
    )

pub nodes-smaller : goal.nodes-smaller
nodes-smaller g c =
    let s : Setup = setup_of c.args.game.now c.args.board.now.marks c.args.first c.args.depth in
    let here = next_place c.nodes.growing (let count = ap length c.as_slice.ensures in omega (arith, c.nodes-test.true, count, c.len.ensures)) in
    fewer_wait _ _ _ (made_goes_on s c.nodes.growing c.add_node.new.self here.0 c.nodes.invariant.grows here.1 (c.in_ok-add_node.ensures.made (ap (λ m. Ok m) c.in-Node.is) here.0 here.1)).1

pub nodes-preserved : goal.nodes-preserved
nodes-preserved g c =
    let s : Setup = setup_of c.args.game.now c.args.board.now.marks c.args.first c.args.depth in
    let here = next_place c.nodes.growing (let count = ap length c.as_slice.ensures in omega (arith, c.nodes-test.true, count, c.len.ensures)) in
    let made = made_goes_on s c.nodes.growing c.add_node.new.self here.0 c.nodes.invariant.grows here.1 (c.in_ok-add_node.ensures.made (ap (λ m. Ok m) c.in-Node.is) here.0 here.1) in
    let taken = c.add_node.ensures.used here.0 here.1 in
    let size = c.add_node.ensures.size in
    record {
      grows = made.0;
      used = (let before = c.nodes.invariant.used in let now = taken.0 in omega (arith, before, now));
      waits = still_within _ _ _ _ _ _ taken.1 made.1 c.nodes.invariant.waits;
      budget = c.add_node.ensures.budget ∙ c.nodes.invariant.budget;
      size = (size.0 ∙ c.nodes.invariant.size.0, size.1 ∙ c.nodes.invariant.size.1);
    }

pub unreachable-requires : goal.unreachable-requires
unreachable-requires g c =
    let s : Setup = setup_of c.args.game.now c.args.board.now.marks c.args.first c.args.depth in
    let here = next_place c.nodes.growing (let count = ap length c.as_slice.ensures in omega (arith, c.nodes-test.true, count, c.len.ensures)) in
    false≢true (sym (c.in_ok-add_node.ensures.lost (ap (λ m. Ok m) c.in-Lost.is) here.0 here.1) ∙ c.nodes.invariant.grows.won (length c.nodes.growing.nodes) here.0 (omega arith) here.1)

pub returns-in-Spent-clause-spent : goal.returns-in-Spent-clause-spent
returns-in-Spent-clause-spent g c was =
    let s : Setup = setup_of c.args.game.now c.args.board.now.marks c.args.first c.args.depth in
    let here = next_place c.nodes.growing (let count = ap length c.as_slice.ensures in omega (arith, c.nodes-test.true, count, c.len.ensures)) in
    let spent = c.in_ok-add_node.ensures.spent (ap (λ m. Ok m) c.in-Spent.is) here.0 here.1 in
    let may = search_waits s c.nodes.growing c.add_node.new.self here.0 c.nodes.invariant.grows here.1 in
    (spent.0, spent_below _ _ _ _ _ _ c.nodes.invariant.budget spent.1 may c.nodes.invariant.waits)

pub returns-in-Spent-clause-used : goal.returns-in-Spent-clause-used
returns-in-Spent-clause-used g c =
    let s : Setup = setup_of c.args.game.now c.args.board.now.marks c.args.first c.args.depth in
    let here = next_place c.nodes.growing (let count = ap length c.as_slice.ensures in omega (arith, c.nodes-test.true, count, c.len.ensures)) in
    let taken = c.add_node.ensures.used here.0 here.1 in
    let may = search_waits s c.nodes.growing c.add_node.new.self here.0 c.nodes.invariant.grows here.1 in (
      (let before = c.nodes.invariant.used in let now = taken.0 in omega (arith, before, now)),
      used_within _ _ _ _ _ taken.1 may c.nodes.invariant.waits,
    )
