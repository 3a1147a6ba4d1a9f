use Rattle.std.proofs.Common.{arith}
use Rattle.cert_checker.proofs.Standing.{none_yet, has_room, one_back, from_start}
use Rattle.cert_checker.proofs.places.moves_to.Goals as goal

pub namings-init : goal.namings-init
namings-init c = record {
  inside = c.requires.inside;
  lead = none_yet c.args.setup.now c.args.table.now c.args.node _ c.args.moves.now c.requires.room c.requires.room;
}

pub overflow_sub-begin : goal.overflow_sub-begin
overflow_sub-begin c = has_room c.args.setup.now c.args.table.now c.namings.at _ c.namings.begin c.namings.moves c.keeps_its_size.ensures.depth c.in-First.from c.in-First.mv c.requires.table c.in-First.is c.namings.invariant.lead

pub namings-smaller : goal.namings-smaller
namings-smaller c = (c.requires.table c.namings.at c.in-First.from c.in-First.mv c.in-First.is).0

pub namings-preserved : goal.namings-preserved
namings-preserved c =
    let later = (c.requires.table c.namings.at c.in-First.from c.in-First.mv c.in-First.is).0 in
    let inside = c.namings.invariant.inside in
    let room = has_room c.args.setup.now c.args.table.now c.namings.at _ c.namings.begin c.namings.moves c.keeps_its_size.ensures.depth c.in-First.from c.in-First.mv c.requires.table c.in-First.is c.namings.invariant.lead in
    record {
      inside = omega arith;
      lead = one_back c.args.setup.now c.args.table.now c.namings.at _ c.namings.begin c.namings.moves c.in-First.from c.in-First.mv c.requires.table c.in-First.is room c.namings.invariant.lead;
    }

pub returns : goal.returns
returns c =
    let h = c.in_default.not-First in
    let led = from_start c.args.setup.now c.args.table.now c.namings.at _ c.namings.begin c.namings.moves c.in_default.not-First c.namings.invariant.lead in
    record { within = (let l = c.namings.invariant.lead in omega arith); may = led.0; place = led.1 }
