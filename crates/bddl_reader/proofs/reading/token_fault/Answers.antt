use Rattle.std.proofs.Common.{length, arith, rules, refl}
use Rattle.std.proofs.lemmas.Option.{slice_get_read, slice_get_past}
use Rattle.bddl_reader.proofs.Answered.{tokens_within, token_start}
use Rattle.bddl_reader.proofs.reading.token_fault.Goals as goal

pub overflow_cast-result : goal.overflow_cast-result
overflow_cast-result c =
    let few = tokens_within c.args.bytes.now c.args.tokens.now c.requires.placed in
    omega arith

pub place_of-requires-clause-within : goal.place_of-requires-clause-within
place_of-requires-clause-within c =
    let is = slice_get_read c.args.tokens.now (length c.args.tokens.now) c.args.number c.in-Some.token.now refl c.in-Some.ensures.lookup.3.0 c.in-Some.ensures.lookup.1 in
    let inside = token_start c.args.bytes.now c.args.tokens.now c.args.number c.in-Some.token.now c.requires.placed is in
    omega arith

pub place_of-requires-clause-fits : goal.place_of-requires-clause-fits
place_of-requires-clause-fits c =
    let is = slice_get_read c.args.tokens.now (length c.args.tokens.now) c.args.number c.in-Some.token.now refl c.in-Some.ensures.lookup.3.0 c.in-Some.ensures.lookup.1 in
    let inside = token_start c.args.bytes.now c.args.tokens.now c.args.number c.in-Some.token.now c.requires.placed is in
    omega arith

pub returns-in-Some : goal.returns-in-Some
returns-in-Some c =
    let is = slice_get_read c.args.tokens.now (length c.args.tokens.now) c.args.number c.in-Some.token.now refl c.in-Some.ensures.lookup.3.0 c.in-Some.ensures.lookup.1 in
    rw (is, c.place_of.ensures) refl

pub returns-in-None : goal.returns-in-None
returns-in-None c =
    let is = slice_get_past c.args.tokens.now c.args.number (search rules) in
    rw (is, c.place_of-in-None.ensures) refl
