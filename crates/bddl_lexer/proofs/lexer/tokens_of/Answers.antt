use Rattle.std.proofs.Common.{◌<◌, ◌+◌, length, arith, [], ◌∷◌, sym, subst, inr}
use Rattle.std.proofs.lemmas.List.{take_rest, length-drop}
use Rattle.bddl_model.specs.Tokens.{Placed}
use Rattle.bddl_lexer.proofs.Placing.{last_end-push, placed_push, place_next, placed_whole, placed_fails}
use Rattle.bddl_lexer.proofs.lexer.tokens_of.Goals as goal

pub returns-then-start-bytes-clause-found : goal.returns-then-start-bytes-clause-found
returns-then-start-bytes-clause-found c =
    let so_far = c.loop-tokens.invariant in
    let gap = rw (take_rest c.args.bytes.now c.loop-tokens.at) at c.gap.ensures.is in
    placed_whole c.args.bytes.now c.loop-tokens.tokens.items c.loop-tokens.at c.gap.result so_far.placed so_far.reached gap c.if-start-bytes.true

pub loop-tokens-preserved : goal.loop-tokens-preserved
loop-tokens-preserved c =
    let so_far = c.loop-tokens.invariant in
    let start = c.loop-tokens.at + c.gap.result in
    let gap = rw (take_rest c.args.bytes.now c.loop-tokens.at) at c.gap.ensures.is in
    let token = rw (take_rest c.args.bytes.now start) at c.in-Ok.ensures.is in
    let len = rw (take_rest c.args.bytes.now start) at c.in-Ok.ensures.len in
    let next = place_next c.args.bytes.now c.loop-tokens.at c.gap.result c.in-Ok.kind c.in-Ok.len gap (sym token) len.0 len.1 in
    let placed = subst (λ k. Placed c.args.bytes.now k (record { kind = c.in-Ok.kind; start = start; end = start + c.in-Ok.len } ∷ [])) (sym so_far.reached) next in
    rw c.in_ok-push-in-Ok.ensures.items (record {
      within = omega (arith, len.1, length-drop start c.args.bytes.now);
      placed = placed_push c.args.bytes.now 0 c.loop-tokens.tokens.items _ so_far.placed placed;
      reached = last_end-push 0 c.loop-tokens.tokens.items _;
    })

pub returns-in-Err-clause-fault : goal.returns-in-Err-clause-fault
returns-in-Err-clause-fault c =
    let so_far = c.loop-tokens.invariant in
    let start = c.loop-tokens.at + c.gap.result in
    let gap = rw (take_rest c.args.bytes.now c.loop-tokens.at) at c.gap.ensures.is in
    let within = rw (take_rest c.args.bytes.now c.loop-tokens.at) at c.gap.ensures.within in
    let none = rw (take_rest c.args.bytes.now start) at c.in-Err.ensures.is in
    let before_end : start < length c.args.bytes.now = omega (arith, within, length-drop c.loop-tokens.at c.args.bytes.now, so_far.within) in
    inr (c.fault_at.ensures c.args.bytes.now (placed_fails c.args.bytes.now c.loop-tokens.tokens.items c.loop-tokens.at c.gap.result c.in-Err.fault so_far.placed so_far.reached gap before_end (sym none)))
