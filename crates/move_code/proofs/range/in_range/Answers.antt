use Rattle.std.proofs.Common.{rules, not, sym, ap, ◌∙◌, arith, length}
use Rattle.std.proofs.lemmas.Result.{IfOk-weaker}
use Rattle.std.proofs.Math.Nat.{mul-le-mul_left}
use Rattle.bddl_model.specs.Game.{actions}
use Rattle.bddl_model.specs.Codes.{in_range}
use Rattle.bddl_model.proofs.Growth.{grows_within}
use Rattle.move_code.proofs.Ranges.{past_the_last}
use Rattle.move_code.proofs.range.in_range.Goals as goal

pub returns-then-actions-eq0 : goal.returns-then-actions-eq0
returns-then-actions-eq0 c = record {
  wire = search rules;
  value = λ a. c.not.ensures.value a ∙ ap not (c.truth-truth.ensures.value a) ∙ sym (past_the_last c.args.game.now c.args.side _ (omega (arith, c.actions.ensures, c.if-actions-eq0.true)));
  grows = search rules;
}

pub some_action-requires-clause-words : goal.some_action-requires-clause-words
some_action-requires-clause-words c = c.of-words.ensures.wires c.args.dag.now c.requires.wires

pub some_action-requires-clause-room : goal.some_action-requires-clause-room
some_action-requires-clause-room c = let each = mul-le-mul_left (length (actions c.args.game.now c.args.side)) c.of-words.ensures.gates in omega arith

pub returns : goal.returns
returns c = record {
  wire = c.some_action.ensures.wire;
  value = IfOk-weaker c.some_action.result _ _ (λ w h a. h a ∙ ap (in_range c.args.game.now c.args.side) (c.of-words.ensures.move c.args.dag.now a)) c.some_action.ensures.value;
  grows = grows_within c.some_action.ensures.grows (mul-le-mul_left (length (actions c.args.game.now c.args.side)) c.of-words.ensures.gates);
}
