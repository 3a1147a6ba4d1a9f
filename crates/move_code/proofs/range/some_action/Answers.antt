use Rattle.std.proofs.Common.{◌+◌, ◌||◌, sym, ap, ◌∙◌, subst, rules, arith}
use Rattle.bddl_model.specs.Circuit.{holds}
use Rattle.bddl_model.specs.Growth.{Grows}
use Rattle.bddl_model.proofs.Growth.{grows_then}
use Rattle.move_code.specs.CodeWords.{spelled, action_gates, is_at}
use Rattle.move_code.proofs.Ranges.{rect_counts_from_one, code_wires_stay, spelled_kept, each_more, one_action_more, all_actions}
use Rattle.move_code.proofs.range.some_action.Goals as goal

pub also_names-requires-clause-words : goal.also_names-requires-clause-words
also_names-requires-clause-words c = code_wires_stay _ _ _ c.args.words c.actions.invariant.grows c.requires.words

pub also_names-requires-clause-rect : goal.also_names-requires-clause-rect
also_names-requires-clause-rect c = rect_counts_from_one _ _ _ _ c.action_rect.ensures

pub actions-preserved : goal.actions-preserved
actions-preserved c = record {
  wire = c.in_ok-known.ensures.wire;
  grows =
      let gates = action_gates c.args.words + 1 in
      subst (λ n. Grows n c.args.dag.now c.also_names.new.dag) (sym (each_more c.actions.action gates)) (grows_then c.actions.invariant.grows c.in_ok-known.ensures.grows);
  value = λ a. one_action_more c.args.game.now c.args.side (spelled c.args.dag.now c.args.words a) c.actions.action c.action_rect.result _ _ (omega arith) c.action_rect.ensures (c.actions.invariant.value a)
      (c.in_ok-known.ensures.value a ∙ ap (λ m. holds c.actions.dag c.actions.known a || is_at c.actions.action c.action_rect.result m) (spelled_kept _ _ _ c.args.words c.actions.invariant.grows c.requires.words a));
}

pub returns : goal.returns
returns c = record {
  wire = c.actions.invariant.wire;
  value = λ a. c.actions.invariant.value a ∙ all_actions c.args.game.now c.args.side (spelled c.args.dag.now c.args.words a) c.actions.action (omega arith);
  grows = search rules;
}
