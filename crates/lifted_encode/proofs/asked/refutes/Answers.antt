use Rattle.std.proofs.Common.{rules, ap₂, ◌∙◌, ap, ◌&&◌, arith}
use Rattle.bddl_model.specs.Conditions.{fails_at}
use Rattle.bddl_model.proofs.Growth.{grows_then, grows_within, makes_after}
use Rattle.lifted_encode.specs.Asking.{Here, placed}
use Rattle.lifted_encode.proofs.Meeting.{spot_stays, here_kept}
use Rattle.lifted_encode.proofs.asked.refutes.Goals as goal

pub fails_here-requires-clause-spot : goal.fails_here-requires-clause-spot
fails_here-requires-clause-spot c = spot_stays _ c.args.dag.now c.equal_const.new.dag c.in_ok-named.ensures.grows c.args.spot c.requires.spot

pub returns-in_err-fails : goal.returns-in_err-fails
returns-in_err-fails c = record {
  wire = search rules;
  value = search rules;
  grows = grows_within (grows_then c.in_ok-named.ensures.grows c.fails_here.ensures.grows) (omega arith);
}

pub returns : goal.returns
returns c =
    let named = c.in_ok-named.ensures in
    let fails = c.in_ok-fails.ensures in
    makes_after (grows_then named.grows fails.grows) c.and.ensures.made (omega arith) (λ a.
    ap₂ (λ x y. x && y)
    (fails.grows.kept c.in_ok-named.named a named.wire ∙ named.value a)
    (fails.value a ∙ ap (λ (h : Here). fails_at h.place h.mark (placed h.anchor c.args.test)) (here_kept _ c.args.dag.now c.equal_const.new.dag named.grows c.args.spot a c.requires.spot)))
