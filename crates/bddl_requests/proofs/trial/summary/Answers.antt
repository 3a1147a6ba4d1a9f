use Rattle.std.proofs.Common.{IfOk, ◌≡◌, subst, ◌∙◌, string_bytes}
use Rattle.bddl_requests.specs.Decisions.{decided_text}
use Rattle.bddl_requests.proofs.Summaries.{parts_are_summary}
use Rattle.bddl_requests.proofs.trial.summary.Goals as goal

pub returns : goal.returns
returns c =
    subst (λ whole. IfOk c.lines.result (λ text. string_bytes text ≡ whole))
    (parts_are_summary c.args.large.now c.args.small.now (decided_text c.args.decided) c.args.size.inputs c.args.size.limit c.requires.inputs c.requires.limit _ _ _
    (c.as_str.ensures.value ∙ c.in_ok-first.ensures) (c.as_str-2.ensures.value ∙ c.in_ok-second.ensures) (c.as_str-3.ensures.value ∙ c.in_ok-third.ensures))
    c.lines.ensures
