use Rattle.std.proofs.Common.{◌≡◌, ◌-◌, suc, ap, ◌∙◌, arith}
use Rattle.qbf_form.specs.Stored.{start_from}
use Rattle.qbf_form.proofs.Stored.{starts_at_end}
use Rattle.qbf_form.proofs.clauses.start_of.Goals as goal

pub returns-else-number-eq0 : goal.returns-else-number-eq0
returns-else-number-eq0 c =
    let n = c.args.number - 1 in
    let next : suc n ≡ c.args.number = omega arith in
    starts_at_end 0 c.args.ends.now n (omega arith) ∙ ap (λ k. start_from 0 c.args.ends.now k) next
