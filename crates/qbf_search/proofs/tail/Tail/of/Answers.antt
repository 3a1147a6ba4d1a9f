use Rattle.std.proofs.Common.{length, ap, ◌∙◌, arith}
use Rattle.qbf_search.proofs.TailRows.{tail_within}
use Rattle.qbf_search.proofs.tail.Tail.of.Goals as goal

pub overflow_sub-before : goal.overflow_sub-before
overflow_sub-before c =
    let within = tail_within c.args.form.now in
    let count = c.in_ok-count.ensures in
    let many = ap length (c.as_slice-variables.ensures ∙ c.prefix.ensures) in
    omega (arith, within, count, many)
