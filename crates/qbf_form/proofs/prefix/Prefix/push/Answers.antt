use Rattle.std.proofs.Common.{◌+◌, sym, ap, ◌∙◌}
use Rattle.qbf_form.proofs.Places.{with_last}
use Rattle.qbf_form.proofs.prefix.Prefix.push.Goals as goal

pub invariant_of-self-2 : goal.invariant_of-self-2
invariant_of-self-2 c =
    rw c.in_ok-push.ensures.items (with_last c.self.inside.bounds.items (record { quant = c.args.quant; var = c.args.var }) c.self.inside.places.items c.cover.new.places.items (c.len.result + 1)
    c.self.invariant c.requires.low c.requires.high (rw (sym c.self.view_is) at c.requires.new) c.cover.ensures.places c.in_ok-cover.ensures.room (ap (λ n. n + 1) (c.len.ensures ∙ c.self.inside.bounds.ok.0)))
