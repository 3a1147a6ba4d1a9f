use Rattle.std.proofs.Common.{◌∙◌}
use Rattle.qbf_form.specs.Pairs.{has_pair}
use Rattle.qbf_form.specs.TailMarks.{has_mark}
use Rattle.qbf_form.proofs.TailLength.{marks_give_length}
use Rattle.qbf_form.proofs.form.Form.tail.Goals as goal

pub returns : goal.returns
returns c =
    rw (c.as_slice.ensures, c.prefix-2.ensures, c.deref.ensures.value, c.deref-2.ensures.value) at c.longest.ensures
    ∙ marks_give_length c.args.self.now (has_pair c.in_ok-pairs.pairs) (has_mark c.in_ok-units.units.items) (has_mark c.in_ok-gates.gates.items)
    c.keeps_its_form.ensures c.in_ok-pairs.ensures c.in_ok-units.ensures c.in_ok-gates.ensures
