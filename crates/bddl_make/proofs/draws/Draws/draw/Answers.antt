use Rattle.std.proofs.Common.{◌%◌, ap, sym}
use Rattle.bddl_make.proofs.Drawing.{word_drawn}
use Rattle.bddl_make.proofs.draws.Draws.draw.Goals as goal

pub invariant_of-self : goal.invariant_of-self
invariant_of-self c = (word_drawn c.self.inside.number c.self.inside.count c.next_u32.result c.self.inside.generator c.next_u32.new.self c.self.invariant c.next_u32.ensures).1

pub returns-clause-drawn : goal.returns-clause-drawn
returns-clause-drawn c =
    let word = (word_drawn c.self.inside.number c.self.inside.count c.next_u32.result c.self.inside.generator c.next_u32.new.self c.self.invariant c.next_u32.ensures).0 in
    rw (sym c.self.view_is) (ap (λ w. w % c.args.bound) word)
