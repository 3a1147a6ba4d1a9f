use Rattle.std.proofs.Common.{sym}
use Rattle.qbf_form.proofs.Places.{table_covers}
use Rattle.qbf_form.proofs.prefix.Prefix.room.Goals as goal

pub returns : goal.returns
returns c = λ v h. rw (c.len.ensures, c.self.inside.places.ok.0) (table_covers c.self.inside.bounds.items c.self.inside.places.items v c.self.invariant (rw (sym c.self.view_is) at h))
