use Rattle.std.proofs.Common.{rules, ◌≡◌, false, replicate, ◌∙◌}
use Rattle.qdimacs_io.proofs.Tables.{empty_table}
use Rattle.qdimacs_io.proofs.marks.Marks.new.Goals as goal

pub returns : goal.returns
returns c = let filled : c.in_ok-vec.field-0.items ≡ replicate c.args.limit false = search rules in filled ∙ empty_table c.args.limit
