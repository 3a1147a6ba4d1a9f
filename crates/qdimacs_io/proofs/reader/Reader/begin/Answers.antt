use Rattle.std.proofs.Common.{List, length, ap, ◌∙◌}
use Rattle.std.specs.Prelude.{Bool}
use Rattle.qdimacs_io.specs.MarkSets.{no_mark}
use Rattle.qdimacs_io.specs.States.{OpenLiterals}
use Rattle.qdimacs_io.proofs.Tables.{table_len}
use Rattle.qdimacs_io.proofs.reader.Reader.begin.Goals as goal

pub invariant_of-result : goal.invariant_of-result
invariant_of-result c = record {
  few = c.requires;
  literal_room = ap (λ (o : OpenLiterals). o.room) c.in_ok-open_clause.ensures;
  variable_room = ap (λ (marks : List Bool). length marks) c.in_ok-occurs.ensures ∙ table_len _ no_mark;
}
