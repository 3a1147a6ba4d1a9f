use Rattle.std.proofs.Common.{length}
use Rattle.bddl_model.specs.Tokens.{lexemes}
use Rattle.bddl_reader.specs.ListReaders.{all_at}
use Rattle.bddl_reader.proofs.Loops.{StillReads}
use Rattle.bddl_reader.proofs.list.listed.Given as goal

abbrev pub invariant-items : goal.invariant-items
invariant-items g l = StillReads g.I.Item.stops g.I.Item.item_at l.found (lexemes l.bytes l.rest) (all_at g.I.Item.stops g.I.Item.item_at (lexemes l.bytes l.tokens))

abbrev pub decreases-items : goal.decreases-items
decreases-items g l = length l.rest
