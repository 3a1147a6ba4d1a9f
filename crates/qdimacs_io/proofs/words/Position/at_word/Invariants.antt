use Rattle.std.proofs.Common.{length}
use Rattle.qdimacs_io.specs.Scanning.{PassesGap}
use Rattle.qdimacs_io.proofs.words.Position.at_word.Given as goal

abbrev pub invariant-gap : goal.invariant-gap
invariant-gap l = PassesGap l.fn.self l.at

abbrev pub decreases-gap : goal.decreases-gap
decreases-gap l = length l.at.rest.now
