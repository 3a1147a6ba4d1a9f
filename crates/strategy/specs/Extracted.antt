-- What is told of a strategy that was extracted.
use Rattle.std.specs.Prelude.{List}
use Rattle.bddl_model.specs.declared.certificate.Node.{Node}
use Rattle.strategy.specs.declared.extracting.Extracted.{Extracted}
use Rattle.strategy.specs.declared.extracting.Extracted.TheVariants.{Won}

abbrev pub IfWon : Extracted → (List Node → Type 0) → Type 0
IfWon (Won nodes) P = P nodes
IfWon _ P = Unit {0}
