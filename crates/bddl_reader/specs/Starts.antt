-- How a term and a test begin, as the code has it.
use Rattle.std.specs.Prelude.{Option, Some, None}
use Rattle.bddl_model.specs.Meanings as meanings
use Rattle.bddl_reader.specs.declared.atoms.TestStart.{TestStart}
use Rattle.bddl_reader.specs.declared.atoms.TestStart.TheVariants.{Plain, Negation}
use Rattle.bddl_reader.specs.declared.terms.Start.{Start}
use Rattle.bddl_reader.specs.declared.terms.Start.TheVariants.{Whole, Variable}

abbrev pub begun : Option Start → Option meanings.Start
begun None = None
begun (Some (Whole term)) = Some (meanings.whole term)
begun (Some Variable) = Some meanings.variable

abbrev pub test_begun : Option TestStart → Option meanings.TestStart
test_begun None = None
test_begun (Some (Plain mark)) = Some (meanings.plain mark)
test_begun (Some Negation) = Some meanings.negation
