use Rattle.std.proofs.Common.{◌≡◌, take}
use Rattle.bddl_model.specs.Setup.{tests_of}
use Rattle.offset_check.proofs.terms.tests_of.Given as goal

abbrev pub invariant-loop-test : goal.invariant-loop-test
invariant-loop-test l = l.made.items ≡ tests_of l.width l.height (take l.test-index l.tests)
