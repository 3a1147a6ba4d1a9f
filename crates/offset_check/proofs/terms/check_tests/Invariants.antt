use Rattle.std.proofs.Common.{◌≡◌, drop}
use Rattle.bddl_model.specs.Check.{tests_fault}
use Rattle.offset_check.proofs.terms.check_tests.Given as goal

abbrev pub invariant-loop-test : goal.invariant-loop-test
invariant-loop-test l = tests_fault l.item l.width l.height (drop l.test-index l.tests) ≡ tests_fault l.item l.width l.height l.tests
