use Rattle.std.proofs.Common.{◌≡◌, sym, ◌∙◌}
use Rattle.std.specs.Prelude.{None, Some}
use Rattle.cert_checker.proofs.Exact.{is_valid, valid_has_no_fault}
use Rattle.cert_checker.proofs.check.check_cert.Goals as goal

pub returns-in-None-clause-valid : goal.returns-in-None-clause-valid
returns-in-None-clause-valid c = is_valid c.args.setup.now c.args.nodes.now c.requires (c.in_ok-fault_of.ensures ∙ c.in-None.is)

pub returns-in-Some-clause-only : goal.returns-in-Some-clause-only
returns-in-Some-clause-only c h = (let none : None ≡ Some c.in-Some.fault = sym (valid_has_no_fault c.args.setup.now c.args.nodes.now h) ∙ c.in_ok-fault_of.ensures ∙ c.in-Some.is in absurd cc)
