use Rattle.std.proofs.Common.{refl}
use Rattle.bddl_make.proofs.Texts.{domain_fits, game_can_be_spelled, game_fits}
use Rattle.bddl_make.proofs.making.make_texts.Goals as goal

pub print_problem-requires : goal.print_problem-requires
print_problem-requires c = rw (c.in_ok-problem.ensures, game_can_be_spelled c.args.kind c.args.number) refl

pub returns-clause-problem : goal.returns-clause-problem
returns-clause-problem c = rw⁻¹ c.in_ok-problem.ensures c.in_ok-print_problem.ensures.text

pub returns-clause-short : goal.returns-clause-short
returns-clause-short c = (rw (c.in_ok-print_domain.ensures.text, c.in_ok-domain.ensures) domain_fits, rw (c.in_ok-print_problem.ensures.text, c.in_ok-problem.ensures) (game_fits c.args.kind c.args.number))

pub returns-clause-read : goal.returns-clause-read
returns-clause-read c = (rw⁻¹ c.in_ok-domain.ensures c.in_ok-print_domain.ensures.read, rw⁻¹ c.in_ok-problem.ensures c.in_ok-print_problem.ensures.read)
