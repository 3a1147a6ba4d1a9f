use Rattle.bddl_make.proofs.Directions.{machine_five}
use Rattle.bddl_make.proofs.large.five.Goals as goal

pub returns : goal.returns
returns c = rw (c.in_ok-push-5.ensures.ok, c.in_ok-push-4.ensures.ok, c.in_ok-push-3.ensures.ok, c.in_ok-push-2.ensures.ok, c.in_ok-push.ensures.ok, c.new-line.ensures, c.test_at.ensures, c.test_at-2.ensures, c.test_at-3.ensures, c.test_at-4.ensures, c.test_at-5.ensures)
    (machine_five c.args.mark c.args.x c.args.y c.requires.step.0 c.requires.step.1)
