use Rattle.bddl_tests.proofs.positions.+wins.Given as goal

abbrev pub decreases-wins : goal.decreases-wins
decreases-wins g l = l.left
