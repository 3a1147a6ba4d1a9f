use Rattle.bddl_laws.proofs.Tails.{tail_is_greatest, tail_is_a_tail}
use Rattle.bddl_laws.proofs.bounds.tail_is_the_longest.Goals as goal

pub returns : goal.returns
returns c = record { none_longer = tail_is_greatest; one = tail_is_a_tail }
