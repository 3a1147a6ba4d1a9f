use Rattle.bddl_laws.proofs.FollowingValues.{member_is_defined, other_value_fails, value_of_tail}
use Rattle.bddl_laws.proofs.following.tail_values_follow.Goals as goal

pub returns : goal.returns
returns c = record {
  existential = λ f front behind b whole within. (member_is_defined f front behind b whole within).0;
  no_other = other_value_fails;
  value = value_of_tail;
}
