use Rattle.std.proofs.Common.{◌≡◌, ◌≤◌, ◌+◌, ◌-◌, length, vec_len}
use Rattle.std.specs.Prelude.{vec_capacity}
use Rattle.bddl_model.specs.TrailDigits.{steps_paid}
use Rattle.qbf_search.specs.Standing.{Stands, HasRoom, digits_of}
use Rattle.qbf_search.specs.Values.{assignment}
use Rattle.qbf_search.proofs.search.settle.Given as goal

abbrev pub invariant-search : goal.invariant-search
invariant-search l = record {
  stands : Stands l.form l.tail.before l.decisions.items (assignment l.values.items);
  room : HasRoom l.form (vec_len l.values);
  capacity : length l.form.prefix ≤ vec_capacity l.decisions;
  paid : l.steps.used ≤ l.fn.steps.used + steps_paid l.tail.before (length l.form.prefix) (digits_of l.decisions.items) (length l.decisions.items);
  never_fewer : l.fn.steps.used ≤ l.steps.used;
  budget : l.steps.budget ≡ l.fn.steps.budget;
}

abbrev pub decreases-search : goal.decreases-search
decreases-search l = l.steps.budget - l.steps.used
