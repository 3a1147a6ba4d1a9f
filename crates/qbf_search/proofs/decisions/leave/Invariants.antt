use Rattle.std.proofs.Common.{◌≡◌, ◌⊎◌, ℕ, ◌≤◌, ◌<◌, true, false, take, vec_len}
use Rattle.std.specs.Prelude.{vec_capacity}
use Rattle.qbf_search.specs.Standing.{decides, bound_at, is_open}
use Rattle.qbf_search.proofs.decisions.leave.Given as goal

-- the decisions behind are left
abbrev pub invariant-loop-decisions : goal.invariant-loop-decisions
invariant-loop-decisions l = record {
  shorter : vec_len l.decisions ≤ vec_len l.initial.decisions;
  front : l.decisions.items ≡ take (vec_len l.decisions) l.initial.decisions.items;
  left : (place : ℕ) → vec_len l.decisions ≤ place → place < vec_len l.initial.decisions → (is_open l.initial.decisions.items place ≡ false) ⊎ (decides (bound_at l.prefix place).quant l.value ≡ true);
  capacity : vec_capacity l.decisions ≡ vec_capacity l.initial.decisions;
}

abbrev pub decreases-loop-decisions : goal.decreases-loop-decisions
decreases-loop-decisions l = vec_len l.decisions
