-- What stands in a literal's row is live.
use Rattle.std.proofs.Common.{◌≡◌, ℕ, ◌<◌, ◌≤◌, Bool, true, false, List, length, get_or, Option, None, Some, refl, arith, if◌then◌else◌}
use Rattle.std.specs.Prelude.{All, IsSome}
use Rattle.std.specs.Option.{option_map_or}
use Rattle.std.proofs.lemmas.List.Elements.{All-from_get_or}
use Rattle.std.proofs.lemmas.List.Sums.{get_or-le-sum_by}
use Rattle.bddl_model.specs.declared.formula.Lit.{Lit}
use Rattle.bddl_model.specs.Forms.{has_literal}
use Rattle.qbf_store.specs.declared.constraint.ConstraintId.{ConstraintId}
use Rattle.qbf_store.specs.declared.constraint.ConstraintId.TheVariants.{Original}
use Rattle.qbf_store.specs.Constraints.{Constraint, Constraints, constraint, holds, same_id, times, IsLive}
use Rattle.qbf_store.proofs.Ids.{id_same}

live_holder : (l : Lit) (c : Option Constraint) → option_map_or (λ x. has_literal x.literals l) c false ≡ true → IsSome c
live_holder l None h = absurd cc
live_holder l (Some c) h = refl

some_time : (h b : Bool) (n : ℕ) → (if b then 1 else 0) ≤ n → b ≡ true → n ≡ (if h then 1 else 0) → h ≡ true
some_time true b n low itself is = refl
some_time false true n low itself is = absurd (omega arith)
some_time false false n low itself is = absurd cc

pub each_live : (s : Constraints) (l : Lit) (ids : List ConstraintId) → ((id : ConstraintId) → times id ids ≡ (if holds s l id then 1 else 0)) → All (IsLive s) ids
each_live s l ids count = All-from_get_or (IsLive s) ids (Original 0) live
  where
    live : (i : ℕ) → i < length ids → IsLive s (get_or ids i (Original 0))
    live i within =
        let id : ConstraintId = get_or ids i (Original 0) in
        live_holder l (constraint s id) (some_time (holds s l id) (same_id id id) (times id ids) (get_or-le-sum_by (λ y. if same_id id y then 1 else 0) ids i (Original 0) within) (id_same id) (count id))
