use Rattle.std.proofs.Common.{◌≡◌, take}
use Rattle.qbf_store.specs.Constraints.{times}
use Rattle.qbf_store.proofs.holders.place_of.Given as goal

abbrev pub invariant-loop-place : goal.invariant-loop-place
invariant-loop-place l = times l.id (take l.place l.ids) ≡ 0
