use Rattle.std.proofs.Common.{◌≡◌, map, take}
use Rattle.cert_checker.specs.Placing.{least_at}
use Rattle.cert_checker.proofs.least.least_of_each.Given as goal

abbrev pub invariant-loop-place : goal.invariant-loop-place
invariant-loop-place l = record { all : l.all.items ≡ map (least_at l.placing) (take l.place-index l.place-items) }
