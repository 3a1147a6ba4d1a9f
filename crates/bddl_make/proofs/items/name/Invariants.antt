use Rattle.std.proofs.Common.{◌≡◌, take}
use Rattle.bddl_make.proofs.items.name.Given as goal

abbrev pub invariant-loop-byte : goal.invariant-loop-byte
invariant-loop-byte l = l.name ≡ take l.byte-index l.byte-items
