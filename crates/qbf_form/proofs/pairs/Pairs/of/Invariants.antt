use Rattle.std.proofs.Common.{◌≡◌, ◌||◌, drop}
use Rattle.qbf_form.specs.declared.pairs.Pair.{Pair}
use Rattle.qbf_form.specs.Pairs.{has_pair, pairs_of}
use Rattle.qbf_form.proofs.pairs.Pairs.of.Given as goal

-- a pair is held already, or is one of a clause that is left
abbrev pub invariant-loop-number : goal.invariant-loop-number
invariant-loop-number l = (pair : Pair) → (has_pair l.pairs pair || has_pair (pairs_of (drop l.number l.form.clauses)) pair) ≡ has_pair (pairs_of l.form.clauses) pair
