use Rattle.std.proofs.Common.{◌≡◌, ◌≤◌, ◌-◌, length}
use Rattle.bddl_model.specs.Tokens.{Placed}
use Rattle.bddl_lexer.proofs.Placing.{last_end}
use Rattle.bddl_lexer.proofs.lexer.tokens_of.Given as goal

abbrev pub invariant-loop-tokens : goal.invariant-loop-tokens
invariant-loop-tokens l = record { within : l.at ≤ length l.bytes; placed : Placed l.bytes 0 l.tokens.items; reached : last_end 0 l.tokens.items ≡ l.at }

abbrev pub decreases-loop-tokens : goal.decreases-loop-tokens
decreases-loop-tokens l = length l.bytes - l.at
