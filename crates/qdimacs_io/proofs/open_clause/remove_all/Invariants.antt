use Rattle.std.proofs.Common.{◌≡◌, ℕ, ◌<◌, drop, get_or, length, true, false}
use Rattle.bddl_model.specs.Forms.{has_number}
use Rattle.qdimacs_io.specs.MarkSets.{AllBelow, literal_numbers}
use Rattle.qdimacs_io.proofs.open_clause.remove_all.Given as goal

-- what is marked still is a literal that is left
abbrev pub invariant-loop-literal : goal.invariant-loop-literal
invariant-loop-literal l = record {
  len : length l.marks ≡ length l.fn.marks;
  within : AllBelow (length l.fn.marks) (literal_numbers (drop l.literal-index l.literals));
  covers : (n : ℕ) → n < length l.fn.marks → get_or l.marks n false ≡ true → has_number (literal_numbers (drop l.literal-index l.literals)) n ≡ true;
}
