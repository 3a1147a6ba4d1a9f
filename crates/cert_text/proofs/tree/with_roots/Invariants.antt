use Rattle.std.proofs.Common.{◌≡◌, ◌≤◌, ◌+◌, ◌++◌, length, drop, reverse}
use Rattle.cert_text.specs.Trees as spec
use Rattle.cert_text.proofs.tree.with_roots.Given as goal

abbrev pub invariant-loop-answer : goal.invariant-loop-answer
invariant-loop-answer l = record {
  enough : length l.answers ≤ l.answer-index + length l.roots.items;
  filled : l.replies ++ spec.with_roots (drop l.answer-index l.answers) (reverse l.roots.items) ≡ spec.with_roots l.answers (reverse l.fn.roots.items);
  left : spec.roots_behind (drop l.answer-index l.answers) (reverse l.roots.items) ≡ spec.roots_behind l.answers (reverse l.fn.roots.items);
}
