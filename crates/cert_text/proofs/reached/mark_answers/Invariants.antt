use Rattle.std.proofs.Common.{◌≡◌, take, length}
use Rattle.cert_text.specs.Reached.{Marks}
use Rattle.cert_text.proofs.reached.mark_answers.Given as goal

abbrev pub invariant-loop-answer : goal.invariant-loop-answer
invariant-loop-answer l = record {
  marks : Marks (take l.answer-index l.answers) l.fn.marks.items l.marks.items;
  len : length l.marks.items ≡ length l.fn.marks.items;
}
