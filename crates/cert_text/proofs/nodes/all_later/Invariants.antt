use Rattle.std.proofs.Common.{◌≡◌, drop}
use Rattle.std.specs.List.{list_all}
use Rattle.bddl_model.specs.CertificateGraph.{is_later, named_by}
use Rattle.cert_text.proofs.nodes.all_later.Given as goal

abbrev pub invariant-loop-answer : goal.invariant-loop-answer
invariant-loop-answer l = list_all (is_later l.count) (named_by l.node (drop l.answer-index l.answers)) ≡ list_all (is_later l.count) (named_by l.node l.answers)
