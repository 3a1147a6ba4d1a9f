use Rattle.std.proofs.Common.{◌≤◌, ◌+◌, ◌*◌, ◌^◌, ◌++◌, length}
use Rattle.bddl_model.specs.CertificateText.{header_text}
use Rattle.bddl_model.specs.CertificateFaults.{ReadsTo}
use Rattle.cert_text.specs.Reading.{version_of}
use Rattle.cert_text.proofs.nodes.read_nodes.Given as goal

abbrev pub invariant-nodes : goal.invariant-nodes
invariant-nodes l = record {
  reads : ReadsTo (header_text (version_of l.version) l.count ++ l.fn.bytes) (version_of l.version) l.count l.nodes l.due l.rest;
  few : l.due ≤ 2 ^ 64 + 1000000000 * length l.nodes;
}

abbrev pub decreases-nodes : goal.decreases-nodes
decreases-nodes l = length l.rest
