use Rattle.std.proofs.Common.{refl}
use Rattle.io_edge.proofs.Added.{added_nothing, added_more, added_stops, added_last}
use Rattle.cert_text.proofs.Writing.{cert_is}
use Rattle.cert_text.proofs.write.add_cert.Goals as goal

pub returns-in_err-add_header-clause-text : goal.returns-in_err-add_header-clause-text
returns-in_err-add_header-clause-text g c = added_stops _ _ _ _ (cert_is c.args.nodes.now) _ _ _ _ _ _ (added_nothing _ _ _) _ c.from_residual.ensures.0 c.in_err-add_header.ensures.text

pub returns-clause-text : goal.returns-clause-text
returns-clause-text g c = added_last _ _ _ refl _ _ _ _ _ _ _ (added_more _ _ _ _ (cert_is c.args.nodes.now) _ _ _ _ _ _ (added_nothing _ _ _) c.in_ok-add_header.ensures.text) c.add_nodes.ensures.text
