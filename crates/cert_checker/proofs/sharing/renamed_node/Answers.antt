use Rattle.std.proofs.Common.{map, sym, ap, ◌∙◌, subst, arith}
use Rattle.bddl_model.specs.declared.certificate.Node.TheVariants as nodes
use Rattle.bddl_model.specs.Certificate.{IsLike}
use Rattle.cert_checker.proofs.Renaming.{same_moves}
use Rattle.cert_checker.proofs.sharing.renamed_node.Goals as goal

pub renamed_answer-requires : goal.renamed_answer-requires
renamed_answer-requires c = (let inside = rw c.in-Black.is at c.requires.inside in record { inside = inside 0 (record { mv = c.in-Black.mv; next = c.in-Black.next }) (omega arith) })

pub returns-in_ok-replies-in-White-clause-like : goal.returns-in_ok-replies-in-White-clause-like
returns-in_ok-replies-in-White-clause-like c =
    subst (λ node. IsLike (nodes.White c.in_ok-replies-in-White.replies) node) (sym c.in-White.is)
    (same_moves _ _ _ _ _ c.in_ok-replies-in-White.ensures ∙ ap (map (λ a. a.mv)) c.as_slice.ensures)
