use Rattle.std.proofs.Common.{◌∙◌, ap, inr}
use Rattle.std.proofs.lemmas.Result.{err_from_is_err_and}
use Rattle.bddl_model.specs.Canonical.{domain_text}
use Rattle.bddl_model.specs.declared.texts.DomainText.{DomainText}
use Rattle.bddl_model.specs.Grammar.{domain}
use Rattle.bddl_model.specs.Notes.{domain_fault}
use Rattle.bddl_model.specs.Outcome.{DomainThen, Says, done}
use Rattle.request_parts.specs.Ends.{Nothing, content_told}
use Rattle.request_parts.proofs.Stopping.{stops_in, stops_writing, text_is_cut, text_is_written, text_then}
use Rattle.request_parts.proofs.format.format_domain.Goals as goal

pub returns-in_err-tree-clause-written : goal.returns-in_err-tree-clause-written
returns-in_err-tree-clause-written g c =
    let end = err_from_is_err_and c.from_residual.result c.from_residual.ensures.1 in
    let next = λ (tree : DomainText). Says (domain_text tree) in
    rw (end.1, end.2) (stops_writing content_told (DomainThen c.args.domain.now next) _ _ (stops_in content_told (DomainThen c.args.domain.now Nothing) (DomainThen c.args.domain.now next) _ (λ end e. text_then domain domain_fault c.args.domain.now next end e) c.in_err-tree.ensures.stop))

pub returns-in_err-put_text-clause-written : goal.returns-in_err-put_text-clause-written
returns-in_err-put_text-clause-written g c =
    let end = err_from_is_err_and c.from_residual-in_err-put_text.result c.from_residual-in_err-put_text.ensures.1 in
    let says = inr (c.in_ok-tree.tree, c.in_ok-tree.ensures.found, ap done (c.deref.ensures.value ∙ c.in_ok-text.ensures.text)) in
    rw (end.1, end.2) (text_is_cut content_told (DomainThen c.args.domain.now (λ tree. Says (domain_text tree))) c.deref.result.now says _ _ c.in_err-put_text.field-0.0 c.in_err-put_text.ensures.text)

pub returns-clause-written : goal.returns-clause-written
returns-clause-written g c =
    let says = inr (c.in_ok-tree.tree, c.in_ok-tree.ensures.found, ap done (c.deref.ensures.value ∙ c.in_ok-text.ensures.text)) in
    text_is_written content_told (DomainThen c.args.domain.now (λ tree. Says (domain_text tree))) c.deref.result.now says _ _ c.in_ok-put_text.ensures.text
