-- One node more of the pass.
use Rattle.std.proofs.Common.{◌≡◌, ℕ, suc, ◌+◌, ◌<◌, List, ◌∷◌, length, drop, sym, ap, ◌∙◌, arith}
use Rattle.std.specs.Prelude.{IfNone, Option, None, Some}
use Rattle.std.specs.List.{slice_index_or}
use Rattle.std.proofs.lemmas.List.{drop_more}
use Rattle.bddl_model.specs.declared.certificate.Node.{Node}
use Rattle.bddl_model.specs.declared.certificate.CertFault.{CertFault}
use Rattle.bddl_model.specs.Setup.{Setup}
use Rattle.bddl_model.specs.CertificateGraph.{answers}
use Rattle.bddl_model.specs.Certificate.{or_next}
use Rattle.cert_checker.specs.Places.{Table, known_at, place_in}
use Rattle.cert_checker.specs.Checking.{with_answers, fault_known, check_from}

pub if_none : (o : Option CertFault) (P : Type 0) → o ≡ None → IfNone o P → P
if_none None P e h = h
if_none (Some f) P e h = absurd cc

abbrev next_table : Setup → ℕ → Table → Node → Table
next_table s n t node = with_answers s n (place_in s t n) (answers node) t

abbrev fault_here : Setup → ℕ → Table → Node → Option CertFault
fault_here s n t node = fault_known s n (place_in s t n) node (known_at t n)

-- a node without fault leaves the answer to the nodes behind it
pub next_node : (s : Setup) (n : ℕ) (t next : Table) (nodes : List Node) (node : Node) (o : Option CertFault) → n < length nodes → node ≡ slice_index_or nodes n node → o ≡ fault_here s n t node → o ≡ None → next ≡ next_table s n t node
    → check_from s (n + 1) next (drop (n + 1) nodes) ≡ check_from s n t (drop n nodes)
next_node s n t next nodes node o lt is fault none table =
    let more : n + 1 ≡ suc n = omega arith in
    let fine : fault_here s n t node ≡ None = sym fault ∙ none in
    sym (ap (check_from s n t) (drop_more nodes n node lt ∙ ap (λ x. x ∷ drop (n + 1) nodes) (sym is))
    ∙ ap (λ f. or_next f (check_from s (suc n) (next_table s n t node) (drop (n + 1) nodes))) fine
    ∙ ap (λ u. check_from s (suc n) u (drop (n + 1) nodes)) (sym table)
    ∙ ap (λ k. check_from s k next (drop (n + 1) nodes)) (sym more))
