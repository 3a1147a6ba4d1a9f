-- Nodes that are named, and marks of them.
use Rattle.std.proofs.Common.{◌≡◌, ℕ, suc, ◌+◌, ◌<◌, Bool, true, ◌&&◌, ◌||◌, nat_lt, List, [], ◌∷◌, ◌++◌, length, take, get_or, refl, sym, ap, ◌∙◌, arith}
use Rattle.std.specs.Prelude.{All, ◌==◌}
use Rattle.std.specs.List.{list_all, list_any}
use Rattle.std.proofs.lemmas.Bool.{and_parts}
use Rattle.std.proofs.lemmas.Bool.Decides.{Decides-ltb}
use Rattle.std.proofs.lemmas.List.{take_more, map_push}
use Rattle.std.proofs.lemmas.List.Elements.{All-nil, All-cons, All-head}
use Rattle.std.proofs.lemmas.List.Folds.{list_any-append, list_all-append}
use Rattle.bddl_model.specs.declared.certificate.Answered.{Answered}
use Rattle.bddl_model.specs.declared.certificate.NodeNo.{NodeNo}
use Rattle.bddl_model.specs.declared.game.Move.{Move}
use Rattle.bddl_model.specs.declared.certificate.Node.{Node}
use Rattle.bddl_model.specs.declared.certificate.Node.TheVariants.{Black}
use Rattle.bddl_model.specs.CertificateGraph.{answers, Links, links, Naming, named_by, namings, namings_from, is_later, is_named}
use Rattle.cert_text.specs.Reached.{leads_to, AreBelow, Marks, AreMarked, IsFirstUnmarked, IsFirstUnnamed}
use Rattle.cert_text.proofs.Following.{namings_more}

pub black_below : (n : ℕ) (node : Node) (mv : Move) (next : NodeNo) → node ≡ Black mv next → AreBelow n (answers node) → next.0 < n
black_below n node mv next is below = All-head (λ (a : Answered). a.next.0 < n) (record { mv = mv; next = next }) [] (rw is at below)

named_any : (m n : ℕ) (all : List Answered) → list_any (λ w. w.to == m) (named_by n all) ≡ list_any (leads_to m) all
named_any m n [] = refl
named_any m n (a ∷ all) = ap (λ b. leads_to m a || b) (named_any m n all)

pub named_more : (nodes : List Node) (node : Node) (m : ℕ) → is_named (links (nodes ++ node ∷ [])) m ≡ (is_named (links nodes) m || list_any (leads_to m) (answers node))
named_more nodes node m =
    ap (λ (ls : Links). is_named ls m) (map_push answers nodes node)
    ∙ ap (list_any (λ (w : Naming). w.to == m)) (namings_more 0 (links nodes) (answers node))
    ∙ list_any-append (λ (w : Naming). w.to == m) (namings (links nodes)) (named_by (0 + length (links nodes)) (answers node))
    ∙ ap (λ b. is_named (links nodes) m || b) (named_any m (0 + length (links nodes)) (answers node))

pub marks_more : (nodes : List Node) (i : ℕ) (node : Node) (old new : List Bool) → i < length nodes → node ≡ get_or nodes i node → length new ≡ length old → AreMarked (take i nodes) old → Marks (answers node) old new → AreMarked (take (i + 1) nodes) new
marks_more nodes i node old new within is len marked more m small =
    more m (omega arith) ∙ ap (λ b. b || list_any (leads_to m) (answers node)) (marked m (omega arith))
    ∙ sym (ap (λ (l : List Node). is_named (links l) m) (take_more nodes i node within ∙ ap (λ x. take i nodes ++ x ∷ []) (sym is)) ∙ named_more (take i nodes) node m)

-- ---- what marks tell

pub first_found : (nodes : List Node) (marks : List Bool) (n : ℕ) → length marks ≡ length nodes → AreMarked nodes marks → IsFirstUnmarked marks n → IsFirstUnnamed nodes n
first_found nodes marks n len marked h =
    let within = h.within in
    record {
      later = h.later;
      within = omega arith;
      unnamed = sym (marked n within) ∙ h.unmarked;
      before = λ m some less. sym (marked m (omega arith)) ∙ h.before m some less;
    }

-- ---- next numbers are below the count

later_below : (count n : ℕ) (all : List Answered) → list_all (is_later count) (named_by n all) ≡ true → AreBelow count all
later_below count n [] h = All-nil (λ (a : Answered). a.next.0 < count)
later_below count n (a ∷ all) h =
    let p = and_parts (nat_lt n a.next.0 && nat_lt a.next.0 count) (list_all (is_later count) (named_by n all)) h in
    let q = and_parts (nat_lt n a.next.0) (nat_lt a.next.0 count) p.0 in
    All-cons (λ (b : Answered). b.next.0 < count) a all ((Decides-ltb a.next.0 count).0 q.1) (later_below count n all p.1)

pub all_below : (count n : ℕ) (nodes : List Node) → list_all (is_later count) (namings_from n (links nodes)) ≡ true → All (λ node. AreBelow count (answers node)) nodes
all_below count n [] h = All-nil (λ (node : Node). AreBelow count (answers node))
all_below count n (node ∷ nodes) h =
    let p = and_parts (list_all (is_later count) (named_by n (answers node))) (list_all (is_later count) (namings_from (suc n) (links nodes)))
    (sym (list_all-append (is_later count) (named_by n (answers node)) (namings_from (suc n) (links nodes))) ∙ h) in
    All-cons (λ (x : Node). AreBelow count (answers x)) node nodes (later_below count n (answers node) p.0) (all_below count (suc n) nodes p.1)
