-- Linked nodes name later nodes.
use Rattle.std.proofs.Common.{◌≡◌, ℕ, zero, suc, ◌+◌, ◌<◌, true, List, [], ◌∷◌, length, sym, subst, ◌∙◌, arith}
use Rattle.std.specs.Prelude.{nat_lt, All}
use Rattle.std.specs.List.{slice_index_or, list_all}
use Rattle.std.proofs.lemmas.Bool.{and_parts}
use Rattle.std.proofs.lemmas.List.{length-map}
use Rattle.std.proofs.lemmas.List.Elements.{All-nil, All-cons}
use Rattle.std.proofs.lemmas.List.Folds.{list_all-append}
use Rattle.bddl_model.specs.declared.certificate.Answered.{Answered}
use Rattle.bddl_model.specs.declared.certificate.Node.{Node}
use Rattle.bddl_model.specs.CertificateGraph.{answers, links, naming_of, named_by, namings_from, namings, is_later, linked}
use Rattle.bddl_model.proofs.FirstNamings.{later_is}
use Rattle.cert_checker.specs.Checking.{IsLater}

answers_are_later : (count n : ℕ) (all : List Answered) → list_all (is_later count) (named_by n all) ≡ true → All (IsLater count n) all
answers_are_later count n [] h = All-nil (IsLater count n)
answers_are_later count n (a ∷ rest) h =
    let u = and_parts (is_later count (naming_of n a)) (list_all (is_later count) (named_by n rest)) h in
    All-cons (IsLater count n) a rest (later_is count (naming_of n a) u.0) (answers_are_later count n rest u.1)

later_from : (count n : ℕ) (nodes : List Node) → list_all (is_later count) (namings_from n (links nodes)) ≡ true → (k : ℕ) (d : Node) → k < length nodes → All (IsLater count (n + k)) (answers (slice_index_or nodes k d))
later_from count n [] h k d lt = absurd (omega arith)
later_from count n (node ∷ rest) h zero d lt =
    let u = and_parts _ _ (sym (list_all-append (is_later count) (named_by n (answers node)) (namings_from (suc n) (links rest))) ∙ h) in
    let same : n ≡ n + 0 = omega arith in
    subst (λ m. All (IsLater count m) (answers node)) same (answers_are_later count n (answers node) u.0)
later_from count n (node ∷ rest) h (suc k) d lt =
    let u = and_parts _ _ (sym (list_all-append (is_later count) (named_by n (answers node)) (namings_from (suc n) (links rest))) ∙ h) in
    let same : suc n + k ≡ n + suc k = omega arith in
    subst (λ m. All (IsLater count m) (answers (slice_index_or rest k d))) same (later_from count (suc n) rest u.1 k d (omega arith))

pub later_at : (count size k : ℕ) (nodes : List Node) (node : Node) → list_all (is_later count) (namings (links nodes)) ≡ true → k < length nodes → node ≡ slice_index_or nodes k node → size ≡ count → All (IsLater size k) (answers node)
later_at count size k nodes node h lt is e =
    let number : 0 + k ≡ k = omega arith in
    subst (λ m. All (IsLater size m) (answers node)) number (subst (λ c. All (IsLater c (0 + k)) (answers node)) (sym e) (subst (λ x. All (IsLater count (0 + k)) (answers x)) (sym is) (later_from count 0 nodes h k node lt)))

pub linked_order : (nodes : List Node) → linked (links nodes) ≡ true → list_all (is_later (length nodes)) (namings (links nodes)) ≡ true
unfolding linked
linked_order nodes h =
    let order = (and_parts _ _ (and_parts (nat_lt 0 (length (links nodes))) _ h).1).0 in
    subst (λ n. list_all (is_later n) (namings (links nodes)) ≡ true) (length-map nodes answers) order
