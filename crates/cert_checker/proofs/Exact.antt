-- The pass finds the first fault.
use Rattle.std.proofs.Common.{◌≡◌, ℕ, zero, suc, ◌<◌, Bool, true, false, ◌&&◌, List, [], ◌∷◌, ◌++◌, length, replicate, refl, sym, ap, subst, ◌∙◌, arith, append_assoc, inl, inr}
use Rattle.std.specs.Prelude.{is_none, Option, Some, None}
use Rattle.std.specs.List.{list_all}
use Rattle.std.proofs.lemmas.Bool.{and_parts, cases_Bool}
use Rattle.std.proofs.lemmas.List.{length-replicate, length-map}
use Rattle.std.proofs.lemmas.List.Folds.{list_all-append}
use Rattle.bddl_model.specs.declared.certificate.Node.{Node}
use Rattle.bddl_model.specs.declared.certificate.CertFault.{CertFault}
use Rattle.bddl_model.specs.declared.certificate.CertFault.TheVariants.{TwoPlaces}
use Rattle.bddl_model.specs.Setup.{Setup}
use Rattle.bddl_model.specs.CertificateGraph.{answers, Links, links, Naming, named_by, namings_from, namings, first_naming, is_later, linked}
use Rattle.bddl_model.specs.Certificate.{Place, place, leads_to, node_fault, fault_at, or_next, faults_from, cert_fault, valid}
use Rattle.cert_checker.specs.declared.known.Known.{Known}
use Rattle.cert_checker.specs.declared.known.Known.TheVariants.{Unnamed}
use Rattle.cert_checker.specs.Places.{Table, known_at, place_in}
use Rattle.cert_checker.specs.Checking.{with_answers, fault_known, check_from}
use Rattle.cert_checker.proofs.Agreeing.{expected_of, Agrees, low_place, low_entry, answers_agree, wider}
use Rattle.bddl_model.proofs.FirstNamings.{apart, apart_from, apart_leads, none_apart}
use Rattle.cert_checker.proofs.Order.{linked_order}

fine_known : (s : Setup) (n : ℕ) (p q : Place) (node : Node) (o : Option Naming) (k : Known) → p ≡ q → k ≡ expected_of true o → fault_known s n p node k ≡ node_fault s.game n q node
fine_known s n p q node None k e f = rw (e, f) refl
fine_known s n p q node (Some w) k e f = rw (e, f) refl

two_known : (s : Setup) (n : ℕ) (p : Place) (node : Node) (b : Bool) (o : Option Naming) (k : Known) → b ≡ false → (o ≡ None → b ≡ true) → k ≡ expected_of b o → fault_known s n p node k ≡ Some (TwoPlaces n)
two_known s n p node b None k e f g = (let t = f refl in absurd cc)
two_known s n p node b (Some w) k e f g = rw (g, e) refl

front_false : (a b : Bool) → (a && b) ≡ false → b ≡ true → a ≡ false
front_false true b h k = absurd cc
front_false false b h k = refl

both_next : (a b c d : Option CertFault) → a ≡ c → b ≡ d → or_next a b ≡ or_next c d
both_next a b c d e f = rw (e, f) refl

stop_next : (a b c d : Option CertFault) (f : CertFault) → a ≡ Some f → c ≡ Some f → or_next a b ≡ or_next c d
stop_next a b c d f e g = rw (e, g) refl

pub pass_exact : (s : Setup) (ls : Links) (rest : List Node) (n : ℕ) (seen : List Naming) (t : Table) → Agrees s ls n seen t → namings ls ≡ seen ++ namings_from n (links rest) → check_from s n t rest ≡ faults_from s ls n rest
pass_exact s ls [] n seen t a whole = refl
pass_exact s ls (node ∷ more) n seen t a whole =
    let tail = (and_parts _ _ (sym (list_all-append (is_later (length ls)) seen (namings_from n (links (node ∷ more)))) ∙ ap (list_all (is_later (length ls))) (sym whole) ∙ a.order)).1 in
    let apart_rest : (m : ℕ) → m < suc n → list_all (apart m) (namings_from n (links (node ∷ more))) ≡ true = λ m lt. apart_from (length ls) m n (links (node ∷ more)) (omega arith) tail in
    elim (cases_Bool (list_all (leads_to s ls n) (namings ls))) [
      | inl clear ↦
          let b = wider s ls n seen t a (namings_from n (links (node ∷ more))) whole apart_rest clear in
          let at = low_place s ls (suc n) seen t b (suc n) n (omega arith) (omega arith) in
          let entry = low_entry s ls (suc n) seen t b n (omega arith) in
          let fine = fine_known s n (place_in s t n) (place s ls n) node (first_naming n (namings ls)) (known_at t n) at entry in
          let c = answers_agree s ls n (place_in s t n) at (answers node) seen t b (namings_from (suc n) (links more)) whole apart_rest in
          let on = pass_exact s ls more (suc n) (seen ++ named_by n (answers node)) (with_answers s n (place_in s t n) (answers node) t) c (whole ∙ sym (append_assoc seen (named_by n (answers node)) (namings_from (suc n) (links more)))) in
          both_next _ _ (fault_at s ls n node) _ (fine ∙ (rw clear refl)) on
      | inr two ↦
          let seen_two = front_false (list_all (leads_to s ls n) seen) _ (sym (list_all-append (leads_to s ls n) seen (namings_from n (links (node ∷ more)))) ∙ ap (list_all (leads_to s ls n)) (sym whole) ∙ two) (apart_leads s ls n (namings_from n (links (node ∷ more))) (apart_rest n (omega arith))) in
          stop_next _ _ (fault_at s ls n node) _ (TwoPlaces n) (two_known s n (place_in s t n) node (list_all (leads_to s ls n) seen) (first_naming n seen) (known_at t n) seen_two (λ none. apart_leads s ls n seen (none_apart n seen none)) (a.entries n)) (rw two refl)
    ]

nothing_known : (n m : ℕ) → known_at (replicate n Unnamed) m ≡ Unnamed
nothing_known zero m = refl
nothing_known (suc n) zero = refl
nothing_known (suc n) (suc m) = nothing_known n m

pub starts_fresh : (s : Setup) (nodes : List Node) (t : Table) → t ≡ replicate (length nodes) Unnamed → list_all (is_later (length nodes)) (namings (links nodes)) ≡ true → check_from s 0 t nodes ≡ cert_fault s nodes
unfolding cert_fault
starts_fresh s nodes t fresh order =
    let count = length-map nodes answers in
    pass_exact s (links nodes) nodes 0 [] t
    (record {
      entries = λ m. ap (λ (u : Table). known_at u m) fresh ∙ nothing_known (length nodes) m;
      size = ap length fresh ∙ length-replicate (length nodes) Unnamed ∙ sym count;
      order = subst (λ n. list_all (is_later n) (namings (links nodes)) ≡ true) (sym count) order;
      after = namings (links nodes);
      whole = refl;
      apart_after = λ m lt. absurd (omega arith);
      clear = λ m lt. absurd (omega arith);
      froms = refl;
    })
    refl

-- what the pass over a fresh table finds
pub found_fault : (s : Setup) (nodes : List Node) (t : Table) (o : Option CertFault) → t ≡ replicate (length nodes) Unnamed → linked (links nodes) ≡ true → o ≡ check_from s 0 t nodes → cert_fault s nodes ≡ o
found_fault s nodes t o fresh h e = sym (e ∙ starts_fresh s nodes t fresh (linked_order nodes h))

-- ---- valid certificates

pub is_valid : (s : Setup) (nodes : List Node) → linked (links nodes) ≡ true → cert_fault s nodes ≡ None → valid s nodes ≡ true
unfolding valid
is_valid s nodes h e = rw (h, e) refl

pub valid_has_no_fault : (s : Setup) (nodes : List Node) → valid s nodes ≡ true → cert_fault s nodes ≡ None
unfolding valid
valid_has_no_fault s nodes h = none (cert_fault s nodes) (and_parts (linked (links nodes)) (is_none (cert_fault s nodes)) h).1
  where
    none : (o : Option CertFault) → is_none o ≡ true → o ≡ None
    none None h = refl
    none (Some f) h = absurd cc
