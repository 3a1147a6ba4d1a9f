-- Nodes that have places without fault are a valid certificate, and these are the places of the nodes of one.
use Rattle.std.proofs.Common.{◌≡◌, ℕ, zero, suc, ◌+◌, ◌<◌, Bool, true, false, not, ◌||◌, List, [], ◌∷◌, length, get_or, slice_get, All, Option, Some, None, refl, sym, ap, subst, ◌∙◌, arith}
use Rattle.std.specs.Prelude.{◌==◌, is_none, Contains, option_map, if◌then◌else◌}
use Rattle.std.specs.List.{list_all}
use Rattle.std.proofs.lemmas.List.{length-map}
use Rattle.std.proofs.lemmas.Option.{slice_get-map, slice_get_within, slice_get-get_or}
use Rattle.std.proofs.lemmas.List.Elements.{All-contains, All-contains_itself}
use Rattle.std.proofs.lemmas.List.Sums.{AllPass-from_list_all, list_all-from_AllPass}
use Rattle.bddl_model.specs.declared.certificate.Answered.{Answered}
use Rattle.bddl_model.specs.declared.certificate.Node.{Node}
use Rattle.bddl_model.specs.declared.certificate.Node.TheVariants.{Goal}
use Rattle.bddl_model.specs.declared.certificate.CertFault.{CertFault}
use Rattle.bddl_model.specs.declared.certificate.CertFault.TheVariants as faults
use Rattle.bddl_model.specs.Setup.{Setup}
use Rattle.bddl_model.specs.CertificateGraph.{answers, Links, links, Naming, naming_of, namings, linked}
use Rattle.bddl_model.specs.Certificate.{Place, behind, place, same_place, leads_to, node_fault, fault_at, or_next, faults_from, cert_fault, valid}
use Rattle.bddl_model.proofs.PlaceTests.{both, together, equal_numbers, numbers_equal, places_equal, place_itself}
use Rattle.bddl_laws.specs.PlacedNodes.{ArePlaced}
use Rattle.bddl_laws.proofs.Named.{AreLinked, linked_namings, answer_names, first_in, place_later}

-- ---- faults of nodes, one by one

no_first : (a b : Option CertFault) → or_next a b ≡ None → (a ≡ None) × (b ≡ None)
no_first None b h = (refl, h)
no_first (Some f) b h = absurd cc

each_fine : (s : Setup) (ls : Links) (n k : ℕ) (nodes : List Node) (node : Node) → faults_from s ls n nodes ≡ None → slice_get nodes k ≡ Some node → fault_at s ls (n + k) node ≡ None
each_fine s ls n k [] node h e = absurd cc
each_fine s ls n zero (first ∷ rest) node h e =
    let i : first ≡ node = cc in
    let z : n + 0 ≡ n = omega arith in
    rw z (rw (sym i) (no_first (fault_at s ls n first) _ h).0)
each_fine s ls n (suc k) (first ∷ rest) node h e =
    let z : n + suc k ≡ suc n + k = omega arith in
    rw z (each_fine s ls (suc n) k rest node (no_first (fault_at s ls n first) _ h).1 e)

none_faulty : (s : Setup) (ls : Links) (n : ℕ) (nodes : List Node) → ((k : ℕ) (node : Node) → slice_get nodes k ≡ Some node → fault_at s ls (n + k) node ≡ None) → faults_from s ls n nodes ≡ None
none_faulty s ls n [] f = refl
none_faulty s ls n (first ∷ rest) f =
    let z : n + 0 ≡ n = omega arith in
    let here : fault_at s ls n first ≡ None = subst (λ i. fault_at s ls i first ≡ None) z (f 0 first refl) in
    rw here (none_faulty s ls (suc n) rest (λ k node e. (let y : n + suc k ≡ suc n + k = omega arith in subst (λ i. fault_at s ls i node ≡ None) y (f (suc k) node e))))

both_fine : (b : Bool) (f : CertFault) (o : Option CertFault) → (if b then o else Some f) ≡ None → (b ≡ true) × (o ≡ None)
both_fine true f o h = (refl, h)
both_fine false f o h = absurd cc

no_fault : (o : Option CertFault) → is_none o ≡ true → o ≡ None
no_fault None h = refl
no_fault (Some f) h = absurd cc

-- ---- nodes and their answers

pub node_at : (nodes : List Node) (k : ℕ) → k < length nodes → (node : Node) × (slice_get nodes k ≡ Some node)
node_at nodes k lt = (get_or nodes k Goal, slice_get-get_or nodes k Goal lt)

pub links_at : (nodes : List Node) (k : ℕ) (node : Node) → slice_get nodes k ≡ Some node → slice_get (links nodes) k ≡ Some (answers node)
links_at nodes k node h = slice_get-map answers nodes k ∙ ap (option_map answers) h

pub links_length : (nodes : List Node) → length (links nodes) ≡ length nodes
links_length nodes = length-map nodes answers

-- what all namings have, those of a node's answers have
pub of_answers : (P : Naming → Type 0) (nodes : List Node) (k : ℕ) (node : Node) (a : Answered) → All P (namings (links nodes)) → slice_get nodes k ≡ Some node → Contains (answers node) a → P (naming_of k a)
of_answers P nodes k node a all h c =
    let z : 0 + k ≡ k = omega arith in
    All-contains P (namings (links nodes)) (naming_of k a) all (subst (λ i. Contains (namings (links nodes)) (naming_of i a)) z (answer_names (links nodes) 0 k (answers node) a (links_at nodes k node h) c))

-- ---- the places of a valid certificate

pub valid_linked : (s : Setup) (nodes : List Node) → valid s nodes ≡ true → linked (links nodes) ≡ true
unfolding valid
valid_linked s nodes h = (both (linked (links nodes)) _ h).0

pub valid_fine : (s : Setup) (nodes : List Node) → valid s nodes ≡ true → (k : ℕ) (node : Node) → slice_get nodes k ≡ Some node
    → (list_all (leads_to s (links nodes) k) (namings (links nodes)) ≡ true) × (node_fault s.game k (place s (links nodes) k) node ≡ None)
unfolding valid cert_fault
valid_fine s nodes h k node e =
    let none = no_fault (cert_fault s nodes) (both (linked (links nodes)) _ h).1 in
    let z : 0 + k ≡ k = omega arith in
    both_fine (list_all (leads_to s (links nodes) k) (namings (links nodes))) (faults.TwoPlaces k) (node_fault s.game k (place s (links nodes) k) node)
    (subst (λ i. fault_at s (links nodes) i node ≡ None) z (each_fine s (links nodes) 0 k nodes node none e))

joined : (p q : Place) (m : ℕ) → (not (m == m) || same_place p q) ≡ true → p ≡ q
joined p q m e = places_equal p q (rw (numbers_equal m m refl) at e)

naming_leads : (s : Setup) (nodes : List Node) → valid s nodes ≡ true → (w : Naming) → Contains (namings (links nodes)) w → behind s.game (place s (links nodes) w.from) w.mv ≡ place s (links nodes) w.to
naming_leads s nodes h w c =
    let later = (linked_namings (links nodes) (valid_linked s nodes h)).later w c in
    let there = node_at nodes w.to (omega (arith, later.1, links_length nodes)) in
    joined (behind s.game (place s (links nodes) w.from) w.mv) (place s (links nodes) w.to) w.to
    (All-contains (λ v. leads_to s (links nodes) w.to v ≡ true) (namings (links nodes)) w (AllPass-from_list_all (leads_to s (links nodes) w.to) (namings (links nodes)) (valid_fine s nodes h w.to there.0 there.1).0) c)

pub valid_places : (s : Setup) (nodes : List Node) → valid s nodes ≡ true → ArePlaced s nodes (place s (links nodes))
unfolding place
valid_places s nodes h = record {
  root = refl;
  leads = λ i d lt. naming_leads s nodes h (get_or (namings (links nodes)) i d) (All-contains_itself (namings (links nodes)) i d lt);
  fine = λ k node e. (valid_fine s nodes h k node e).1;
}

-- ---- nodes that have places

module _ (s : Setup) (nodes : List Node) (at : ℕ → Place) (l : linked (links nodes) ≡ true) (placed : ArePlaced s nodes at) where
  abbrev ls : Links
  ls = links nodes

  their : AreLinked ls
  their = linked_namings ls l

  below : (k m : ℕ) → m < k → m < length nodes → place s ls m ≡ at m
  unfolding place
  below zero m lt inside = absurd (omega (arith, lt))
  below (suc k) zero lt inside = sym placed.root
  below (suc k) (suc m) lt inside =
      let w = their.named (suc m) (omega arith) (omega (arith, inside, links_length nodes)) in
      let here = first_in (suc m) (namings ls) w.0 w.1 in
      let later = their.later w.0 here.1 in
      place_later s ls (suc m) w.0 l w.1
      ∙ ap (λ p. behind s.game p w.0.mv) (below k w.0.from (omega (arith, later.0, here.0, lt)) (omega (arith, later.0, later.1, links_length nodes)))
      ∙ All-contains (λ v. behind s.game (at v.from) v.mv ≡ at v.to) (namings ls) w.0 placed.leads here.1
      ∙ ap at here.0

  pub placed_there : (m : ℕ) → m < length nodes → place s ls m ≡ at m
  placed_there m inside = below (suc m) m (omega arith) inside

  all_lead : (k : ℕ) → k < length nodes → list_all (leads_to s ls k) (namings ls) ≡ true
  all_lead k inside = list_all-from_AllPass (leads_to s ls k) (namings ls) (λ i d lt. one (get_or (namings ls) i d) (All-contains_itself (namings ls) i d lt))
    where
      one : (w : Naming) → Contains (namings ls) w → leads_to s ls k w ≡ true
      one w c = by (w.to == k) refl
        where
          later : (w.from < w.to) × (w.to < length ls)
          later = their.later w c

          same : w.to ≡ k → behind s.game (place s ls w.from) w.mv ≡ place s ls k
          same e =
              ap (λ p. behind s.game p w.mv) (placed_there w.from (omega (arith, later.0, later.1, links_length nodes)))
              ∙ All-contains (λ v. behind s.game (at v.from) v.mv ≡ at v.to) (namings ls) w placed.leads c
              ∙ ap at e ∙ sym (placed_there k inside)

          by : (b : Bool) → (w.to == k) ≡ b → (not b || same_place (behind s.game (place s ls w.from) w.mv) (place s ls k)) ≡ true
          by true e = subst (λ p. same_place p (place s ls k) ≡ true) (sym (same (equal_numbers w.to k e))) (place_itself (place s ls k))
          by false e = refl

  pub placed_valid : valid s nodes ≡ true
  unfolding valid cert_fault
  placed_valid = together (linked ls) _ l (ap is_none (none_faulty s ls 0 nodes (λ k node e. (let z : 0 + k ≡ k = omega arith in subst (λ i. fault_at s ls i node ≡ None) (sym z) (fine k node e)))))
    where
      fine : (k : ℕ) (node : Node) → slice_get nodes k ≡ Some node → fault_at s ls k node ≡ None
      fine k node e =
          let inside = slice_get_within nodes k node e in
          rw (all_lead k inside) (subst (λ p. node_fault s.game k p node ≡ None) (sym (placed_there k inside)) (placed.fine k node e))
