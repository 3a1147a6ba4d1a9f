-- Where the nodes of a text end: what it says, or what is wrong with it.
use Rattle.std.proofs.Common.{◌≡◌, ◌≢◌, ℕ, zero, suc, ◌+◌, ◌-◌, ◌<◌, ◌≤◌, ◌^◌, Bool, true, false, nat_le, List, [], ◌∷◌, ◌++◌, length, None, Some, refl, sym, ap, subst, ◌∙◌, arith, inl, inr, ◌⊎◌, append-nil}
use Rattle.std.specs.Prelude.{All, Result, Ok, Err, IfOk, IfErr, nat_eq}
use Rattle.std.specs.List.{list_all, range_with_len}
use Rattle.std.proofs.lemmas.Bool.{cases_Bool, and_from, leb-true, eqb-true}
use Rattle.std.proofs.lemmas.Bool.Decides.{Decides-ltb}
use Rattle.bddl_model.specs.declared.certificate.Node.{Node}
use Rattle.bddl_model.specs.declared.certificate.CertReadFault.{CertReadFault}
use Rattle.bddl_model.specs.declared.certificate.CertReadFault.TheVariants as faults
use Rattle.bddl_model.specs.CertificateGraph.{answers, links, namings, is_later, is_named, linked}
use Rattle.bddl_model.specs.CertificateText.{Version, ordered, numbered, header_text, nodes_text, cert_text, CertText}
use Rattle.bddl_model.specs.CertificateFaults.{IsCount, ReadsTo, CertFails, due_behind}
use Rattle.cert_text.specs.Reading.{header_at}
use Rattle.cert_text.specs.Reached.{AreBelow, AllNamed, IsFirstUnnamed}
use Rattle.cert_text.specs.Trees.{trees_from}
use Rattle.cert_text.proofs.HeaderReading.{header_sound}
use Rattle.cert_text.proofs.Following.{links_len}
use Rattle.cert_text.proofs.Naming.{all_below}
use Rattle.cert_text.proofs.Numbering.{are_trees, in_preorder}

-- ---- a text and its header

module _ (bytes rest : List ℕ) (v : Version) (count : ℕ) (found : header_at bytes ≡ Some ((v, count), rest)) where
  pub counts : IsCount v count
  counts = (header_sound bytes rest v count found).1

  pub reads_told : (nodes : List Node) (due : ℕ) (end : List ℕ) → ReadsTo (header_text v count ++ rest) v count nodes due end → ReadsTo bytes v count nodes due end
  reads_told nodes due end h = subst (λ t. ReadsTo t v count nodes due end) (sym (header_sound bytes rest v count found).0) h

  pub fault_told : (f : CertReadFault) → (f ≡ faults.NoMemory) ⊎ CertFails (header_text v count ++ rest) f → (f ≡ faults.NoMemory) ⊎ CertFails bytes f
  fault_told f h = subst (λ t. (f ≡ faults.NoMemory) ⊎ CertFails t f) (sym (header_sound bytes rest v count found).0) h

-- ---- the text goes on

pub goes_on : (bytes : List ℕ) (v : Version) (count : ℕ) (nodes : List Node) (rest : List ℕ) → ReadsTo bytes v count nodes 0 rest → rest ≢ [] → CertFails bytes (faults.Unused (length nodes))
goes_on bytes v count nodes rest reads some = (v, count, nodes, rest, reads, refl, some)

-- ---- a text in order

text_is : (v : Version) (count : ℕ) (nodes like : List Node) (bytes : List ℕ) → bytes ≡ header_text v count ++ (nodes_text v nodes ++ []) → count ≡ length like → nodes_text v like ≡ nodes_text v nodes → bytes ≡ cert_text v like
unfolding cert_text
text_is v count nodes like bytes h number same = h ∙ rw (number, same, append-nil (nodes_text v nodes)) refl

pub tree_said : (bytes : List ℕ) (count : ℕ) (nodes : List Node) → ReadsTo bytes ordered count nodes 0 [] → count ≡ length nodes → CertText bytes (trees_from 0 nodes).nodes
tree_said bytes count nodes reads number =
    let fits : count < 2 ^ 64 = reads.said in
    let t = are_trees 0 1 nodes reads.owed (omega arith) reads.short in
    let same = t.same in
    record {
      version = ordered;
      written = text_is ordered count nodes (trees_from 0 nodes).nodes bytes reads.written (omega arith) t.text;
      suits = in_preorder nodes reads.owed (omega arith) reads.short;
      short = t.short;
      count = omega arith;
    }

-- ---- a text with numbers

pub count_is : (bytes : List ℕ) (count : ℕ) (nodes : List Node) → ReadsTo bytes numbered count nodes 0 [] → count ≡ length nodes
count_is bytes count nodes reads = go (links_len nodes) reads.owed
  where
    go : length (links nodes) ≡ length nodes → due_behind numbered count (links nodes) ≡ Some 0 → count ≡ length nodes
    go len h = elim (cases_Bool (nat_le (length (links nodes)) count)) [
      | inr few ↦ absurd (let z : None ≡ Some 0 = rw few at h in cc)
      | inl enough ↦
          let z : Some (count - length (links nodes)) ≡ Some 0 = rw enough at h in
          let left : count - length (links nodes) ≡ 0 = cc in
          let within = leb-true (length (links nodes)) count enough in
          omega arith
    ]

pub named_below : (bytes : List ℕ) (count : ℕ) (nodes : List Node) → ReadsTo bytes numbered count nodes 0 [] → All (λ node. AreBelow (length nodes) (answers node)) nodes
named_below bytes count nodes reads = subst (λ n. All (λ node. AreBelow n (answers node)) nodes) (count_is bytes count nodes reads) (all_below count 0 nodes reads.later)

in_range : (p : ℕ → Bool) (from n : ℕ) → ((m : ℕ) → from ≤ m → m < from + n → p m ≡ true) → list_all p (range_with_len from n) ≡ true
in_range p from zero h = refl
in_range p from (suc n) h = and_from (p from) _ (h from (omega arith) (omega arith)) (in_range p (from + 1) n (λ m low high. h m (omega arith) (omega arith)))

pub nodes_said : (bytes : List ℕ) (count : ℕ) (nodes : List Node) → ReadsTo bytes numbered count nodes 0 [] → AllNamed nodes (length nodes) → CertText bytes nodes
unfolding linked
nodes_said bytes count nodes reads named =
    let number = count_is bytes count nodes reads in
    let len = links_len nodes in
    let some : 1 ≤ count = reads.said.0 in
    let fits : count < 2 ^ 64 = reads.said.1 in
    let number_len : count ≡ length (links nodes) = omega arith in
    record {
      version = numbered;
      written = text_is numbered count nodes nodes bytes reads.written number refl;
      suits = and_from _ _ ((Decides-ltb 0 (length (links nodes))).1 (omega arith))
          (and_from _ _ (ap (λ (n : ℕ). list_all (is_later n) (namings (links nodes))) (sym number_len) ∙ reads.later)
          (in_range (is_named (links nodes)) 1 (length (links nodes) - 1) (λ m low high. named m low (omega arith))));
      short = reads.short;
      count = omega arith;
    }

pub not_reached : (bytes : List ℕ) (count n : ℕ) (nodes : List Node) → ReadsTo bytes numbered count nodes 0 [] → IsFirstUnnamed nodes n → CertFails bytes (faults.NotReached n)
not_reached bytes count n nodes reads first =
    let number = count_is bytes count nodes reads in
    let within = first.within in
    (count, nodes, reads, first.later, omega arith, first.unnamed, first.before)

-- ---- as the code has it

pub some_left : (rest : List ℕ) → false ≡ nat_eq (length rest) 0 → rest ≢ []
some_left rest h none = absurd (let z : false ≡ true = rw none at h in cc)

pub none_left : (rest : List ℕ) → true ≡ nat_eq (length rest) 0 → rest ≡ []
none_left [] h = refl
none_left (b ∷ rest) h = absurd (let z = eqb-true (length (b ∷ rest)) 0 (sym h) in omega arith)

module _ (bytes rest end : List ℕ) (v : Version) (count : ℕ) (nodes : List Node) (found : header_at bytes ≡ Some ((v, count), rest)) (reads : ReadsTo (header_text v count ++ rest) v count nodes 0 end) where
  told : ReadsTo bytes v count nodes 0 end
  told = reads_told bytes rest v count found nodes 0 end reads

  pub unused_told : (n : ℕ) → n ≡ length nodes → false ≡ nat_eq (length end) 0 → CertFails bytes (faults.Unused n)
  unused_told n number some = rw number (goes_on bytes v count nodes end told (some_left end some))

  -- the text ends, and is of this version
  ends_told : (w : Version) → v ≡ w → true ≡ nat_eq (length end) 0 → ReadsTo bytes w count nodes 0 []
  ends_told w is none = subst (λ l. ReadsTo bytes w count nodes 0 l) (none_left end none) (subst (λ x. ReadsTo bytes x count nodes 0 end) is told)

  pub below_told : v ≡ numbered → true ≡ nat_eq (length end) 0 → All (λ node. AreBelow (length nodes) (answers node)) nodes
  below_told is none = named_below bytes count nodes (ends_told numbered is none)

  module _ (r : Result (List Node) CertReadFault) (none : true ≡ nat_eq (length end) 0) where
    pub tree_told : v ≡ ordered → (seen : List Node) → seen ≡ nodes → IfOk r (λ tree. (count ≡ length seen) × (tree ≡ (trees_from 0 seen).nodes)) → IfOk r (λ cert. CertText bytes cert)
    tree_told is seen same h = go r h
      where
        go : (r : Result (List Node) CertReadFault) → IfOk r (λ tree. (count ≡ length seen) × (tree ≡ (trees_from 0 seen).nodes)) → IfOk r (λ cert. CertText bytes cert)
        go (Ok tree) h = rw (h.1, same) (tree_said bytes count nodes (ends_told ordered is none) (h.0 ∙ ap length same))
        go (Err f) h = tt

    pub count_told : v ≡ ordered → (seen : List Node) → seen ≡ nodes → IfErr r (λ f. (f ≡ faults.NoMemory) ⊎ ((f ≡ faults.CountDiffers count (length seen)) × (count ≢ length seen))) → IfErr r (λ f. (f ≡ faults.NoMemory) ⊎ CertFails bytes f)
    count_told is seen same h = go r h
      where
        go : (r : Result (List Node) CertReadFault) → IfErr r (λ f. (f ≡ faults.NoMemory) ⊎ ((f ≡ faults.CountDiffers count (length seen)) × (count ≢ length seen))) → IfErr r (λ f. (f ≡ faults.NoMemory) ⊎ CertFails bytes f)
        go (Ok tree) h = tt
        go (Err f) h = elim h [
          | inl memory ↦ inl memory
          | inr differs ↦ inr (subst (λ g. CertFails bytes g) (sym differs.0) (nodes, ends_told ordered is none, ap length same, differs.1))
        ]

    pub nodes_told : v ≡ numbered → IfOk r (λ cert. (cert ≡ nodes) × AllNamed nodes (length nodes)) → IfOk r (λ cert. CertText bytes cert)
    nodes_told is h = go r h
      where
        go : (r : Result (List Node) CertReadFault) → IfOk r (λ cert. (cert ≡ nodes) × AllNamed nodes (length nodes)) → IfOk r (λ cert. CertText bytes cert)
        go (Ok cert) h = rw h.0 (nodes_said bytes count nodes (ends_told numbered is none) h.1)
        go (Err f) h = tt

    pub unreached_told : v ≡ numbered → IfErr r (λ f. (f ≡ faults.NoMemory) ⊎ ((n : ℕ) × (f ≡ faults.NotReached n) × IsFirstUnnamed nodes n)) → IfErr r (λ f. (f ≡ faults.NoMemory) ⊎ CertFails bytes f)
    unreached_told is h = go r h
      where
        go : (r : Result (List Node) CertReadFault) → IfErr r (λ f. (f ≡ faults.NoMemory) ⊎ ((n : ℕ) × (f ≡ faults.NotReached n) × IsFirstUnnamed nodes n)) → IfErr r (λ f. (f ≡ faults.NoMemory) ⊎ CertFails bytes f)
        go (Ok tree) h = tt
        go (Err f) h = elim h [
          | inl memory ↦ inl memory
          | inr first ↦ inr (subst (λ g. CertFails bytes g) (sym first.1) (not_reached bytes count first.0 nodes (ends_told numbered is none) first.2))
        ]
