-- The least nodes of a valid certificate, renamed one after the other, become its shared form.
use Rattle.std.proofs.Common.{◌≡◌, ◌≢◌, ℕ, zero, suc, ◌<◌, ◌≤◌, true, All, AllPairs, List, [], ◌∷◌, ◌++◌, length, map, slice_get, Some, None, inl, inr, ⊎_elim, nat_eq, option_map, refl, sym, ap, ◌∙◌, subst, arith}
use Rattle.std.specs.List.{slice_index_or, IsDistinct}
use Rattle.std.proofs.lemmas.Bool.{cases_lt, false≢true, eq-eqb}
use Rattle.std.proofs.lemmas.List.{length-map, map-append}
use Rattle.std.proofs.lemmas.List.Elements.{All-head, All-tail, All-contains_itself}
use Rattle.std.proofs.lemmas.Map.Keys.{apart_from_distinct}
use Rattle.std.proofs.lemmas.Map.Steps.{length-le_from_distinct_below}
use Rattle.std.proofs.lemmas.Option.{slice_get-map, slice_get-get_or, slice_get_read, get_or_from_slice_get}
use Rattle.bddl_model.specs.declared.certificate.Answered.{Answered}
use Rattle.bddl_model.specs.declared.certificate.Node.{Node}
use Rattle.bddl_model.specs.Setup.{Setup}
use Rattle.bddl_model.specs.CertificateGraph.{answers, links, Naming, namings}
use Rattle.bddl_model.specs.Certificate.{Place, behind, place, node_fault, valid, IsLike, IsLeastAt, IsSharedForm}
use Rattle.bddl_laws.specs.PlacedNodes.{ArePlaced}
use Rattle.bddl_laws.specs.BreadthFirst.{IsNumbered, AreNumbered, AreMade}
use Rattle.bddl_laws.proofs.Named.{AreLinked, linked_namings}
use Rattle.bddl_laws.proofs.PlacedNodes.{of_answers, links_length, valid_linked, valid_places}
use Rattle.bddl_laws.proofs.BreadthFirst.{snoc_cases, start_made, made_on, made_place, made_shared}
use Rattle.cert_checker.specs.LeastNodes.{IsLeastWith, AreLeast}
use Rattle.cert_checker.specs.Sharing.{IsRenamed, AreRenamed, IsLikeAt, AreShared}
use Rattle.cert_checker.proofs.LikeNodes.{fine_alike, fine_left}
use Rattle.cert_checker.proofs.Renaming.{there_any, number_stays}

-- the number of the next node, as the code reads it
pub number_read : (s : Setup) (nodes : List Node) (order : List ℕ) (read shared : List Node) (k : ℕ) → AreShared s nodes order shared → read ≡ shared → Some k ≡ slice_get order (length read)
    → (slice_get order (length shared) ≡ Some k) × (k < length nodes)
number_read s nodes order read shared k are same is =
    let here = subst (λ xs. slice_get order (length xs) ≡ Some k) same (sym is) in
    (here, (are.least (length shared) k here).inside)

pub node_read : (nodes : List Node) (k : ℕ) (node : Node) → k < length nodes → node ≡ slice_index_or nodes k node → slice_get nodes k ≡ Some node
node_read nodes k node lt is = slice_get_read nodes (length nodes) k node refl lt is

module _ (s : Setup) (nodes : List Node) (v : valid s nodes ≡ true) where
  abbrev pl : ℕ → Place
  pl k = place s (links nodes) k

  abbrev ws : List Naming
  ws = namings (links nodes)

  placed : ArePlaced s nodes pl
  placed = valid_places s nodes v

  linked_are : AreLinked (links nodes)
  linked_are = linked_namings (links nodes) (valid_linked s nodes v)

  -- ---- the answers of a node

  -- an answer at node k names the node where its move leads
  record IsFit (k : ℕ) (a : Answered) : Type 0 where
    leads : behind s.game (pl k) a.mv ≡ pl a.next.0
    inside : a.next.0 < length nodes

  all_fit : (k : ℕ) (node : Node) → slice_get nodes k ≡ Some node → All (IsFit k) (answers node)
  all_fit k node found i d lt =
      let a = slice_index_or (answers node) i d in
      let own = All-contains_itself (answers node) i d lt in
      let end = of_answers (λ w. w.to < length (links nodes)) nodes k node a (λ j e low. (linked_are.later (slice_index_or ws j e) (All-contains_itself ws j e low)).1) found own in
      let count = links_length nodes in
      record {
        leads = of_answers (λ w. behind s.game (pl w.from) w.mv ≡ pl w.to) nodes k node a placed.leads found own;
        inside = omega (arith, end, count);
      }

  pub answers_inside : (least : List ℕ) → AreLeast s nodes least → (k : ℕ) (node : Node) → slice_get nodes k ≡ Some node → All (λ a. a.next.0 < length least) (answers node)
  answers_inside least are k node found i d lt = let low = (all_fit k node found i d lt).inside in let count = are.len in omega (arith, low, count)

  -- ---- the shared form as it is made

  module _ (least : List ℕ) (are : AreLeast s nodes least) where
    abbrev IsOrder : List ℕ → Type 0
    IsOrder order = (m k : ℕ) → slice_get order m ≡ Some k → IsLeastWith s nodes k k

    stands : (j : ℕ) → j < length nodes → IsLeastWith s nodes (slice_index_or least j 0) (slice_index_or least j 0)
    stands j lt = let one = are.each j lt in record { inside = one.inside; there = refl; least = λ i low e. one.least i low (e ∙ one.there) }

    -- an answer that is renamed is numbered by places

    one_numbered : (k : ℕ) (a b : Answered) (before after : List ℕ) → IsFit k a → IsRenamed least a b before after → IsNumbered s.game (pl k) b (map pl before) (map pl after)
    one_numbered k a b before after fit is =
        let here : pl (slice_index_or least a.next.0 0) ≡ behind s.game (pl k) b.mv = (are.each a.next.0 fit.inside).there ∙ sym fit.leads ∙ ap (behind s.game (pl k)) (sym is.mv) in
        let count = length-map before pl in
        record {
          there = slice_get-map pl after b.next.0 ∙ ap (option_map pl) is.there ∙ ap (λ q. Some q) here;
          met = λ low. ap (map pl) (is.met (omega (arith, low, count)));
          next = λ high. ap (map pl) (is.next (omega (arith, high, count))) ∙ map-append pl before (slice_index_or least a.next.0 0 ∷ []) ∙ ap (λ q. map pl before ++ q ∷ []) here;
        }

    all_numbered : (k : ℕ) (all bs : List Answered) (before after : List ℕ) → All (IsFit k) all → AreRenamed least all bs before after → AreNumbered s.game (pl k) bs (map pl before) (map pl after)
    all_numbered k [] [] before after fit ren = ap (map pl) ren
    all_numbered k [] (b ∷ bs) before after fit ren = absurd ren
    all_numbered k (a ∷ all) [] before after fit ren = absurd ren
    all_numbered k (a ∷ all) (b ∷ bs) before after fit (mid, is, ren) = (
      map pl mid,
      one_numbered k a b before mid (All-head (IsFit k) a all fit) is,
      all_numbered k all bs mid after (All-tail (IsFit k) a all fit) ren,
    )

    -- each number of the order is that of a least node

    one_ordered : (k : ℕ) (a b : Answered) (before after : List ℕ) → IsFit k a → IsRenamed least a b before after → IsOrder before → IsOrder after
    one_ordered k a b before after fit is order m j found = elim (cases_lt b.next.0 (length before)) [
      | inl low ↦ (let same = is.met low in order m j (rw same at found))
      | inr high ↦ (let grown = is.next high in ⊎_elim (λ old. order m j old) (λ last. subst (λ i. IsLeastWith s nodes i i) (sym last.1) (stands a.next.0 fit.inside)) (snoc_cases before (slice_index_or least a.next.0 0) j m (rw grown at found)))
    ]

    all_ordered : (k : ℕ) (all bs : List Answered) (before after : List ℕ) → All (IsFit k) all → AreRenamed least all bs before after → IsOrder before → IsOrder after
    all_ordered k [] [] before after fit ren order = subst IsOrder (sym ren) order
    all_ordered k [] (b ∷ bs) before after fit ren order = absurd ren
    all_ordered k (a ∷ all) [] before after fit ren order = absurd ren
    all_ordered k (a ∷ all) (b ∷ bs) before after fit (mid, is, ren) order =
        all_ordered k all bs mid after (All-tail (IsFit k) a all fit) ren (one_ordered k a b before mid (All-head (IsFit k) a all fit) is order)

    -- one node more

    pub shared_on : (before after : List ℕ) (shared grown : List Node) (k : ℕ) (old new : Node) → AreShared s nodes before shared → slice_get before (length shared) ≡ Some k → slice_get nodes k ≡ Some old
        → IsLike new old → AreRenamed least (answers old) (answers new) before after → grown ≡ shared ++ new ∷ [] → AreShared s nodes after grown
    shared_on before after shared grown k old new so_far here found like ren whole = subst (AreShared s nodes after) (sym whole) (record {
      made = made_on s (map pl before) (map pl after) shared (pl k) new so_far.made
          (slice_get-map pl before (length shared) ∙ ap (option_map pl) here)
          fine
          (fine_left s.game (pl k) 0 new (fine 0))
          (all_numbered k (answers old) (answers new) before after (all_fit k old found) ren);
      least = all_ordered k (answers old) (answers new) before after (all_fit k old found) ren so_far.least;
      alike = λ m node at. ⊎_elim (λ i. kept m node i) (λ i. last m node i) (snoc_cases shared new node m at);
    })
      where
        fine : (n : ℕ) → node_fault s.game n (pl k) new ≡ None
        fine n = fine_alike s.game (pl k) n k new old like (placed.fine k old found)

        kept : (m : ℕ) (node : Node) → slice_get shared m ≡ Some node → IsLikeAt nodes after m node
        kept m node at =
            let one = so_far.alike m node at in
            record {
              number = one.number;
              old = one.old;
              here = number_stays least (answers old) (answers new) before after m one.number ren one.here;
              found = one.found;
              like = one.like;
            }

        last : (m : ℕ) (node : Node) → (m ≡ length shared) × (node ≡ new) → IsLikeAt nodes after m node
        last m node (e, same) = record {
          number = k;
          old = old;
          here = subst (λ i. slice_get after i ≡ Some k) (sym e) (number_stays least (answers old) (answers new) before after (length shared) k ren here);
          found = found;
          like = subst (λ n. IsLike n old) (sym same) like;
        }

  -- ---- the start

  pub shared_start : (order : List ℕ) (shared : List Node) → order ≡ 0 ∷ [] → shared ≡ [] → AreShared s nodes order shared
  shared_start order shared e none = subst (λ o. AreShared s nodes o shared) (sym e) (subst (AreShared s nodes (0 ∷ [])) (sym none) (record {
    made = subst (λ p. AreMade s (p ∷ []) []) (sym placed.root) (start_made s);
    least = first;
    alike = λ m node at. absurd cc;
  }))
    where
      first : (m k : ℕ) → slice_get (0 ∷ []) m ≡ Some k → IsLeastWith s nodes k k
      first zero k found =
          let zero_is : 0 ≡ k = cc in
          let some = linked_are.some in
          let count = links_length nodes in
          subst (λ i. IsLeastWith s nodes i i) zero_is (record { inside = omega (arith, some, count); there = refl; least = λ j lt. absurd (omega (arith, lt)) })
      first (suc m) k found = absurd cc

  -- ---- the end

  module _ (order : List ℕ) (shared : List Node) (are : AreShared s nodes order shared) (distinct : IsDistinct nat_eq order) where
    pub order_short : length order ≤ length nodes
    order_short = length-le_from_distinct_below order (length nodes) distinct (λ q h. let there = there_any q order h in (are.least there.0 q there.1).inside)

    abbrev at : ℕ → ℕ
    at m = slice_index_or order m 0

    at_is : (m : ℕ) → m < length order → slice_get order m ≡ Some (at m)
    at_is m lt = slice_get-get_or order m 0 lt

    place_is : (m : ℕ) (d : Place) → m < length order → slice_index_or (map pl order) m d ≡ pl (at m)
    place_is m d lt = get_or_from_slice_get (map pl order) m (pl (at m)) d (slice_get-map pl order m ∙ ap (option_map pl) (at_is m lt))

    numbers_differ : (i j : ℕ) → i < j → j < length order → at i ≢ at j
    numbers_differ i j lt low same = false≢true (sym (apart_from_distinct nat_eq order i j 0 distinct lt low) ∙ eq-eqb (at i) (at j) same)

    places_differ : (i j : ℕ) → i < j → j < length order → pl (at i) ≢ pl (at j)
    places_differ i j lt low same = elim (cases_lt (at i) (at j)) [
      | inl less ↦ (are.least j (at j) (at_is j low)).least (at i) less same
      | inr le ↦ elim (cases_lt (at j) (at i)) [
        | inl less ↦ (are.least i (at i) (at_is i (omega (arith, lt, low)))).least (at j) less (sym same)
        | inr ge ↦ numbers_differ i j lt low (omega (arith, le, ge))
      ]
    ]

    apart : AllPairs (λ p q. p ≢ q) (map pl order)
    apart i j d lt low same =
        let count = length-map order pl in
        let inside : j < length order = omega (arith, low, count) in
        places_differ i j lt inside (sym (place_is i d (omega (arith, lt, inside))) ∙ same ∙ place_is j d inside)

    pub shared_form : length order ≤ length shared → IsSharedForm s nodes shared
    shared_form le = record {
      form = made_shared s (map pl order) shared are.made all apart;
      alike = λ m node found. like m node (are.alike m node found);
    }
      where
        all : length shared ≡ length (map pl order)
        all = let count = length-map order pl in let most = are.made.count in omega (arith, le, count, most)

        like : (m : ℕ) (node : Node) → IsLikeAt nodes order m node → (k : ℕ) × (old : Node) × IsLeastAt s nodes (place s (links shared) m) k old × IsLike node old
        like m node one =
            let here : place s (links shared) m ≡ pl one.number = made_place s (map pl order) shared are.made all m (pl one.number) (slice_get-map pl order m ∙ ap (option_map pl) one.here) in
            (one.number, one.old, record { found = one.found; there = sym here; least = λ j lt e. (are.least m one.number one.here).least j lt (e ∙ here) }, one.like)
