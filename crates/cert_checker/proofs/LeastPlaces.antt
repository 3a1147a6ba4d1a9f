-- Each node is found to stand at its place, and so the least node of each place is found.
use Rattle.std.proofs.Common.{◌≡◌, ◌≢◌, ℕ, zero, suc, ◌+◌, ◌*◌, ◌<◌, ◌≤◌, true, false, List, [], ◌∷◌, length, slice_get, Option, Some, None, inl, inr, ⊎_elim, refl, sym, ap, ◌∙◌, subst, arith, eqb-true}
use Rattle.std.specs.Prelude.{All, AllPairs, Contains, ◌==◌, map, replicate}
use Rattle.std.specs.List.{slice_index_or}
use Rattle.std.proofs.lemmas.Bool.{cases_Bool, cases_lt}
use Rattle.std.proofs.lemmas.Bool.Decides.{nat_tests}
use Rattle.std.proofs.lemmas.List.Elements.{All-nil, All-cons, All-head, All-tail, All-weaker, All-contains, All-contains_itself, Contains-append_cases}
use Rattle.std.proofs.lemmas.List.{get_or_default, get_or-map, length-map}
use Rattle.std.proofs.lemmas.Option.{slice_get_within, slice_get-get_or, get_or_from_slice_get}
use Rattle.bddl_model.specs.declared.certificate.Answered.{Answered}
use Rattle.bddl_model.specs.declared.certificate.Node.{Node}
use Rattle.bddl_model.specs.Board.{SizedBoard}
use Rattle.bddl_model.specs.Game.{Game}
use Rattle.bddl_model.specs.Limits.{IsBoardOf}
use Rattle.bddl_model.specs.Setup.{Setup}
use Rattle.bddl_model.specs.CertificateGraph.{answers, Links, links, Naming, naming_of, named_by, namings_from, namings, first_naming}
use Rattle.bddl_model.specs.Certificate.{Place, start, behind, place_back, place, valid}
use Rattle.bddl_model.proofs.Moves.{moves_keep_the_size}
use Rattle.bddl_laws.proofs.Named.{AreLinked, tail_in, linked_namings, first_in}
use Rattle.bddl_laws.proofs.PlacedNodes.{node_at, links_at, links_length, of_answers, valid_linked, valid_places}
use Rattle.cert_checker.specs.declared.least.Placing.{Placing}
use Rattle.cert_checker.specs.Checking.{IsAnswer, IsLater}
use Rattle.cert_checker.specs.LeastNodes.{IsLeastWith, AreLeast}
use Rattle.cert_checker.specs.Placing.{of_node, least_at, Stands, AllStand, ArePlaces, IsFound, AreFound}
use Rattle.cert_checker.proofs.Fine.{are_answers}
use Rattle.cert_checker.proofs.Placings.{still_matches, place_kept}

-- ---- boards of places

place_back_size : (s : Setup) (ws : List Naming) (k m : ℕ) → length s.board ≡ s.game.height * s.game.width → length (place_back k s ws m).board ≡ s.game.height * s.game.width
place_back_size s ws zero m size = size
place_back_size s ws (suc k) m size = at_any (first_naming m ws) (λ from. place_back_size s ws k from size)
  where
    at_any : (o : Option Naming) → ((from : ℕ) → length (place_back k s ws from).board ≡ s.game.height * s.game.width)
        → length (elim o as (λ _. Place) [ None ↦ start s | Some w ↦ behind s.game (place_back k s ws w.from) w.mv ]).board ≡ s.game.height * s.game.width
    at_any None h = size
    at_any (Some w) h = moves_keep_the_size s.game (place_back k s ws w.from).board (place_back k s ws w.from).side w.mv ∙ h w.from

pub place_size : (s : Setup) (ls : Links) (m : ℕ) → length s.board ≡ s.game.height * s.game.width → length (place s ls m).board ≡ s.game.height * s.game.width
unfolding place
place_size s ls m size = place_back_size s (namings ls) m m size

-- ---- one naming more

module _ (s : Setup) (nodes : List Node) where
  abbrev at : ℕ → Place
  at m = place s (links nodes) m

  module _ (old : Placing) (m : ℕ) (p : Place) (new : Placing) (places : ArePlaces s nodes old) (stands : Stands old m p new) (there : p ≡ at m) (inside : m < length nodes) where
    places_on : ArePlaces s nodes new
    places_on = record {
      count = stands.count ∙ places.count;
      same = still_matches old m p new places.same stands;
      each = λ n within. let same = still_matches old m p new places.same stands in ⊎_elim
          (λ before.
          let count = places.same in
          let was = places.each n (omega (arith, before.0, count)) in
          let e : least_at old n ≡ least_at new n = sym before.1 in (
            subst (λ k. k < length nodes) e was.0,
            place_kept old m p new places.same stands n (at (least_at new n)) (was.1 ∙ ap (λ k. Some (at k)) e),
          ))
          (λ now.
          let e : m ≡ least_at new n = sym now.1 in (
            subst (λ k. k < length nodes) e inside,
            ap (slice_get new.places) now.0 ∙ stands.there ∙ ap (λ q. Some q) there ∙ ap (λ k. Some (at k)) e,
          ))
          (stands.lowers.each n (omega (arith, within, same)));
    }

    found_now : IsFound s nodes new m
    found_now = record { there = stands.there ∙ ap (λ q. Some q) there; low = stands.lowers.low }

    found_still : (k : ℕ) → IsFound s nodes old k → IsFound s nodes new k
    found_still k found = ⊎_elim
        (λ same. subst (IsFound s nodes new) (sym (eqb-true k m same)) found_now)
        (λ other.
        let number : of_node new k ≡ of_node old k = stands.others k (λ same. apart k m other same) in
        let within = slice_get_within old.places (of_node old k) (at k) found.there in
        let count = places.same in
        let lower = stands.lowers.lower (of_node old k) (omega (arith, within, count)) in
        let low = found.low in
        record {
          there = ap (slice_get new.places) number ∙ place_kept old m p new places.same stands (of_node old k) (at k) found.there;
          low = subst (λ n. least_at new n ≤ k) (sym number) (omega (arith, lower, low));
        })
        (cases_Bool (k == m))
      where
        apart : (k m : ℕ) → (k == m) ≡ false → k ≡ m → ⊥
        apart k m other same = grind (arith, nat_tests, other, same)

  -- an answer that leads to the place of its next node
  abbrev pub LeadsOn : Place → Answered → Type 0
  LeadsOn p a = (a.next.0 < length nodes) × (behind s.game p a.mv ≡ at a.next.0)

  record FoundOn (old new : Placing) (all : List Answered) : Type 0 where
    places : ArePlaces s nodes new
    still : (k : ℕ) → IsFound s nodes old k → IsFound s nodes new k
    next : All (λ a. IsFound s nodes new a.next.0) all

  all_found : (p : Place) (all : List Answered) (old new : Placing) → ArePlaces s nodes old → All (LeadsOn p) all → AllStand s.game p all old new → FoundOn old new all
  all_found p [] old new places lead are = record {
    places = subst (ArePlaces s nodes) (sym are) places;
    still = λ k found. subst (λ t. IsFound s nodes t k) (sym are) found;
    next = All-nil (λ a. IsFound s nodes new a.next.0);
  }
  all_found p (a ∷ rest) old new places lead (mid, stands, are) =
      let here = All-head (LeadsOn p) a rest lead in
      let first = places_on old a.next.0 (behind s.game p a.mv) mid places stands here.1 here.0 in
      let now = found_now old a.next.0 (behind s.game p a.mv) mid places stands here.1 here.0 in
      let on = all_found p rest mid new first (All-tail (LeadsOn p) a rest lead) are in
      record {
        places = on.places;
        still = λ k found. on.still k (found_still old a.next.0 (behind s.game p a.mv) mid places stands here.1 here.0 k found);
        next = All-cons (λ b. IsFound s nodes new b.next.0) a rest (on.still a.next.0 now) on.next;
      }

-- ---- which nodes are next nodes

-- a naming is of an answer of an earlier node
record NamesBy (ls : Links) (n : ℕ) (w : Naming) : Type 0 where
  k : ℕ
  all : List Answered
  a : Answered
  found : slice_get ls k ≡ Some all
  among : Contains all a
  is : naming_of (n + k) a ≡ w

answer_of : (n : ℕ) (all : List Answered) (w : Naming) → Contains (named_by n all) w → (a : Answered) × Contains all a × (naming_of n a ≡ w)
answer_of n [] w (k, low, here) = absurd (omega (arith, low))
answer_of n (a ∷ rest) w (zero, low, here) = (a, (0, omega arith, refl), here)
answer_of n (a ∷ rest) w (suc k, low, here) =
    let more = answer_of n rest w (k, omega (arith, low), here) in
    (more.0, tail_in a more.0 rest more.1, more.2)

named_from : (n : ℕ) (ls : Links) (w : Naming) → Contains (namings_from n ls) w → NamesBy ls n w
named_from n [] w (k, low, here) = absurd (omega (arith, low))
named_from n (own ∷ ls) w c = ⊎_elim
    (λ mine. let a = answer_of n own w mine in record {
      k = 0;
      all = own;
      a = a.0;
      found = refl;
      among = a.1;
      is = (let z : n + 0 ≡ n = omega arith in rw z a.2);
    })
    (λ others. let by = named_from (suc n) ls w others in record {
      k = suc by.k;
      all = by.all;
      a = by.a;
      found = by.found;
      among = by.among;
      is = (let z : n + suc by.k ≡ suc n + by.k = omega arith in rw z by.is);
    })
    (Contains-append_cases (named_by n own) (namings_from (suc n) ls) w c)

-- ---- all nodes of a valid certificate

module _ (s : Setup) (nodes : List Node) (v : valid s nodes ≡ true) where
  abbrev ls : Links
  ls = links nodes

  linked_so : AreLinked ls
  linked_so = linked_namings ls (valid_linked s nodes v)

  pub some_nodes : 0 < length nodes
  some_nodes = let some = linked_so.some in let count = links_length nodes in omega (arith, some, count)

  later_answers : (k : ℕ) (node : Node) → slice_get nodes k ≡ Some node → All (IsLater (length nodes) k) (answers node)
  later_answers k node found i d lt =
      let later = of_answers (λ w. (w.from < w.to) × (w.to < length ls)) nodes k node (slice_index_or (answers node) i d)
      (λ j e within. linked_so.later (slice_index_or (namings ls) j e) (All-contains_itself (namings ls) j e within)) found (All-contains_itself (answers node) i d lt) in
      let count = links_length nodes in
      (later.0, omega (arith, later.1, count))

  pub answers_there : (k : ℕ) (node : Node) → slice_get nodes k ≡ Some node → All (IsAnswer s (length nodes) k (place s ls k)) (answers node)
  answers_there k node found = are_answers s s.game (length nodes) k (place s ls k) node refl ((valid_places s nodes v).fine k node found) (later_answers k node found)

  lead_on : (k : ℕ) (node : Node) → slice_get nodes k ≡ Some node → All (LeadsOn s nodes (place s ls k)) (answers node)
  lead_on k node found i d lt = (
    (later_answers k node found i d lt).1,
    of_answers (λ w. behind s.game (place s ls w.from) w.mv ≡ place s ls w.to) nodes k node (slice_index_or (answers node) i d) (valid_places s nodes v).leads found (All-contains_itself (answers node) i d lt),
  )

  -- a node that is due was found
  pub due_found : (t : Placing) (i : ℕ) → AreFound s nodes t i → i < length nodes → IsFound s nodes t i
  due_found t zero found within = found.start
  due_found t (suc i) found within =
      let count = links_length nodes in
      let w = linked_so.named (suc i) (omega arith) (omega (arith, within, count)) in
      let named = first_in (suc i) (namings ls) w.0 w.1 in
      let later = linked_so.later w.0 named.1 in
      let by = named_from 0 ls w.0 named.1 in
      let here = slice_get_within ls by.k by.all by.found in
      let node = node_at nodes by.k (omega (arith, here, count)) in
      let same : answers node.0 ≡ by.all = same_all by.k node.0 by.all node.1 by.found in
      let from : by.k ≡ w.0.from = (let e = ap (λ (x : Naming). x.from) by.is in omega (arith, e)) in
      let next = found.next by.k node.0 (omega (arith, from, later.0, named.0)) node.1 in
      let it = All-contains (λ a. IsFound s nodes t a.next.0) (answers node.0) by.a next (subst (λ all. Contains all by.a) (sym same) by.among) in
      rw (sym (ap (λ (x : Naming). x.to) by.is ∙ named.0)) it
    where
      same_all : (k : ℕ) (node : Node) (all : List Answered) → slice_get nodes k ≡ Some node → slice_get ls k ≡ Some all → answers node ≡ all
      same_all k node all found there = let e = links_at nodes k node found in cc

  -- its place is that of its number
  pub found_there : (t : Placing) (i : ℕ) → AreFound s nodes t i → i < length nodes → (p : Place) → slice_get t.places (of_node t i) ≡ Some p → place s ls i ≡ p
  found_there t i found within p there = same (of_node t i) p (due_found t i found within).there there
    where
      same : (k : ℕ) (p : Place) → slice_get t.places k ≡ Some (place s ls i) → slice_get t.places k ≡ Some p → place s ls i ≡ p
      same k p first second = cc

  -- and so its next nodes are
  pub found_on : (old new : Placing) (i : ℕ) (node : Node) → AreFound s nodes old i → slice_get nodes i ≡ Some node → AllStand s.game (place s ls i) (answers node) old new → AreFound s nodes new (suc i)
  found_on old new i node found here are =
      let on = all_found s nodes (place s ls i) (answers node) old new found.places (lead_on i node here) are in
      record {
        places = on.places;
        start = on.still 0 found.start;
        next = λ k other less there. ⊎_elim
            (λ before. All-weaker (λ a. IsFound s nodes old a.next.0) (λ a. IsFound s nodes new a.next.0) (λ a was. on.still a.next.0 was) (answers other) (found.next k other before there))
            (λ now. let same : node ≡ other = same_node k i node other (omega (arith, less, now)) here there in subst (λ n. All (λ a. IsFound s nodes new a.next.0) (answers n)) same on.next)
            (cases_lt k i);
      }
    where
      same_node : (k i : ℕ) (node other : Node) → k ≡ i → slice_get nodes i ≡ Some node → slice_get nodes k ≡ Some other → node ≡ other
      same_node k i node other e here there = let moved : slice_get nodes i ≡ Some other = subst (λ n. slice_get nodes n ≡ Some other) e there in cc

  -- ---- the least node of each place

  all_were_found : (t : Placing) → AreFound s nodes t (length nodes) → (m : ℕ) → m < length nodes → IsFound s nodes t m
  all_were_found t found m within = due_found t m (record {
    places = found.places;
    start = found.start;
    next = λ k node less there. found.next k node (omega (arith, less, within)) there;
  }) within

  pub least_is : (t : Placing) → AreFound s nodes t (length nodes) → AllPairs (λ p q. p ≢ q) t.places → (m : ℕ) → m < length nodes → IsLeastWith s nodes m (least_at t (of_node t m))
  least_is t found apart m within =
      let it = all_were_found t found m within in
      let inside = slice_get_within t.places (of_node t m) (place s ls m) it.there in
      let here = found.places.each (of_node t m) inside in
      let same : place s ls (least_at t (of_node t m)) ≡ place s ls m = both_there t.places (of_node t m) (place s ls (least_at t (of_node t m))) (place s ls m) here.1 it.there in
      record {
        inside = here.0;
        there = same;
        least = λ j less is.
            let low = here.0 in
            let other = all_were_found t found j (omega (arith, less, low)) in
            let number : of_node t j ≡ of_node t m = one_number t.places apart (of_node t j) (of_node t m) (place s ls m) (other.there ∙ ap (λ p. Some p) is) it.there in
            let lower : least_at t (of_node t m) ≤ j = subst (λ n. least_at t n ≤ j) number other.low in
            omega (arith, lower, less);
      }
    where
      both_there : (places : List Place) (k : ℕ) (p q : Place) → slice_get places k ≡ Some p → slice_get places k ≡ Some q → p ≡ q
      both_there places k p q first second = cc

      one_number : (places : List Place) → AllPairs (λ p q. p ≢ q) places → (j k : ℕ) (p : Place) → slice_get places j ≡ Some p → slice_get places k ≡ Some p → j ≡ k
      one_number places apart j k p first second =
          let low = slice_get_within places j p first in
          let high = slice_get_within places k p second in
          let e = get_or_from_slice_get places j p p first in
          let f = get_or_from_slice_get places k p p second in
          elim (cases_lt j k) [
            | inl less ↦ absurd (apart j k p less high (e ∙ sym f))
            | inr no_less ↦ elim (cases_lt k j) [
              | inl more ↦ absurd (apart k j p more low (f ∙ sym e))
              | inr no_more ↦ (let both : j ≡ k = omega (arith, no_less, no_more) in both)
            ]
          ]

  pub numbers_within : (t : Placing) → AreFound s nodes t (length nodes) → All (λ n. n < length t.least.items) t.of.items
  numbers_within t found k d lt =
      let count = found.places.count in
      let same = found.places.same in
      let inside = slice_get_within t.places (of_node t k) (place s ls k) (all_were_found t found k (omega (arith, lt, count))).there in
      let number = get_or_default t.of.items k d 0 lt in
      omega (arith, number, inside, same)

  pub are_least : (t : Placing) (least : List ℕ) → AreFound s nodes t (length nodes) → AllPairs (λ p q. p ≢ q) t.places → least ≡ map (least_at t) t.of.items → AreLeast s nodes least
  are_least t least found apart is = record {
    len = ap length is ∙ length-map t.of.items (least_at t) ∙ found.places.count;
    each = λ m within. let count = found.places.count in subst (IsLeastWith s nodes m) (sym (each m (omega (arith, within, count)))) (least_is t found apart m within);
  }
    where
      each : (m : ℕ) → m < length t.of.items → slice_index_or least m 0 ≡ least_at t (of_node t m)
      each m within = ap (λ ns. slice_index_or ns m 0) is ∙ get_or-map (least_at t) t.of.items m 0 0 within

-- ---- the start

pub start_found : (s : Setup) (nodes : List Node) (t : Placing) → 0 < length nodes → t.places ≡ start s ∷ [] → length t.of.items ≡ length nodes → of_node t 0 ≡ 0 → t.least.items ≡ 0 ∷ [] → AreFound s nodes t 0
unfolding place
start_found s nodes t some places count number least =
    let low : least_at t 0 ≡ 0 = ap (λ xs. slice_index_or xs 0 0) least in
    let there : slice_get t.places 0 ≡ Some (start s) = ap (λ ps. slice_get ps 0) places in
    record {
      places = record {
        count = count;
        same = ap length least ∙ sym (ap length places);
        each = λ n within.
            let only : n ≡ 0 = (let one = ap length places in omega (arith, one, within)) in
            let mine : least_at t n ≡ 0 = ap (least_at t) only ∙ low in (
              omega (arith, mine, some),
              ap (slice_get t.places) only ∙ there ∙ ap (λ k. Some (place s (links nodes) k)) (sym mine),
            );
      };
      start = record {
        there = ap (slice_get t.places) number ∙ there;
        low = (let mine = ap (least_at t) number ∙ low in omega (arith, mine));
      };
      next = λ k node less there. absurd (omega (arith, less));
    }

pub node_of : (nodes : List Node) (k : ℕ) (node : Node) → k < length nodes → node ≡ slice_index_or nodes k node → slice_get nodes k ≡ Some node
node_of nodes k node within is = slice_get-get_or nodes k node within ∙ ap (λ n. Some n) (sym is)

pub room_size : (g h : Game) (board room : SizedBoard) → g ≡ h → IsBoardOf g board → room ≡ board → IsBoardOf h room
room_size g h board room game size same = subst (λ k. IsBoardOf k room) game (subst (IsBoardOf g) (sym same) size)

pub first_number : (n : ℕ) → let zero_is : ℕ = 0 in slice_index_or (replicate n zero_is) 0 zero_is ≡ zero_is
first_number zero = refl
first_number (suc n) = refl

pub all_done : (s : Setup) (nodes : List Node) (t : Placing) (i : ℕ) → i ≤ length nodes → length nodes ≤ i → AreFound s nodes t i → AreFound s nodes t (length nodes)
all_done s nodes t i low high found = (let e : i ≡ length nodes = omega (arith, low, high) in subst (AreFound s nodes t) e found)

pub next_number : (s : Setup) (nodes : List Node) (t : Placing) (i : ℕ) → AreFound s nodes t (suc i) → AreFound s nodes t (i + 1)
next_number s nodes t i found = (let e : suc i ≡ i + 1 = omega arith in subst (AreFound s nodes t) e found)
