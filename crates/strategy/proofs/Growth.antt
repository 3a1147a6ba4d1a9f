-- One node more: its answers name places that were met or are met now, and what is kept goes on.
use Rattle.std.proofs.Common.{◌≡◌, ℕ, zero, suc, ◌+◌, ◌-◌, ◌*◌, ◌<◌, ◌≤◌, true, List, [], ◌∷◌, length, length-append, drop, slice_get, Some, ◌⊎◌, inl, inr, ⊎_elim, refl, sym, ap, ◌∙◌, subst, arith}
use Rattle.std.specs.Prelude.{All}
use Rattle.std.specs.List.{slice_index_or, sum_by}
use Rattle.std.proofs.Math.Nat.{mul-le-mul_right}
use Rattle.std.proofs.lemmas.Bool.{cases_lt}
use Rattle.std.proofs.lemmas.List.{drop-append-le}
use Rattle.std.proofs.lemmas.List.Sums.{sum_by-cons, sum_by-append}
use Rattle.std.proofs.lemmas.Option.{slice_get_within, slice_get-get_or}
use Rattle.bddl_model.specs.declared.certificate.Answered.{Answered}
use Rattle.bddl_model.specs.declared.certificate.Node.{Node}
use Rattle.bddl_model.specs.declared.game.Side.{Side}
use Rattle.bddl_model.specs.declared.game.Side.TheVariants.{Black, White}
use Rattle.bddl_model.specs.Board.{Board}
use Rattle.bddl_model.specs.Game.{Game, opponent, side_after}
use Rattle.bddl_model.specs.Moves.{after}
use Rattle.bddl_model.specs.Win.{win}
use Rattle.bddl_model.specs.Setup.{Setup}
use Rattle.bddl_model.specs.Bounds.{game_bound, most_replies, certify_bound}
use Rattle.bddl_model.specs.CertificateGraph.{answers}
use Rattle.bddl_model.specs.Certificate.{Place, start, behind}
use Rattle.bddl_laws.specs.PlaceCosts.{MayBeMet, cost_at}
use Rattle.bddl_laws.proofs.CertifyBounds.{search_within, replies_within, black_start_within, white_start_within}
use Rattle.bddl_model.proofs.Moves.{moves_keep_the_size}
use Rattle.lifted_encode.specs.Encoded.{setup_of}
use Rattle.bddl_laws.specs.BreadthFirst.{IsNumbered, AreNumbered, AreMade}
use Rattle.bddl_laws.proofs.BreadthFirst.{no_place, one_extends, each_place, made_on, start_made}
use Rattle.strategy.specs.Growing.{Adds, AwaitsNode, most_answers, search_at, IsNodeAt, Grows, waiting}
use Rattle.strategy.specs.declared.growing.Growing.{Growing}

-- ---- places that may be met

side_next : (side : Side) (k : ℕ) → side_after side (suc k) ≡ opponent (side_after side k)
side_next side zero = refl
side_next side (suc k) = side_next (opponent side) k

behind_may_be_met : (s : Setup) (p : Place) (a : Answered) → 1 ≤ p.left → MayBeMet s p → MayBeMet s (behind s.game p a.mv)
behind_may_be_met s p a low met = record {
  made = suc met.made;
  left = (let whole = met.left in omega (arith, whole, low));
  side = ap opponent met.side ∙ sym (side_next s.first met.made);
  size = moves_keep_the_size s.game p.board p.side a.mv ∙ met.size;
}

-- ---- one node more

-- all answers of the place's node
abbrev IsWon : Setup → Place → Answered → Type 0
IsWon s p a = win s.game (opponent p.side) (after s.game p.board p.side a.mv) (p.left - 1) ≡ true

all_may_be_met : (s : Setup) (p : Place) (all : List Answered) → (1 ≤ p.left) ⊎ (all ≡ []) → MayBeMet s p → All (λ a. MayBeMet s (behind s.game p a.mv)) all
all_may_be_met s p all (inl low) met k d lt = behind_may_be_met s p (slice_index_or all k d) low met
all_may_be_met s p all (inr none) met k d lt = let count = ap length none in absurd (omega (arith, lt, count))

module _ (s : Setup) (old new : Growing) (p : Place) (node : Node) (grows : Grows s old) (here : slice_get old.places (length old.nodes) ≡ Some p) (adds : Adds s.game p node old new) (is : IsNodeAt s.game p node) where
  count_is : length new.nodes ≡ suc (length old.nodes)
  count_is = let whole = ap length adds.nodes ∙ length-append old.nodes (node ∷ []) in omega (arith, whole)

  pub grows_on : Grows s new
  grows_on = record {
    made = subst (AreMade s new.places) (sym adds.nodes) (made_on s old.places new.places old.nodes p node grows.made here is.fine is.left adds.places);
    met = λ k q found. ⊎_elim (grows.met k q) (λ now. now)
        (each_place (MayBeMet s) s.game p (answers node) old.places new.places adds.places (all_may_be_met s p (answers node) is.left (grows.met (length old.nodes) p here)) k q found);
    won = λ k q le found. let count = count_is in ⊎_elim (grows.won k q (omega (arith, le, count))) (λ now. now)
        (each_place (λ r. win s.game r.side r.board r.left ≡ true) s.game p (answers node) old.places new.places adds.places is.wins k q found);
  }

-- ---- the start

module _ (s : Setup) (g : Growing) (places : g.places ≡ start s ∷ []) (nodes : g.nodes ≡ []) where
  start_is : (k : ℕ) (p : Place) → slice_get g.places k ≡ Some p → (k ≡ 0) × (start s ≡ p)
  start_is k p found = one k (rw places at found)
    where
      one : (k : ℕ) → slice_get (start s ∷ []) k ≡ Some p → (k ≡ 0) × (start s ≡ p)
      one zero h = (refl, cc)
      one (suc k) h = absurd cc

  start_here : slice_get g.places (length g.nodes) ≡ Some (start s)
  start_here = rw (places, nodes) refl

  pub start_grows : length s.board ≡ s.game.height * s.game.width → win s.game s.first s.board s.depth ≡ true → Grows s g
  start_grows size won = record {
    made = rw (places, nodes) (start_made s);
    met = λ k p found. subst (MayBeMet s) (start_is k p found).1 (record { made = 0; left = omega arith; side = refl; size = size });
    won = λ k p le found. subst (λ r. win s.game r.side r.board r.left ≡ true) (start_is k p found).1 won;
  }

  -- the only place waits
  pub start_waits : waiting s g.places (length g.nodes) ≡ cost_at s s.first s.depth
  start_waits = rw (places, nodes) (sum_by-cons (λ p. cost_at s p.side p.left) (start s) [] ∙ (let e : cost_at s s.first s.depth + 0 ≡ cost_at s s.first s.depth = omega arith in e))

-- ---- steps

waits_here : (s : Setup) (places : List Place) (i : ℕ) (p : Place) → slice_get places i ≡ Some p → waiting s places i ≡ cost_at s p.side p.left + waiting s places (suc i)
waits_here s [] i p h = absurd cc
waits_here s (x ∷ places) zero p h = let same : x ≡ p = cc in sum_by-cons (λ r. cost_at s r.side r.left) x places ∙ ap (λ r. cost_at s r.side r.left + waiting s places 0) same
waits_here s (x ∷ places) (suc i) p h = waits_here s places i p h

waits_one : (s : Setup) (p : Place) (a : Answered) (places new : List Place) (k : ℕ) → k ≤ length places → IsNumbered s.game p a places new
    → waiting s new k ≤ waiting s places k + cost_at s (opponent p.side) (p.left - 1)
waits_one s p a places new k le is = elim (cases_lt a.next.0 (length places)) [
  | inl low ↦ (let same = ap (λ xs. waiting s xs k) (is.met low) in omega (arith, same))
  | inr high ↦
      let q = behind s.game p a.mv in
      let same = ap (λ xs. waiting s xs k) (is.next high)
      ∙ ap (sum_by (λ r. cost_at s r.side r.left)) (drop-append-le k places (q ∷ []) le)
      ∙ sum_by-append (λ r. cost_at s r.side r.left) (drop k places) (q ∷ []) in
      let one = sum_by-cons (λ r. cost_at s r.side r.left) q [] in
      omega (arith, same, one)
]

waits_all : (s : Setup) (p : Place) (all : List Answered) (places new : List Place) (k : ℕ) → k ≤ length places → AreNumbered s.game p all places new
    → waiting s new k ≤ waiting s places k + length all * cost_at s (opponent p.side) (p.left - 1)
waits_all s p [] places new k le are = let same = ap (λ xs. waiting s xs k) are in omega (arith, same)
waits_all s p (a ∷ rest) places new k le (mid, is, are) =
    let one = waits_one s p a places mid k le is in
    let extended = one_extends s.game p a places mid is in
    let count = ap length extended.1 ∙ length-append places extended.0 in
    let later = waits_all s p rest mid new k (omega (arith, count, le)) are in
    sum_up (waiting s new k) (waiting s mid k) (waiting s places k) (length rest) (cost_at s (opponent p.side) (p.left - 1)) one later
  where
    sum_up : (after between before n cost : ℕ) → between ≤ before + cost → after ≤ between + n * cost → after ≤ before + suc n * cost
    sum_up after between before n cost one later = let spread : suc n * cost ≡ cost + n * cost = grind arith in omega (arith, one, later, spread)

-- what a node and the places behind it take is what its place may take
abbrev step_cost : Setup → Place → ℕ → ℕ
step_cost s p count = 1 + search_at s.game p + count * cost_at s (opponent p.side) (p.left - 1)

module _ (s : Setup) (board : Board) where
  abbrev at : Side → ℕ → Place
  at side left = record { side = side; board = board; left = left }

  pays : (side : Side) (left count : ℕ) → MayBeMet s (at side left) → (1 ≤ left) ⊎ (count ≡ 0) → count ≤ most_answers s.game (at side left) → step_cost s (at side left) count ≤ cost_at s side left
  pays Black zero count met low few =
      let none : count ≡ 0 = ⊎_elim (λ l. absurd (omega (arith, l))) (λ n. n) low in
      let search = search_within s (at Black 0) met in
      rw none (omega (arith, search))
  pays Black (suc n) count met low few =
      let search = search_within s (at Black (suc n)) met in
      let less : suc n - 1 ≡ n = omega arith in
      let times = mul-le-mul_right (cost_at s White n) few in
      rw less (omega (arith, search, times))
  pays White zero count met low few =
      let none : count ≡ 0 = ⊎_elim (λ l. absurd (omega (arith, l))) (λ n. n) low in
      rw none (omega arith)
  pays White (suc n) count met low few =
      let most = replies_within s board in
      let less : suc n - 1 ≡ n = omega arith in
      let all : count ≤ most_replies s = omega (arith, few, most) in
      let times = mul-le-mul_right (cost_at s Black n) all in
      rw less (omega (arith, times))

module _ (s : Setup) (old new : Growing) (p : Place) (grows : Grows s old) (here : slice_get old.places (length old.nodes) ≡ Some p) where
  -- the place may take a step and its search
  pub search_waits : 1 + search_at s.game p ≤ waiting s old.places (length old.nodes)
  search_waits =
      let place = waits_here s old.places (length old.nodes) p here in
      let paid = pays s p.board p.side p.left 0 (grows.met (length old.nodes) p here) (inr refl) (omega arith) in
      omega (arith, place, paid)

  -- and then those behind the node wait
  pub node_pays : (node : Node) → Adds s.game p node old new → IsNodeAt s.game p node → 1 + search_at s.game p + waiting s new.places (length new.nodes) ≤ waiting s old.places (length old.nodes)
  node_pays node adds is =
      let place = waits_here s old.places (length old.nodes) p here in
      let within = slice_get_within old.places (length old.nodes) p here in
      let behind = waits_all s p (answers node) old.places new.places (suc (length old.nodes)) (omega (arith, within)) adds.places in
      let paid = pays s p.board p.side p.left (length (answers node)) (grows.met (length old.nodes) p here) (⊎_elim (λ l. inl l) (λ none. inr (ap length none)) is.left) is.few in
      let count : length new.nodes ≡ suc (length old.nodes) = (let whole = ap length adds.nodes ∙ length-append old.nodes (node ∷ []) in omega (arith, whole)) in
      rw count (omega (arith, place, behind, paid))

-- ---- the next place

pub next_place : (g : Growing) → length g.nodes < length g.places → (p : Place) × (slice_get g.places (length g.nodes) ≡ Some p)
next_place g more = (slice_index_or g.places (length g.nodes) no_place, slice_get-get_or g.places (length g.nodes) no_place more)

pub next_awaits : (s : Setup) (g : Growing) → Grows s g → s.depth ≤ 31 → (p : Place) → slice_get g.places (length g.nodes) ≡ Some p → AwaitsNode s.game p
next_awaits s g grows few p here =
    let met = grows.met (length g.nodes) p here in
    let left = met.left in
    record {
      size = met.size;
      left = omega (arith, left, few);
      won = λ side. subst (λ (t : Side). win s.game t p.board p.left ≡ true) side (grows.won (length g.nodes) p (omega arith) here);
    }

-- ---- the next node

pub made_goes_on : (s : Setup) (old new : Growing) (p : Place) → Grows s old → slice_get old.places (length old.nodes) ≡ Some p → (node : Node) × Adds s.game p node old new × IsNodeAt s.game p node
    → Grows s new × (1 + search_at s.game p + waiting s new.places (length new.nodes) ≤ waiting s old.places (length old.nodes))
made_goes_on s old new p grows here (node, adds, is) = (grows_on s old new p node grows here adds is, node_pays s old new p grows here node adds is)

pub fewer_wait : (search after before : ℕ) → 1 + search + after ≤ before → after < before
fewer_wait search after before le = omega (arith, le)

pub still_within : (used before search after waits bound : ℕ) → used ≤ before + 1 + search → 1 + search + after ≤ waits → before + waits ≤ bound → used + after ≤ bound
still_within used before search after waits bound taken pays within = omega (arith, taken, pays, within)

pub used_within : (used before search waits bound : ℕ) → used ≤ before + 1 + search → 1 + search ≤ waits → before + waits ≤ bound → used ≤ bound
used_within used before search waits bound taken may within = omega (arith, taken, may, within)

pub spent_below : (budget known before search waits bound : ℕ) → known ≡ budget → known < before + 1 + search → 1 + search ≤ waits → before + waits ≤ bound → budget < bound
spent_below budget known before search waits bound same spent may within = omega (arith, same, spent, may, within)

-- ---- the first node, where Black begins

module _ (s : Setup) (old new : Growing) (places : old.places ≡ start s ∷ []) (nodes : old.nodes ≡ []) where
  abbrev StartMade : Type 0
  StartMade = (node : Node) × Adds s.game (start s) node old new × IsNodeAt s.game (start s) node

  pub start_place : slice_get old.places (length old.nodes) ≡ Some (start s)
  start_place = start_here s old places nodes

  pub only_start : (p : Place) → slice_get old.places (length old.nodes) ≡ Some p → start s ≡ p
  only_start p found = let there = start_place in cc

  start_paid : (count : ℕ) → (1 ≤ s.depth) ⊎ (count ≡ 0) → count ≤ most_answers s.game (start s) → length s.board ≡ s.game.height * s.game.width → step_cost s (start s) count ≤ cost_at s s.first s.depth
  start_paid count low few size = pays s s.board s.first s.depth count (record { made = 0; left = omega arith; side = refl; size = size }) low few

  pub start_search : length s.board ≡ s.game.height * s.game.width → 1 + search_at s.game (start s) ≤ cost_at s s.first s.depth
  start_search size = let paid = start_paid 0 (inr refl) (omega arith) size in omega (arith, paid)

  pub start_node_made : length s.board ≡ s.game.height * s.game.width → StartMade → Grows s new × (1 + search_at s.game (start s) + waiting s new.places (length new.nodes) ≤ cost_at s s.first s.depth)
  start_node_made size (node, adds, is) =
      let grows = start_grows s old places nodes size is.won in
      let made = made_goes_on s old new (start s) grows start_place (node, adds, is) in
      let waits = start_waits s old places nodes in
      (made.0, omega (arith, made.1, waits))

  module _ (black : s.first ≡ Black) (size : length s.board ≡ s.game.height * s.game.width) where
    cost_within : cost_at s s.first s.depth ≤ certify_bound s
    cost_within = subst (λ side. cost_at s side s.depth ≤ certify_bound s) (sym black) (black_start_within s)

    pub first_search_within : (used before : ℕ) → used ≤ before + 1 + search_at s.game (start s) → used ≤ before + certify_bound s
    first_search_within used before taken = let search = start_search size in let cost = cost_within in omega (arith, taken, search, cost)

    pub first_spent_within : (budget before : ℕ) → budget < before + 1 + search_at s.game (start s) → budget < before + certify_bound s
    first_spent_within budget before spent = let search = start_search size in let cost = cost_within in omega (arith, spent, search, cost)

    pub first_node_within : StartMade → (used before : ℕ) → used ≤ before + 1 + search_at s.game (start s) → used + waiting s new.places (length new.nodes) ≤ before + certify_bound s
    first_node_within made used before taken = let pays = (start_node_made size made).1 in let cost = cost_within in omega (arith, taken, pays, cost)

-- ---- a search before the first node, where White begins

pub white_start_pays : (g : Game) (board : Board) (depth : ℕ) (side : Side) → side ≡ White → length board ≡ g.height * g.width
    → game_bound (setup_of g board White depth) + cost_at (setup_of g board side depth) side depth ≤ certify_bound (setup_of g board side depth)
white_start_pays g board depth Black is size = absurd cc
white_start_pays g board depth White is size =
    let s : Setup = setup_of g board White depth in
    let search = search_within s (start s) (record { made = 0; left = omega arith; side = refl; size = size }) in
    let pays = white_start_within s in
    omega (arith, search, pays)

pub spent_before : (budget before search cost bound : ℕ) → budget < before + search → search + cost ≤ bound → budget < before + bound
spent_before budget before search cost bound spent pays = omega (arith, spent, pays)

pub used_before : (used before search cost bound : ℕ) → used ≤ before + search → search + cost ≤ bound → used ≤ before + bound
used_before used before search cost bound taken pays = omega (arith, taken, pays)

pub left_before : (used before search cost waits bound : ℕ) → used ≤ before + search → search + cost ≤ bound → waits ≡ cost → used + waits ≤ before + bound
left_before used before search cost waits bound taken pays same = omega (arith, taken, pays, same)
