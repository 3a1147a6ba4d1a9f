-- Nodes that are made breadth first, one for each place, are a certificate that shares its nodes.
use Rattle.std.proofs.Common.{◌≡◌, ◌≢◌, ℕ, zero, suc, ◌+◌, ◌-◌, ◌<◌, ◌≤◌, Bool, true, false, ◌&&◌, ◌||◌, if◌then◌else◌, List, [], ◌∷◌, ◌++◌, length, length-append, slice_get, Some, None, ◌⊎◌, inl, inr, ⊎_elim, refl, sym, ap, ◌∙◌, subst, arith, append_assoc, le-leb, lt-ltb, eq-eqb, eqb-true}
use Rattle.std.specs.Prelude.{All, AllPairs, nat_le, ◌==◌}
use Rattle.std.specs.List.{list_all, list_any, range_with_len, slice_index_or}
use Rattle.std.proofs.lemmas.Bool.{cases_lt, lt-leb, and_parts, and_from, or_left, or_right}
use Rattle.std.proofs.lemmas.List.{append-nil, length-map, map-append}
use Rattle.std.proofs.lemmas.List.Elements.{All-append, All-head, All-tail}
use Rattle.std.proofs.lemmas.List.Sums.{list_all-from_AllPass}
use Rattle.std.proofs.lemmas.Option.{slice_get_within, slice_get-get_or, get_or_from_slice_get}
use Rattle.bddl_model.specs.declared.certificate.Answered.{Answered}
use Rattle.bddl_model.specs.declared.certificate.Node.{Node}
use Rattle.bddl_model.specs.declared.game.Side.TheVariants.{White}
use Rattle.bddl_model.specs.Game.{Game}
use Rattle.bddl_model.specs.Setup.{Setup}
use Rattle.bddl_model.specs.CertificateGraph.{answers, Links, links, Naming, naming_of, named_by, namings_from, namings, numbers_from, is_later, is_named, linked, breadth_first}
use Rattle.bddl_model.specs.Certificate.{Place, start, behind, place, node_fault, AreApart, IsShared}
use Rattle.bddl_laws.specs.PlacedNodes.{ArePlaced}
use Rattle.bddl_laws.specs.BreadthFirst.{IsNumbered, AreNumbered, Leads, highest, AreNamed, AreMade}
use Rattle.bddl_laws.proofs.PlacedNodes.{placed_valid, placed_there}

abbrev pub no_place : Place
no_place = record { side = White; board = []; left = 0 }

-- ---- items of lists

pub all_one : {X : Type 0} (P : X → Type 0) (x : X) → P x → All P (x ∷ [])
all_one P x h zero d lt = h
all_one P x h (suc k) d lt = absurd (omega (arith, lt))

pub slice_get-append : {X : Type 0} (xs ys : List X) (k : ℕ) (x : X) → slice_get xs k ≡ Some x → slice_get (xs ++ ys) k ≡ Some x
slice_get-append [] ys k x h = absurd cc
slice_get-append (y ∷ xs) ys zero x h = h
slice_get-append (y ∷ xs) ys (suc k) x h = slice_get-append xs ys k x h

pub snoc_cases : {X : Type 0} (xs : List X) (y x : X) (k : ℕ) → slice_get (xs ++ y ∷ []) k ≡ Some x → (slice_get xs k ≡ Some x) ⊎ ((k ≡ length xs) × (x ≡ y))
snoc_cases [] y x zero h = inr (refl, (let e : x ≡ y = cc in e))
snoc_cases [] y x (suc k) h = absurd cc
snoc_cases (z ∷ xs) y x zero h = inl h
snoc_cases (z ∷ xs) y x (suc k) h = ⊎_elim (λ old. inl old) (λ new. inr (ap suc new.0, new.1)) (snoc_cases xs y x k h)

front_has : {X : Type 0} (xs ys : List X) (k : ℕ) (x : X) → k < length xs → slice_get (xs ++ ys) k ≡ Some x → slice_get xs k ≡ Some x
front_has [] ys k x lt h = absurd (omega (arith, lt))
front_has (z ∷ xs) ys zero x lt h = h
front_has (z ∷ xs) ys (suc k) x lt h = front_has xs ys k x (omega (arith, lt)) h

-- ---- places are only added

pub one_extends : (g : Game) (p : Place) (a : Answered) (old new : List Place) → IsNumbered g p a old new → (more : List Place) × (new ≡ old ++ more)
one_extends g p a old new is = elim (cases_lt a.next.0 (length old)) [
  | inl low ↦ ([], is.met low ∙ sym (append-nil old))
  | inr high ↦ (behind g p a.mv ∷ [], is.next high)
]

pub all_extend : (g : Game) (p : Place) (all : List Answered) (old new : List Place) → AreNumbered g p all old new → (more : List Place) × (new ≡ old ++ more)
all_extend g p [] old new are = ([], are ∙ sym (append-nil old))
all_extend g p (a ∷ rest) old new (mid, is, are) =
    let first = one_extends g p a old mid is in
    let later = all_extend g p rest mid new are in
    (first.0 ++ later.0, later.1 ∙ ap (λ xs. xs ++ later.0) first.1 ∙ append_assoc old first.0 later.0)

pub place_stays : (g : Game) (p : Place) (all : List Answered) (old new : List Place) (k : ℕ) (q : Place) → AreNumbered g p all old new → slice_get old k ≡ Some q → slice_get new k ≡ Some q
place_stays g p all old new k q are found = let more = all_extend g p all old new are in rw more.1 (slice_get-append old more.0 k q found)

one_place : (P : Place → Type 0) (g : Game) (p : Place) (a : Answered) (old new : List Place) → IsNumbered g p a old new → P (behind g p a.mv) → (k : ℕ) (q : Place) → slice_get new k ≡ Some q → (slice_get old k ≡ Some q) ⊎ P q
one_place P g p a old new is h k q found = elim (cases_lt a.next.0 (length old)) [
  | inl low ↦ (let same = is.met low in inl (rw same at found))
  | inr high ↦ (let grown = is.next high in ⊎_elim (λ before. inl before) (λ now. inr (subst P (sym now.1) h)) (snoc_cases old (behind g p a.mv) q k (rw grown at found)))
]

-- a place was there before, or stands behind an answer
pub each_place : (P : Place → Type 0) (g : Game) (p : Place) (all : List Answered) (old new : List Place) → AreNumbered g p all old new → All (λ a. P (behind g p a.mv)) all
    → (k : ℕ) (q : Place) → slice_get new k ≡ Some q → (slice_get old k ≡ Some q) ⊎ P q
each_place P g p [] old new are all k q found = inl (rw are at found)
each_place P g p (a ∷ rest) old new (mid, is, are) all k q found =
    ⊎_elim (λ before. one_place P g p a old mid is (All-head (λ b. P (behind g p b.mv)) a rest all) k q before) (λ now. inr now)
    (each_place P g p rest mid new are (All-tail (λ b. P (behind g p b.mv)) a rest all) k q found)

-- ---- which numbers are named

abbrev NumbersMore : ℕ → List Naming → Naming → Type 0
NumbersMore n ws w = numbers_from n ws ≡ true → w.to ≤ suc (highest n ws) → numbers_from n (ws ++ w ∷ []) ≡ true

numbers_one : (n to : ℕ) → to ≤ suc n → (if nat_le to n then true else (to == suc n && true)) ≡ true
numbers_one n to le = elim (cases_lt n to) [
  | inl more ↦ rw (lt-leb to n more, eq-eqb to (suc n) (omega arith)) refl
  | inr no_more ↦ rw (le-leb to n no_more) refl
]

numbers_more : (n : ℕ) (ws : List Naming) (w : Naming) → NumbersMore n ws w
numbers_more n [] w h le = numbers_one n w.to le
numbers_more n (v ∷ ws) w h le = at (nat_le v.to n) (λ m. numbers_more m ws w) h le
  where
    at : (t : Bool) → ((m : ℕ) → NumbersMore m ws w) → (if t then numbers_from n ws else (v.to == suc n && numbers_from (suc n) ws)) ≡ true → w.to ≤ suc (highest (if t then n else v.to) ws)
        → (if t then numbers_from n (ws ++ w ∷ []) else (v.to == suc n && numbers_from (suc n) (ws ++ w ∷ []))) ≡ true
    at true next h le = next n h le
    at false next h le =
        let parts = and_parts (v.to == suc n) _ h in
        let is : v.to ≡ suc n = eqb-true v.to (suc n) parts.0 in
        and_from _ _ parts.0 (next (suc n) parts.1 (subst (λ k. w.to ≤ suc (highest k ws)) is le))

highest_more : (n : ℕ) (ws : List Naming) (w : Naming) → highest n (ws ++ w ∷ []) ≡ (if nat_le w.to (highest n ws) then highest n ws else w.to)
highest_more n [] w = refl
highest_more n (v ∷ ws) w = highest_more (if nat_le v.to n then n else v.to) ws w

each_named : (n : ℕ) (ws : List Naming) (m : ℕ) → numbers_from n ws ≡ true → n < m → m ≤ highest n ws → list_any (λ w. w.to == m) ws ≡ true
each_named n [] m h low high = absurd (omega (arith, low, high))
each_named n (v ∷ ws) m h low high = at (nat_le v.to n) (λ k. each_named k ws m) h high
  where
    at : (t : Bool) → ((k : ℕ) → numbers_from k ws ≡ true → k < m → m ≤ highest k ws → list_any (λ w. w.to == m) ws ≡ true)
        → (if t then numbers_from n ws else (v.to == suc n && numbers_from (suc n) ws)) ≡ true → m ≤ highest (if t then n else v.to) ws → ((v.to == m) || list_any (λ w. w.to == m) ws) ≡ true
    at true next h high = or_right (v.to == m) _ (next n h low high)
    at false next h high =
        let parts = and_parts (v.to == suc n) _ h in
        let is : v.to ≡ suc n = eqb-true v.to (suc n) parts.0 in
        elim (cases_lt (suc n) m) [
          | inl later ↦ or_right (v.to == m) _ (next (suc n) parts.1 later (subst (λ k. m ≤ highest k ws) is high))
          | inr here ↦ or_left (v.to == m) _ (eq-eqb v.to m (omega (arith, is, here, low)))
        ]

-- ---- one naming more

module _ (s : Setup) (places : List Place) (ws : List Naming) (i : ℕ) (names : AreNamed s places ws i) (p : Place) (here : slice_get places i ≡ Some p) (low : 1 ≤ p.left) (a : Answered) where
  abbrev q : Place
  q = behind s.game p a.mv

  abbrev w : Naming
  w = naming_of i a

  old_is_later : slice_get places a.next.0 ≡ Some q → i < a.next.0
  old_is_later there = elim (cases_lt i a.next.0) [
    | inl later ↦ later
    | inr before ↦ (let less = names.sorted a.next.0 i q p before there here in absurd (omega (arith, less, low)))
  ]

  name_old : slice_get places a.next.0 ≡ Some q → AreNamed s places (ws ++ w ∷ []) i
  name_old there =
      let within = slice_get_within places a.next.0 q there in
      let last = names.last in
      record {
        root = names.root;
        sorted = names.sorted;
        near = names.near;
        leads = All-append (Leads s places) ws (w ∷ []) names.leads (all_one (Leads s places) w (record { from = p; found = here; to = there; later = old_is_later there }));
        numbers = numbers_more 0 ws w names.numbers (omega (arith, within, last));
        last = ap suc (highest_more 0 ws w ∙ no_higher (highest 0 ws) a.next.0 (omega (arith, within, last))) ∙ last;
      }
    where
      no_higher : (n to : ℕ) → to ≤ n → (if nat_le to n then n else to) ≡ n
      no_higher n to le = rw (le-leb to n le) refl

  abbrev more : List Place
  more = places ++ q ∷ []

  either : (P : ℕ → Place → Type 0) → ((k : ℕ) (r : Place) → slice_get places k ≡ Some r → P k r) → P (length places) q → (k : ℕ) (r : Place) → slice_get more k ≡ Some r → P k r
  either P old new k r found = ⊎_elim (old k r) (λ both. subst (λ n. P n r) (sym both.0) (subst (P (length places)) (sym both.1) new)) (snoc_cases places q r k found)

  still : (v : Naming) → Leads s places v → Leads s more v
  still v leads = record {
    from = leads.from;
    found = slice_get-append places (q ∷ []) v.from leads.from leads.found;
    to = slice_get-append places (q ∷ []) v.to (behind s.game leads.from v.mv) leads.to;
    later = leads.later;
  }

  there_now : slice_get more (length places) ≡ Some q
  there_now = last_is places
    where
      last_is : (xs : List Place) → slice_get (xs ++ q ∷ []) (length xs) ≡ Some q
      last_is [] = refl
      last_is (x ∷ xs) = last_is xs

  ordered : (j k : ℕ) (r t : Place) → j ≤ k → slice_get more j ≡ Some r → slice_get more k ≡ Some t → t.left ≤ r.left
  ordered j k r t le first second = ⊎_elim
      (λ j_old. ⊎_elim (λ k_old. names.sorted j k r t le j_old k_old)
      (λ k_new. let close = names.near j p r here j_old in let is = ap (λ (x : Place). x.left) k_new.1 in omega (arith, close, is))
      (snoc_cases places q t k second))
      (λ j_new. ⊎_elim (λ k_old. let within = slice_get_within places k t k_old in absurd (omega (arith, within, j_new.0, le)))
      (λ k_new. let same = ap (λ (x : Place). x.left) (j_new.1 ∙ sym k_new.1) in omega (arith, same))
      (snoc_cases places q t k second))
      (snoc_cases places q r j first)

  name_new : a.next.0 ≡ length places → AreNamed s more (ws ++ w ∷ []) i
  name_new next =
      let last = names.last in
      let within = slice_get_within places i p here in
      let count = length-append places (q ∷ []) in
      let stays = slice_get-append places (q ∷ []) i p here in
      record {
        root = slice_get-append places (q ∷ []) 0 (start s) names.root;
        sorted = ordered;
        near = λ k r t first second. near_one r (let e : p ≡ r = cc in e) k t second;
        leads = All-append (Leads s more) ws (w ∷ []) (λ k d lt. still (slice_index_or ws k d) (names.leads k d lt))
            (all_one (Leads s more) w (record { from = p; found = stays; to = subst (λ n. slice_get more n ≡ Some q) (sym next) there_now; later = omega (arith, next, within) }));
        numbers = numbers_more 0 ws w names.numbers (omega (arith, next, last));
        last = ap suc (highest_more 0 ws w ∙ higher (highest 0 ws) a.next.0 (omega (arith, next, last))) ∙ (let e : suc a.next.0 ≡ length more = omega (arith, next, count) in e);
      }
    where
      near_one : (r : Place) → p ≡ r → (k : ℕ) (t : Place) → slice_get more k ≡ Some t → r.left ≤ t.left + 1
      near_one r same k t found = subst (λ (x : Place). x.left ≤ t.left + 1) same (either (λ n x. p.left ≤ x.left + 1) (λ n x f. names.near n p x here f) (omega (arith, low)) k t found)

      higher : (n to : ℕ) → to ≡ suc n → (if nat_le to n then n else to) ≡ to
      higher n to is = rw (lt-leb to n (omega arith)) refl

  name_one : (new : List Place) → IsNumbered s.game p a places new → AreNamed s new (ws ++ w ∷ []) i
  name_one new is = elim (cases_lt a.next.0 (length places)) [
    | inl low ↦
        let same = is.met low in
        subst (λ xs. AreNamed s xs (ws ++ w ∷ []) i) (sym same) (name_old (subst (λ xs. slice_get xs a.next.0 ≡ Some q) same is.there))
    | inr high ↦
        let grown = is.next high in
        let within = slice_get_within new a.next.0 q is.there in
        let count = ap length grown ∙ length-append places (q ∷ []) in
        subst (λ xs. AreNamed s xs (ws ++ w ∷ []) i) (sym grown) (name_new (omega (arith, high, within, count)))
  ]

-- all answers of the place's node
name_all : (s : Setup) (i : ℕ) (p : Place) (all : List Answered) (places new : List Place) (ws : List Naming) → AreNamed s places ws i → slice_get places i ≡ Some p → (1 ≤ p.left) ⊎ (all ≡ [])
    → AreNumbered s.game p all places new → AreNamed s new (ws ++ named_by i all) i
name_all s i p [] places new ws names here low are = subst (λ xs. AreNamed s xs (ws ++ []) i) (sym are) (subst (λ vs. AreNamed s places vs i) (sym (append-nil ws)) names)
name_all s i p (a ∷ rest) places new ws names here low (mid, is, are) =
    let left : 1 ≤ p.left = ⊎_elim (λ l. l) (λ none. absurd cc) low in
    let extended = one_extends s.game p a places mid is in
    let stays : slice_get mid i ≡ Some p = rw extended.1 (slice_get-append places extended.0 i p here) in
    subst (λ vs. AreNamed s new vs i) (append_assoc ws (naming_of i a ∷ []) (named_by i rest))
    (name_all s i p rest mid new (ws ++ naming_of i a ∷ []) (name_one s places ws i names p here left a mid is) stays (inl left) are)

-- the next number
name_next : (s : Setup) (places : List Place) (ws : List Naming) (i : ℕ) (p : Place) → AreNamed s places ws i → slice_get places i ≡ Some p → AreNamed s places ws (suc i)
name_next s places ws i p names here = record {
  root = names.root;
  sorted = names.sorted;
  near = λ k r t first second. let less = names.sorted i (suc i) p r (omega arith) here first in let close = names.near k p t here second in omega (arith, less, close);
  leads = names.leads;
  numbers = names.numbers;
  last = names.last;
}

-- ---- one node more

namings_more : (n : ℕ) (ls : Links) (all : List Answered) → namings_from n (ls ++ all ∷ []) ≡ namings_from n ls ++ named_by (n + length ls) all
namings_more n [] all = append-nil (named_by n all) ∙ ap (λ k. named_by k all) (let e : n ≡ n + 0 = omega arith in e)
namings_more n (own ∷ ls) all =
    ap (λ vs. named_by n own ++ vs) (namings_more (suc n) ls all ∙ ap (λ k. namings_from (suc n) ls ++ named_by k all) (let e : suc n + length ls ≡ n + suc (length ls) = omega arith in e))
    ∙ sym (append_assoc (named_by n own) (namings_from (suc n) ls) (named_by (n + suc (length ls)) all))

links_more : (nodes : List Node) (node : Node) → namings (links (nodes ++ node ∷ [])) ≡ namings (links nodes) ++ named_by (length nodes) (answers node)
links_more nodes node =
    ap namings (map-append answers nodes (node ∷ []))
    ∙ namings_more 0 (links nodes) (answers node)
    ∙ ap (λ k. namings (links nodes) ++ named_by k (answers node)) (let e : 0 + length (links nodes) ≡ length nodes = (let count = length-map nodes answers in omega (arith, count)) in e)

module _ (s : Setup) (places new : List Place) (nodes : List Node) (p : Place) (node : Node) (made : AreMade s places nodes) (here : slice_get places (length nodes) ≡ Some p) (fine : (n : ℕ) → node_fault s.game n p node ≡ None)
    (low : (1 ≤ p.left) ⊎ (answers node ≡ [])) (are : AreNumbered s.game p (answers node) places new) where
  abbrev i : ℕ
  i = length nodes

  abbrev longer : (more : List Place) × (new ≡ places ++ more)
  longer = all_extend s.game p (answers node) places new are

  count_is : length (nodes ++ node ∷ []) ≡ suc i
  count_is = let whole = length-append nodes (node ∷ []) in omega (arith, whole)

  named_now : AreNamed s new (namings (links (nodes ++ node ∷ []))) (length (nodes ++ node ∷ []))
  named_now =
      let all = name_all s i p (answers node) places new (namings (links nodes)) made.named here low are in
      let next = name_next s new _ i p all (place_stays s.game p (answers node) places new i p are here) in
      subst (λ k. AreNamed s new (namings (links (nodes ++ node ∷ []))) k) (sym count_is)
      (subst (λ vs. AreNamed s new vs (suc i)) (sym (links_more nodes node)) next)

  old_place : (m : ℕ) (r : Place) → m ≤ i → slice_get new m ≡ Some r → slice_get places m ≡ Some r
  old_place m r le found =
      let within = slice_get_within places i p here in
      front_has places longer.0 m r (omega (arith, within, le)) (rw longer.1 at found)

  fine_now : (m : ℕ) (n : Node) (r : Place) → slice_get (nodes ++ node ∷ []) m ≡ Some n → slice_get new m ≡ Some r → node_fault s.game m r n ≡ None
  fine_now m n r found place = ⊎_elim
      (λ before. let within = slice_get_within nodes m n before in made.fine m n r before (old_place m r (omega (arith, within)) place))
      (λ now.
      let there = old_place m r (omega (arith, now.0)) place in
      let same : p ≡ r = same_place m r now.0 there in
      subst (λ t. node_fault s.game m t n ≡ None) same (subst (λ t. node_fault s.game m p t ≡ None) (sym now.1) (fine m)))
      (snoc_cases nodes node n m found)
    where
      same_place : (m : ℕ) (r : Place) → m ≡ i → slice_get places m ≡ Some r → p ≡ r
      same_place m r e there = let moved : slice_get places i ≡ Some r = subst (λ k. slice_get places k ≡ Some r) e there in cc

  -- the nodes go on with one of the first place that has none
  pub made_on : AreMade s new (nodes ++ node ∷ [])
  made_on =
      let within = slice_get_within places i p here in
      let count = ap length longer.1 ∙ length-append places longer.0 in
      let now = count_is in
      record { named = named_now; fine = fine_now; count = omega (arith, within, count, now) }

-- ---- the start

pub start_made : (s : Setup) → AreMade s (start s ∷ []) []
start_made s = record {
  named = record {
    root = refl;
    sorted = λ j k p q le first second. let same = ap (λ (r : Place). r.left) (sym (start_is j p first) ∙ start_is k q second) in omega (arith, same);
    near = λ k p q first second. let same = ap (λ (r : Place). r.left) (sym (start_is 0 p first) ∙ start_is k q second) in omega (arith, same);
    leads = λ k d lt. absurd (omega (arith, lt));
    numbers = refl;
    last = refl;
  };
  fine = λ m node p found place. absurd cc;
  count = omega arith;
}
  where
    start_is : (k : ℕ) (p : Place) → slice_get (start s ∷ []) k ≡ Some p → start s ≡ p
    start_is zero p h = cc
    start_is (suc k) p h = absurd cc

-- ---- once every place has its node

each_in_range : (f : ℕ → Bool) (from n : ℕ) → ((m : ℕ) → from ≤ m → m < from + n → f m ≡ true) → list_all f (range_with_len from n) ≡ true
each_in_range f from zero h = refl
each_in_range f from (suc n) h = and_from _ _ (h from (omega arith) (omega arith)) (each_in_range f (from + 1) n (λ m low high. h m (omega (arith, low)) (omega (arith, high))))

module _ (s : Setup) (places : List Place) (nodes : List Node) (made : AreMade s places nodes) (all : length nodes ≡ length places) where
  abbrev at : ℕ → Place
  at m = slice_index_or places m no_place

  abbrev ws : List Naming
  ws = namings (links nodes)

  links_length : length (links nodes) ≡ length places
  links_length = length-map nodes answers ∙ all

  at_is : (m : ℕ) (p : Place) → slice_get places m ≡ Some p → at m ≡ p
  at_is m p found = get_or_from_slice_get places m p no_place found

  are_linked : linked (links nodes) ≡ true
  unfolding linked
  are_linked =
      let last = made.named.last in
      let count = links_length in
      and_from _ _ (lt-ltb 0 (length (links nodes)) (omega (arith, last, count)))
      (and_from _ _
      (list_all-from_AllPass (is_later (length (links nodes))) ws (λ k d lt.
      let leads = made.named.leads k d lt in
      let within = slice_get_within places (slice_index_or ws k d).to _ leads.to in
      and_from _ _ (lt-ltb (slice_index_or ws k d).from (slice_index_or ws k d).to leads.later) (lt-ltb (slice_index_or ws k d).to (length (links nodes)) (omega (arith, within, count)))))
      (each_in_range (is_named (links nodes)) 1 (length (links nodes) - 1) (λ m low high. each_named 0 ws m made.named.numbers (omega (arith, low)) (omega (arith, high, last, count)))))

  are_placed : ArePlaced s nodes at
  are_placed = record {
    root = at_is 0 (start s) made.named.root;
    leads = λ k d lt.
        let leads = made.named.leads k d lt in
        let w = slice_index_or ws k d in
        ap (λ p. behind s.game p w.mv) (at_is w.from leads.from leads.found) ∙ sym (at_is w.to _ leads.to);
    fine = λ m node found.
        let within = slice_get_within nodes m node found in
        made.fine m node (at m) found (slice_get-get_or places m no_place (omega (arith, within, all)));
  }

  -- each node stands at its place
  pub made_place : (m : ℕ) (p : Place) → slice_get places m ≡ Some p → place s (links nodes) m ≡ p
  made_place m p found =
      let within = slice_get_within places m p found in
      placed_there s nodes at are_linked are_placed m (omega (arith, within, all)) ∙ at_is m p found

  are_apart : AllPairs (λ p q. p ≢ q) places → AreApart s (links nodes)
  are_apart apart m k lt within same =
      let count = length-map nodes answers in
      let first = placed_there s nodes at are_linked are_placed m (omega (arith, lt, within, count)) in
      let second = placed_there s nodes at are_linked are_placed k (omega (arith, within, count)) in
      apart m k no_place lt (omega (arith, within, links_length)) (sym first ∙ same ∙ second)

  numbered_in_order : breadth_first (links nodes) ≡ true
  unfolding breadth_first
  numbered_in_order = made.named.numbers

  -- and where no place is there twice, they are shared
  pub made_shared : AllPairs (λ p q. p ≢ q) places → IsShared s nodes
  made_shared apart = record {
    valid = placed_valid s nodes at are_linked are_placed;
    apart = are_apart apart;
    order = numbered_in_order;
  }
