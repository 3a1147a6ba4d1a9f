-- Which claims serve: that of a goal of Black that stands, and that of an illegal code of White; no other, once a goal of White stands or the plies are spent or a code or a sample is illegal.
use Rattle.std.proofs.Common.{◌≡◌, ℕ, zero, suc, ◌≤◌, ◌<◌, Bool, true, false, not, ◌&&◌, List, nat_lt, nat_le, length, ◌⊎◌, inl, inr, ⊎_elim, refl, sym, ap, ap₂, ◌∙◌, subst, arith, Option, Some, None, lt-ltb, le-ltb, if◌then◌else◌}
use Rattle.std.proofs.lemmas.Bool.{or_from, or_left, or_right, and_from, and_left, and_right, cases_lt, le-leb, lt-leb, false≢true}
use Rattle.std.specs.List.{list_all}
use Rattle.bddl_model.specs.declared.game.Mark.{Mark}
use Rattle.bddl_model.specs.Conditions.{Cell, PlacedTest, Ply, Claim, Attack, passes_at, all_pass_at, one_fails_at, each_below, is_white, is_refused, in_time, moves_pass, goal_claimed, illegal_claimed, claim_holds, is_answered, conditions}
use Rattle.bddl_laws.proofs.Tests.{Marks, all_hold, tests_hold, AllCells, TestCells, all_pass, failing, none_fails}

pub each_from : (n : ℕ) (test : ℕ → Bool) → ((i : ℕ) → i < n → test i ≡ true) → each_below n test ≡ true
each_from zero test h = refl
each_from (suc n) test h = and_from _ _ (h n (omega arith)) (each_from n test (λ i lt. h i (omega arith)))

pub one_fails : (n : ℕ) (test : ℕ → Bool) (i : ℕ) → i < n → test i ≡ false → each_below n test ≡ false
one_fails zero test i lt h = absurd (omega arith)
one_fails (suc n) test i lt h = at (cases_lt i n) (λ l. one_fails n test i l h)
  where
    at : (i < n) ⊎ (n ≤ i) → (i < n → each_below n test ≡ false) → each_below (suc n) test ≡ false
    at (inl l) next = and_right _ _ (next l)
    at (inr l) next = and_left _ _ (let e : n ≡ i = omega arith in ap test e ∙ h)

-- ---- the conditions together

module _ (depth : ℕ) (plies : ℕ → Ply) (marks : ℕ → Mark) (c : Claim) (w : Attack) (r : ℕ) (p : Cell) where
  abbrev Meets : Bool → Type 0
  Meets t = conditions depth plies marks c w r p ≡ t

  all_met : in_time depth c ≡ true → moves_pass plies marks c.time p ≡ true → claim_holds plies marks c p ≡ true → is_answered marks w c.time r p ≡ true → Meets true
  all_met e f g h = and_from (in_time depth c) _ e (and_from (moves_pass plies marks c.time p) _ f (and_from (claim_holds plies marks c p) _ g h))

  too_late : depth < c.time → Meets false
  too_late late = and_left (in_time depth c) _ (lt-leb c.time depth late)

  moves_fail : moves_pass plies marks c.time p ≡ false → Meets false
  moves_fail e = and_right (in_time depth c) _ (and_left (moves_pass plies marks c.time p) _ e)

  claim_fails : claim_holds plies marks c p ≡ false → Meets false
  claim_fails e = and_right (in_time depth c) _ (and_right (moves_pass plies marks c.time p) _ (and_left (claim_holds plies marks c p) _ e))

  answer_fails : is_answered marks w c.time r p ≡ false → Meets false
  answer_fails e = and_right (in_time depth c) _ (and_right (moves_pass plies marks c.time p) _ (and_right (claim_holds plies marks c p) _ e))

-- what a claim says, by its kind
goal_claim : (plies : ℕ → Ply) (marks : ℕ → Mark) (c : Claim) (p : Cell) → c.illegal ≡ false → claim_holds plies marks c p ≡ goal_claimed marks c p
goal_claim plies marks c p kind = rw kind

illegal_claim : (plies : ℕ → Ply) (marks : ℕ → Mark) (c : Claim) (p : Cell) → c.illegal ≡ true → claim_holds plies marks c p ≡ illegal_claimed plies marks c.time c.atom p
illegal_claim plies marks c p kind = rw kind

-- ---- a position

abbrev pub LineOf : (List PlacedTest → Type 0) → Option (List PlacedTest) → Type 0
LineOf Line None = Unit {0}
LineOf Line (Some ts) = Line ts

abbrev pub NoneHolds : (List PlacedTest → Type 0) → Marks → Type 0
NoneHolds Line board = (ts : List PlacedTest) → Line ts → all_hold board ts ≡ false

abbrev pub tests_in : Option (List PlacedTest) → ℕ
tests_in None = 0
tests_in (Some ts) = length ts

-- 0, or the number of a test
abbrev pub IsNumberIn : Option (List PlacedTest) → ℕ → Type 0
IsNumberIn o n = (n ≡ 0) ⊎ (n < tests_in o)

-- so many legal plies were played, and no goal stood on the boards before the last; `Place` tells the places that can be named
pub record History (Place : Cell → Type 0) (BlackLine WhiteLine : List PlacedTest → Type 0) (depth played : ℕ) (plies : ℕ → Ply) (boards : ℕ → Marks) : Type 0 where
  pub within : played ≤ depth
  pub some_place : (p : Cell) × Place p
  pub black_cells : (ts : List PlacedTest) → BlackLine ts → AllCells Place ts
  pub white_cells : (ts : List PlacedTest) → WhiteLine ts → AllCells Place ts
  pub own_cells : (i : ℕ) → TestCells Place (plies i).own
  pub code_cells : (i : ℕ) → TestCells Place (plies i).code
  pub own_legal : (i : ℕ) → i < played → tests_hold (boards i) (plies i).own ≡ true
  pub code_legal : (i : ℕ) → i < played → tests_hold (boards i) (plies i).code ≡ true
  pub no_black : (i : ℕ) → i < played → NoneHolds BlackLine (boards i)
  pub no_white : (i : ℕ) → i < played → NoneHolds WhiteLine (boards i)

module _ (Place : Cell → Type 0) (BlackLine WhiteLine : List PlacedTest → Type 0) (depth k : ℕ) (plies : ℕ → Ply) (boards : ℕ → Marks) (h : History Place BlackLine WhiteLine depth k plies boards) where
  -- up to the last board the marks are those of the boards
  abbrev pub AreShown : Cell → (ℕ → Mark) → Type 0
  AreShown p marks = (i : ℕ) → i ≤ k → marks i ≡ boards i p

  -- some number answers the attack, whatever the place
  abbrev pub Answered : Claim → Attack → Type 0
  Answered c w = (r : ℕ) × IsNumberIn w.line r × ((p : Cell) (marks : ℕ → Mark) → AreShown p marks → conditions depth plies marks c w r p ≡ true)

  -- no number does
  abbrev pub Fails : Claim → Attack → Type 0
  Fails c w = (r : ℕ) → (p : Cell) × Place p × ((marks : ℕ → Mark) → AreShown p marks → conditions depth plies marks c w r p ≡ false)

  -- ---- tests at a moment up to the last

  holding_pass : (o : Option (List PlacedTest)) (i : ℕ) → i ≤ k → tests_hold (boards i) o ≡ true → (p : Cell) (marks : ℕ → Mark) → AreShown p marks → all_pass_at p (marks i) o ≡ true
  holding_pass None i le l p marks m = absurd (false≢true l)
  holding_pass (Some ts) i le l p marks m = ap (λ x. list_all (passes_at p x) ts) (m i le) ∙ all_pass (boards i) ts p l

  failing_stop : (o : Option (List PlacedTest)) (i : ℕ) → i ≤ k → TestCells Place o → tests_hold (boards i) o ≡ false → (p : Cell) × Place p × ((marks : ℕ → Mark) → AreShown p marks → all_pass_at p (marks i) o ≡ false)
  failing_stop None i le on l = let s = h.some_place in (s.0, s.1, λ marks m. refl)
  failing_stop (Some ts) i le on l =
      let f = failing Place (boards i) ts on l in
      (f.cell, f.place, λ marks m. ap (λ x. list_all (passes_at f.cell x) ts) (m i le) ∙ f.stops)

  -- a legal code is refused by no number
  legal_not_refused : (o : Option (List PlacedTest)) (i n : ℕ) → i ≤ k → TestCells Place o → tests_hold (boards i) o ≡ true → (p : Cell) × Place p × ((marks : ℕ → Mark) → AreShown p marks → is_refused p (marks i) n o ≡ false)
  legal_not_refused None i n le on l = absurd (false≢true l)
  legal_not_refused (Some ts) i n le on l =
      let x = none_fails Place (boards i) ts n h.some_place on l in
      (x.0, x.1, λ marks m. ap (λ y. one_fails_at x.0 y n ts) (m i le) ∙ x.2)

  -- an illegal one is by some number
  pub refusing_number : (o : Option (List PlacedTest)) → TestCells Place o → tests_hold (boards k) o ≡ false → (n : ℕ) × IsNumberIn o n × ((p : Cell) (marks : ℕ → Mark) → AreShown p marks → is_refused p (marks k) n o ≡ true)
  refusing_number None on l = (0, inl refl, λ p marks m. refl)
  refusing_number (Some ts) on l =
      let f = failing Place (boards k) ts on l in
      (f.number, inr f.below, λ p marks m. ap (λ x. one_fails_at p x f.number ts) (m k (omega arith)) ∙ f.fails p)

  plies_pass : (p : Cell) (marks : ℕ → Mark) → AreShown p marks → moves_pass plies marks k p ≡ true
  plies_pass p marks m = each_from k _ (λ i lt. holding_pass (plies i).own i (omega arith) (h.own_legal i lt) p marks m)

  -- Black answers each line of White that stood at no moment before the claim's
  reply : (T : ℕ) → ((t : ℕ) → t < T → (t ≤ k) × NoneHolds WhiteLine (boards t)) → (w : Attack) → LineOf WhiteLine w.line
      → (r : ℕ) × IsNumberIn w.line r × ((p : Cell) (marks : ℕ → Mark) → AreShown p marks → is_answered marks w T r p ≡ true)
  reply T quiet w f = at w.line w.time refl refl f (cases_lt w.time T)
    where
      at : (o : Option (List PlacedTest)) (t : ℕ) → w.line ≡ o → w.time ≡ t → LineOf WhiteLine o → (t < T) ⊎ (T ≤ t)
          → (r : ℕ) × IsNumberIn o r × ((p : Cell) (marks : ℕ → Mark) → AreShown p marks → is_answered marks (record { line = o; time = t }) T r p ≡ true)
      at None t e d f c = (0, inl refl, λ p marks m. refl)
      at (Some ts) t e d f (inr le) = (0, inl refl, λ p marks m. or_left _ _ (ap not (le-ltb t T le)))
      at (Some ts) t e d f (inl lt) =
          let n = quiet t lt in
          let g = failing Place (boards t) ts (h.white_cells ts f) (n.1 ts f) in
          (g.number, inr g.below, λ p marks m. or_right _ _ (ap (λ x. one_fails_at p x g.number ts) (m t n.0) ∙ g.fails p))

  -- ---- claims that serve

  -- Black's goal stands
  pub goal_serves : (ts : List PlacedTest) → all_hold (boards k) ts ≡ true → (c : Claim) → c.illegal ≡ false → c.time ≡ k → c.line ≡ Some ts → (w : Attack) → LineOf WhiteLine w.line → Answered c w
  goal_serves ts l c kind time line w f =
      let r = reply k (λ t lt. (omega arith, h.no_white t lt)) w f in (
        r.0,
        r.1,
        λ p marks m. all_met depth plies marks c w r.0 p
            (ap (λ t. nat_le t depth) time ∙ le-leb k depth h.within)
            (ap (λ t. moves_pass plies marks t p) time ∙ plies_pass p marks m)
            (goal_claim plies marks c p kind ∙ ap₂ (λ t o. all_pass_at p (marks t) o) time line ∙ holding_pass (Some ts) k (omega arith) l p marks m)
            (ap (λ t. is_answered marks w t r.0 p) time ∙ r.2 p marks m),
      )

  -- White's code is illegal, and the sample isn't
  pub illegal_serves : k < depth → is_white (plies k).side ≡ true → tests_hold (boards k) (plies k).own ≡ true → NoneHolds WhiteLine (boards k)
      → (n : ℕ) → ((p : Cell) (marks : ℕ → Mark) → AreShown p marks → is_refused p (marks k) n (plies k).code ≡ true)
      → (c : Claim) → c.illegal ≡ true → c.time ≡ suc k → c.atom ≡ n → (w : Attack) → LineOf WhiteLine w.line → Answered c w
  illegal_serves lt turn sample no_white n refused c kind time atom w f =
      let r = reply (suc k) quiet w f in (
        r.0,
        r.1,
        λ p marks m. all_met depth plies marks c w r.0 p
            (ap (λ t. nat_le t depth) time ∙ le-leb (suc k) depth lt)
            (ap (λ t. moves_pass plies marks t p) time ∙ and_from _ _ (holding_pass (plies k).own k (omega arith) sample p marks m) (plies_pass p marks m))
            (illegal_claim plies marks c p kind ∙ ap₂ (λ t i. illegal_claimed plies marks t i p) time atom ∙ and_from _ _ turn (refused p marks m))
            (ap (λ t. is_answered marks w t r.0 p) time ∙ r.2 p marks m),
      )
    where
      quiet : (t : ℕ) → t < suc k → (t ≤ k) × NoneHolds WhiteLine (boards t)
      quiet t l = (omega arith, ⊎_elim (λ lt. h.no_white t lt) (λ ge. let e : k ≡ t = omega arith in subst (λ n. NoneHolds WhiteLine (boards n)) e no_white) (cases_lt t k))

  -- ---- claims that fail

  -- one of a moment that is past
  past_fails : NoneHolds BlackLine (boards k) → (c : Claim) → c.time ≤ k → LineOf BlackLine c.line → (w : Attack) → Fails c w
  past_fails no_black c le f w r = at c.illegal refl
    where
      quiet : (t : ℕ) → t ≤ k → NoneHolds BlackLine (boards t)
      quiet t low = ⊎_elim (λ lt. h.no_black t lt) (λ ge. let e : k ≡ t = omega arith in subst (λ n. NoneHolds BlackLine (boards n)) e no_black) (cases_lt t k)

      line_cells : (o : Option (List PlacedTest)) → LineOf BlackLine o → TestCells Place o
      line_cells None f = tt
      line_cells (Some ts) f = h.black_cells ts f

      line_fails : (o : Option (List PlacedTest)) → LineOf BlackLine o → tests_hold (boards c.time) o ≡ false
      line_fails None f = refl
      line_fails (Some ts) f = quiet c.time le ts f

      code_stands : (t : ℕ) → t ≤ k → (p : Cell) × Place p × ((marks : ℕ → Mark) → AreShown p marks → illegal_claimed plies marks t c.atom p ≡ false)
      code_stands zero low = let s = h.some_place in (s.0, s.1, λ marks m. refl)
      code_stands (suc t) low =
          let x = legal_not_refused (plies t).code t c.atom (omega arith) (h.code_cells t) (h.code_legal t low) in
          (x.0, x.1, λ marks m. and_right _ _ (x.2 marks m))

      at : (t : Bool) → c.illegal ≡ t → (p : Cell) × Place p × ((marks : ℕ → Mark) → AreShown p marks → conditions depth plies marks c w r p ≡ false)
      at true e = let x = code_stands c.time le in (x.0, x.1, λ marks m. claim_fails depth plies marks c w r x.0 (illegal_claim plies marks c x.0 e ∙ x.2 marks m))
      at false e =
          let x = failing_stop c.line c.time le (line_cells c.line f) (line_fails c.line f) in
          (x.0, x.1, λ marks m. claim_fails depth plies marks c w r x.0 (goal_claim plies marks c x.0 e ∙ x.2 marks m))

  -- past or later
  each_fails : NoneHolds BlackLine (boards k) → (c : Claim) → LineOf BlackLine c.line → (w : Attack) → (k < c.time → Fails c w) → Fails c w
  each_fails no_black c f w late = ⊎_elim late (λ le. past_fails no_black c le f w) (cases_lt k c.time)

  -- White's goal stands, and it says so
  pub white_goal_refutes : NoneHolds BlackLine (boards k) → (ts : List PlacedTest) → WhiteLine ts → all_hold (boards k) ts ≡ true → (c : Claim) → LineOf BlackLine c.line
      → (w : Attack) → w.line ≡ Some ts → w.time ≡ k → Fails c w
  white_goal_refutes no_black ts is_line l c f w line time = each_fails no_black c f w (λ lt r.
      let x = none_fails Place (boards k) ts r h.some_place (h.white_cells ts is_line) l in (
        x.0,
        x.1,
        λ marks m.
            let fails : is_answered marks (record { line = Some ts; time = k }) c.time r x.0 ≡ false
            = or_from (not (nat_lt k c.time)) (one_fails_at x.0 (marks k) r ts) (ap not (lt-ltb k c.time lt)) (ap (λ y. one_fails_at x.0 y r ts) (m k (omega arith)) ∙ x.2) in
            answer_fails depth plies marks c w r x.0 (ap₂ (λ o t. is_answered marks (record { line = o; time = t }) c.time r x.0) line time ∙ fails),
      ))

  -- no ply is left
  pub spent_refutes : k ≡ depth → NoneHolds BlackLine (boards k) → (c : Claim) → LineOf BlackLine c.line → (w : Attack) → Fails c w
  spent_refutes e no_black c f w = each_fails no_black c f w (λ lt r.
      let s = h.some_place in
      let over : depth < c.time = omega arith in
      (s.0, s.1, λ marks m. too_late depth plies marks c w r s.0 over))

  -- Black's code, or White's sample, is illegal
  pub illegal_refutes : tests_hold (boards k) (plies k).own ≡ false → NoneHolds BlackLine (boards k) → (c : Claim) → LineOf BlackLine c.line → (w : Attack) → Fails c w
  illegal_refutes illegal no_black c f w = each_fails no_black c f w (λ lt r.
      let x = failing_stop (plies k).own k (omega arith) (h.own_cells k) illegal in
      (x.0, x.1, λ marks m. moves_fail depth plies marks c w r x.0 (one_fails c.time _ k lt (x.2 marks m))))

-- the conditions speak of the plies up to the depth alone
pub conditions_same : (depth : ℕ) (plies others : ℕ → Ply) (marks : ℕ → Mark) (c : Claim) (w : Attack) (r : ℕ) (p : Cell) → ((i : ℕ) → i < depth → plies i ≡ others i)
    → conditions depth plies marks c w r p ≡ conditions depth others marks c w r p
conditions_same depth plies others marks c w r p same = at (cases_lt depth c.time)
  where
    passes_same : (n : ℕ) → n ≤ depth → moves_pass plies marks n p ≡ moves_pass others marks n p
    passes_same zero le = refl
    passes_same (suc n) le = ap₂ (λ x y. x && y) (ap (λ q. all_pass_at p (marks n) q.own) (same n le)) (passes_same n (omega arith))

    illegal_same : (n : ℕ) → n ≤ depth → illegal_claimed plies marks n c.atom p ≡ illegal_claimed others marks n c.atom p
    illegal_same zero le = refl
    illegal_same (suc n) le = ap (λ q. is_white q.side && is_refused p (marks n) c.atom q.code) (same n le)

    at : (depth < c.time) ⊎ (c.time ≤ depth) → conditions depth plies marks c w r p ≡ conditions depth others marks c w r p
    at (inl late) = too_late depth plies marks c w r p late ∙ sym (too_late depth others marks c w r p late)
    at (inr le) = ap₂ (λ x y. in_time depth c && (x && ((if c.illegal then y else goal_claimed marks c p) && is_answered marks w c.time r p))) (passes_same c.time le) (illegal_same c.time le)
