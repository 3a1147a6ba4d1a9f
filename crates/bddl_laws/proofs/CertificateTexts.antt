-- The numbers of a valid certificate are short enough to be written.
use Rattle.std.proofs.Common.{◌≡◌, ℕ, zero, suc, ◌*◌, ◌^◌, ◌<◌, ◌≤◌, Bool, true, false, cond, List, [], ◌∷◌, length, length-append, map, flat_map, get_or, slice_get, All, Some, None, refl, ap, subst, ◌∙◌, arith}
use Rattle.std.specs.Prelude.{Contains, filter}
use Rattle.std.specs.List.{range_with_len, list_all}
use Rattle.std.proofs.lemmas.List.Sums.{AllPass-from_list_all}
use Rattle.bddl_model.proofs.Moves.{Contains-map}
use Rattle.bddl_laws.proofs.LegalMoves.{each_move}
use Rattle.std.proofs.lemmas.List.{length-map}
use Rattle.std.proofs.lemmas.List.FromFn.{length-range_with_len, length-map-range_with_len}
use Rattle.std.proofs.lemmas.List.Elements.{All-contains, All-contains_itself}
use Rattle.std.proofs.Math.Nat.{mul-le-mul_left, mul-le-mul_right}
use Rattle.std.proofs.lemmas.Option.{slice_get-get_or}
use Rattle.bddl_model.specs.declared.game.Side.{Side}
use Rattle.bddl_model.specs.declared.game.Side.TheVariants as sides
use Rattle.bddl_model.specs.declared.game.Move.{Move}
use Rattle.bddl_model.specs.declared.certificate.Answered.{Answered}
use Rattle.bddl_model.specs.declared.certificate.Node.{Node}
use Rattle.bddl_model.specs.declared.certificate.Node.TheVariants.{Goal, Black, White}
use Rattle.bddl_model.specs.Game.{Game, actions}
use Rattle.bddl_model.specs.Board.{Board}
use Rattle.bddl_model.specs.Limits.{IsGame}
use Rattle.bddl_model.specs.Moves.{legal, moves, all_moves}
use Rattle.bddl_model.specs.Codes.{shape_of, IsPlaced}
use Rattle.bddl_model.specs.Setup.{Setup}
use Rattle.bddl_model.specs.CertificateGraph.{answers, links, namings}
use Rattle.bddl_model.specs.Certificate.{place, difference, answers_fault, node_fault, valid, same_move}
use Rattle.bddl_model.specs.CertificateText.{numbered, ctext, IsShort, IsShortNode, CertText}
use Rattle.bddl_model.proofs.Codes.{legal_is_in_range, in_range_is_placed}
use Rattle.bddl_laws.proofs.Named.{linked_namings, head_in}
use Rattle.bddl_laws.proofs.PlacedNodes.{of_answers, links_length, valid_linked, valid_places}
use Rattle.bddl_laws.proofs.CertificateWins.{no_turn, has_turn, legal_move, same_until, no_difference}
use Rattle.bddl_model.proofs.PlaceTests.{moves_equal}

-- ---- how many moves there are

filtered_fewer : {X : Type 0} (p : X → Bool) (xs : List X) → length (filter p xs) ≤ length xs
filtered_fewer p [] = omega arith
filtered_fewer p (x ∷ xs) = at (p x) (filtered_fewer p xs)
  where
    at : (b : Bool) → length (filter p xs) ≤ length xs → length (cond b (x ∷ filter p xs) (filter p xs)) ≤ suc (length xs)
    at true le = omega (arith, le)
    at false le = omega (arith, le)

each_as_long : {X Y : Type 0} (f : X → List Y) (n : ℕ) → ((x : X) → length (f x) ≡ n) → (xs : List X) → length (flat_map f xs) ≡ length xs * n
each_as_long f n h [] = omega arith
each_as_long f n h (x ∷ xs) = length-append (f x) (flat_map f xs) ∙ omega (arith, h x, each_as_long f n h xs)

pub few_moves : (g : Game) (board : Board) (side : Side) → length (moves g board side) ≤ length (actions g side) * (g.height * g.width)
few_moves g board side =
    let row = λ (a y : ℕ). map (λ x. record { action = a; x = x; y = y }) (range_with_len 1 g.width) in
    let rows = λ (a : ℕ). each_as_long (row a) g.width (λ y. length-map-range_with_len (λ x. record { action = a; x = x; y = y }) 1 g.width) (range_with_len 1 g.height) ∙ ap (λ n. n * g.width) (length-range_with_len 1 g.height) in
    let all = each_as_long (λ a. flat_map (row a) (range_with_len 1 g.height)) (g.height * g.width) rows (range_with_len 0 (length (actions g side))) ∙ ap (λ n. n * (g.height * g.width)) (length-range_with_len 0 (length (actions g side))) in
    subst (λ n. length (moves g board side) ≤ n) all (filtered_fewer (legal g board side) (all_moves g side))

-- ---- short numbers

pub legal_placed : (g : Game) (board : Board) (side : Side) (m : Move) → legal g board side m ≡ true → IsPlaced (shape_of g side) m
legal_placed g board side m h = in_range_is_placed g side m (legal_is_in_range g side m board h)

limited : (g : Game) (side : Side) → IsGame g → (length (actions g side) ≤ 8) × (g.width ≤ 64) × (g.height ≤ 64)
limited g sides.Black i = (i.black.few_actions, i.width.1, i.height.1)
limited g sides.White i = (i.white.few_actions, i.width.1, i.height.1)

pub short_move : (g : Game) (board : Board) (side : Side) (a : Answered) → IsGame g → legal g board side a.mv ≡ true → a.next.0 < 2 ^ 64 → IsShort a
short_move g board side a i h low =
    let p = legal_placed g board side a.mv h in
    let l = limited g side i in
    record {
      action = omega (arith, p.action, l.0);
      x = omega (arith, p.column.1, l.1);
      y = omega (arith, p.row.1, l.2);
      next = low;
    }

pub product_limited : (a h w : ℕ) → a ≤ 8 → h ≤ 64 → w ≤ 64 → a * (h * w) < 1000000000
product_limited a h w la lh lw =
    let rows = mul-le-mul_right w lh in
    let cells = mul-le-mul_left 64 lw in
    let all : a * (h * w) ≤ a * (64 * 64) = mul-le-mul_left a (omega (arith, rows, cells)) in
    let some = mul-le-mul_right (64 * 64) la in
    omega (arith, all, some)

-- the replies are the moves, so that each is legal and they are as many
pub same_moves : (n : ℕ) (replies : List Answered) (ms : List Move) → difference n replies ms ≡ None → map (λ a. a.mv) replies ≡ ms
same_moves n [] [] h = refl
same_moves n [] (m ∷ ms) h = absurd cc
same_moves n (a ∷ rest) [] h = absurd cc
same_moves n (a ∷ rest) (m ∷ ms) h =
    let u = same_until (same_move a.mv m) _ n h in
    let e = moves_equal a.mv m u.0 in
    let f = same_moves (suc n) rest ms u.1 in
    cc

legal_each : (g : Game) (board : Board) (side : Side) → list_all (legal g board side) (moves g board side) ≡ true
legal_each g board side = each_move g board side (legal g board side) (λ m h. h)

legal_reply : (g : Game) (board : Board) (replies : List Answered) (a : Answered) → map (λ b. b.mv) replies ≡ moves g board sides.White → Contains replies a → legal g board sides.White a.mv ≡ true
legal_reply g board replies a e c =
    All-contains (λ m. legal g board sides.White m ≡ true) (moves g board sides.White) a.mv (AllPass-from_list_all (legal g board sides.White) (moves g board sides.White) (legal_each g board sides.White))
    (subst (λ l. Contains l a.mv) e (Contains-map (λ b. b.mv) replies a c))

single : (a : Answered) → IsShort a → All IsShort (a ∷ [])
single a short zero d lt = short
single a short (suc i) d lt = absurd (omega (arith, lt))

all_answered : (replies : List Answered) (ms : List Move) → answers_fault replies ms ≡ None → map (λ a. a.mv) replies ≡ ms
all_answered replies [] h = absurd cc
all_answered replies (m ∷ ms) h = same_moves 0 replies (m ∷ ms) (no_difference _ h)

module _ (s : Setup) (nodes : List Node) (game : IsGame s.game) (v : valid s nodes ≡ true) (count : length nodes < 2 ^ 64) where
  low : (k : ℕ) (node : Node) (a : Answered) → slice_get nodes k ≡ Some node → Contains (answers node) a → a.next.0 < 2 ^ 64
  low k node a h c =
      let l = linked_namings (links nodes) (valid_linked s nodes v) in
      let inside = of_answers (λ w. w.to < length (links nodes)) nodes k node a (λ i d lt. (l.later _ (All-contains_itself (namings (links nodes)) i d lt)).1) h c in
      omega (arith, inside, links_length nodes, count)

  short_node : (k : ℕ) (node : Node) → slice_get nodes k ≡ Some node → IsShortNode node
  short_node k node h = of node h ((valid_places s nodes v).fine k node h)
    where
      of : (n : Node) → slice_get nodes k ≡ Some n → node_fault s.game k (place s (links nodes) k) n ≡ None → IsShortNode n
      of Goal h f = record { few = omega arith; short = λ i d lt. absurd (omega (arith, lt)) }
      of (Black mv next) h f =
          let t = has_turn s.game sides.Black (place s (links nodes) k) _ (no_turn k _ f) in
          let m = legal_move s.game (place s (links nodes) k) sides.Black mv t.rest in
          let one : Answered = record { mv = mv; next = next } in
          record { few = omega arith; short = single one (short_move s.game (place s (links nodes) k).board sides.Black one game m (low k (Black mv next) one h (head_in one []))) }
      of (White replies) h f =
          let p = place s (links nodes) k in
          let t = has_turn s.game sides.White p _ (no_turn k _ f) in
          let e = all_answered replies (moves s.game p.board sides.White) t.rest in
          let l = limited s.game sides.White game in
          record {
            few = omega (arith, length-map replies (λ b. b.mv), ap length e, few_moves s.game p.board sides.White, product_limited (length (actions s.game sides.White)) s.game.height s.game.width l.0 l.2 l.1);
            short = λ i d lt. (let a = get_or replies i d in let c = All-contains_itself replies i d lt in short_move s.game p.board sides.White a game (legal_reply s.game p.board replies a e c) (low k (White replies) a h c));
          }

  pub has_text : CertText (ctext nodes) nodes
  has_text = record {
    version = numbered;
    written = refl;
    suits = valid_linked s nodes v;
    short = λ i d lt. short_node i (get_or nodes i d) (slice_get-get_or nodes i d lt);
    count = count;
  }
