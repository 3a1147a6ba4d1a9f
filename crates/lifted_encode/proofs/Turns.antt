-- What a run's place and marks are in a circuit that grows, and one ply more.
use Rattle.std.proofs.Common.{◌≡◌, ℕ, suc, ◌<◌, ◌+◌, ◌*◌, Bool, not, ◌&&◌, ◌||◌, ◌==◌, nat_le, nat_lt, List, [], length, get_or, drop, Option, None, Some, refl, sym, ap, ap₂, subst, ◌∙◌, arith}
use Rattle.std.specs.Prelude.{slice_get}
use Rattle.std.proofs.lemmas.Bool.Decides.{nat_tests}
use Rattle.std.proofs.lemmas.List.{append-nil, drop_more}
use Rattle.bddl_model.specs.declared.circuit.Wire.{Wire}
use Rattle.bddl_model.specs.declared.game.Mark.{Mark}
use Rattle.bddl_model.specs.declared.game.PlyBits.{PlyBits}
use Rattle.bddl_model.specs.declared.game.Side.TheVariants.{Black, White}
use Rattle.bddl_model.specs.Truth.{Assignment}
use Rattle.bddl_model.specs.Bits.{bits}
use Rattle.bddl_model.specs.Board.{Board}
use Rattle.bddl_model.specs.Circuit.{Circuit}
use Rattle.bddl_model.specs.Conditions.{Cell, PlacedTest, all_pass_at, is_refused, is_white}
use Rattle.bddl_model.specs.Encoding.{move_tests}
use Rattle.bddl_model.specs.Exact.{coded_move, own_code}
use Rattle.bddl_model.specs.Game.{Game}
use Rattle.bddl_model.specs.Growth.{Grows}
use Rattle.bddl_model.specs.OneCell.{spelled_cell}
use Rattle.bddl_model.specs.Words.{AreWires}
use Rattle.bddl_model.proofs.WireWords.{word_stays, word_kept}
use Rattle.symbol_cell.specs.declared.pair.Pair.{Pair}
use Rattle.symbol_cell.specs.Pairs.{IsPair, mark_of}
use Rattle.symbol_cell.specs.Runs.{Run, Stands, place_named}
use Rattle.symbol_cell.specs.Steps.{unit}
use Rattle.symbol_cell.proofs.Following.{found_pair}
use Rattle.symbol_cell.proofs.Steps.{pair_stays, mark_kept}
use Rattle.lifted_encode.specs.Asking.{all_pass, unrefuted, found_met}
use Rattle.lifted_encode.specs.Telling.{mark_in, marks_of, ply_passes, plies_pass, ply_refused, one_refused, action_parts, refused_in, refused_parts}
use Rattle.lifted_encode.proofs.Booleans.{and_associates, or_associates}
use Rattle.lifted_encode.proofs.Found.{found_pass, found_refused}

-- ---- a run in a circuit that grows

module _ (g : Game) (most : ℕ) (old new : Circuit) (r : Run) (b : Board) (grows : Grows most old new) (stands : Stands r old g b) where
  pub place_stays : (place : List Wire) → place ≡ r.place → AreWires new place
  place_stays place is = subst (AreWires new) (sym is) (word_stays most old new r.place grows stands.place)

  pub place_long : (place : List Wire) → place ≡ r.place → length place ≡ length r.place
  place_long place is = ap length is

  pub found_stays : (time : ℕ) (p : Pair) → slice_get r.pairs time ≡ Some p → IsPair new p
  found_stays time p found = pair_stays most old new p grows (found_pair old r.pairs time p stands.pairs found)

  pub place_told : (place : List Wire) (a : Assignment) → place ≡ r.place → place_named g new a place ≡ place_named g old a r.place
  place_told place a is = ap (λ ws. place_named g new a ws) is ∙ ap (spelled_cell (bits g.width)) (word_kept most old new r.place a grows stands.place)

  pub mark_told : (time : ℕ) (p : Pair) (a : Assignment) → slice_get r.pairs time ≡ Some p → mark_of new p a ≡ marks_of old r a time
  mark_told time p a found = mark_kept most old new p a grows (found_pair old r.pairs time p stands.pairs found) ∙ sym (ap (mark_in old a) found)

  pub marks_kept : (time : ℕ) (a : Assignment) → marks_of new r a time ≡ marks_of old r a time
  marks_kept time a = of (slice_get r.pairs time) refl
    where
      of : (o : Option Pair) → slice_get r.pairs time ≡ o → mark_in new a o ≡ mark_in old a o
      of None is = refl
      of (Some p) is = mark_kept most old new p a grows (found_pair old r.pairs time p stands.pairs is)

pub behind_time : (n t : ℕ) → nat_le (n + 1) t ≡ nat_lt n t
behind_time n t = grind (arith, nat_tests)

pub exactly : (n k m : ℕ) (reached below : Bool) → reached ≡ nat_le k n → below ≡ not (nat_le (k + 1) m) → m ≡ n → (reached && below) ≡ (n == k)
exactly n k m reached below e f same = rw (e, f, same) (numbers n k)
  where
    numbers : (n k : ℕ) → (nat_le k n && not (nat_le (k + 1) n)) ≡ (n == k)
    numbers n k = grind (arith, nat_tests)

-- ---- one ply more

module _ (g : Game) (a : Assignment) (time : ℕ) (place : Cell) (marks : ℕ → Mark) (i : ℕ) (plies : List PlyBits) (none : PlyBits) (lt : i < length plies) (known after whole : Bool) where
  up : i + 1 ≡ suc i
  up = omega arith

  pub passes_turn : (known && plies_pass g a time place marks i (drop i plies)) ≡ whole
      → after ≡ (known && ply_passes g a time place marks i (get_or plies i none))
      → (after && plies_pass g a time place marks (i + 1) (drop (i + 1) plies)) ≡ whole
  passes_turn so_far v =
      ap (λ x. x && plies_pass g a time place marks (i + 1) (drop (i + 1) plies)) v
      ∙ and_associates known (ply_passes g a time place marks i (get_or plies i none)) (plies_pass g a time place marks (i + 1) (drop (i + 1) plies))
      ∙ ap (λ k. known && (ply_passes g a time place marks i (get_or plies i none) && plies_pass g a time place marks k (drop (i + 1) plies))) up
      ∙ sym (ap (λ left. known && plies_pass g a time place marks i left) (drop_more plies i none lt))
      ∙ so_far

  pub refused_turn : (n : ℕ) → (known || one_refused g a time place marks n i (drop i plies)) ≡ whole
      → after ≡ (known || ply_refused g a time place marks n i (get_or plies i none))
      → (after || one_refused g a time place marks n (i + 1) (drop (i + 1) plies)) ≡ whole
  refused_turn n so_far v =
      ap (λ x. x || one_refused g a time place marks n (i + 1) (drop (i + 1) plies)) v
      ∙ or_associates known (ply_refused g a time place marks n i (get_or plies i none)) (one_refused g a time place marks n (i + 1) (drop (i + 1) plies))
      ∙ ap (λ k. known || (ply_refused g a time place marks n i (get_or plies i none) || one_refused g a time place marks n k (drop (i + 1) plies))) up
      ∙ sym (ap (λ left. known || one_refused g a time place marks n i left) (drop_more plies i none lt))
      ∙ so_far

-- ---- what the wire of a code tells

module _ (o : Option (List PlacedTest)) (there place : Cell) (m mark : Mark) (same : there ≡ place) (shown : m ≡ mark) where
  pub passes_told : (wire : Bool) → wire ≡ found_met all_pass there m o → wire ≡ all_pass_at place mark o
  passes_told wire v = v ∙ found_pass there m o ∙ ap₂ (λ p k. all_pass_at p k o) same shown

  pub refused_told : (n k : ℕ) (wire : Bool) → n ≡ k → wire ≡ found_met (unrefuted n) there m o → not wire ≡ is_refused place mark k o
  refused_told n k wire number v = ap not v ∙ found_refused there m n o ∙ ap₂ (λ p q. is_refused p q n o) same shown ∙ ap (λ j. is_refused place mark j o) number

-- where the ply is White's, its code is tested
pub ply_told : (g : Game) (a : Assignment) (time : ℕ) (place : Cell) (marks : ℕ → Mark) (n i : ℕ) (p : PlyBits) → p.side ≡ White
    → (here refused : Bool) → here ≡ (time == i + 1) → refused ≡ is_refused place (marks i) n (move_tests g p.side (coded_move g p.side a p.code))
    → (here && refused) ≡ ply_refused g a time place marks n i p
ply_told g a time place marks n i p white here refused at v =
    ap₂ (λ x y. x && y) at v
    ∙ sym (ap (λ w. (time == i + 1) && (w && is_refused place (marks i) n (move_tests g p.side (coded_move g p.side a p.code)))) (ap is_white white))

pub ply_parted : (g : Game) (p : PlyBits) → p.side ≡ White → (b : ℕ) → unit b * refused_parts g p ≡ unit b * (action_parts g p.side + 1)
ply_parted g p white b = ap (λ side. unit b * refused_in g side) white ∙ sym (ap (λ side. unit b * (action_parts g side + 1)) white)

-- ---- a ply in a circuit that grows

abbrev pub no_ply : PlyBits
no_ply = record { side = Black; sample = record { from = 0; len = 0 }; code = record { from = 0; len = 0 } }

module _ (g : Game) (a : Assignment) (i : ℕ) (p : PlyBits) (s t : ℕ) (c d : Cell) (k m : ℕ → Mark) (time : s ≡ t) (place : c ≡ d) (mark : k i ≡ m i) where
  pub passes_kept : ply_passes g a s c k i p ≡ ply_passes g a t d m i p
  passes_kept =
      ap (λ n. not (nat_lt i n) || all_pass_at c (k i) (move_tests g p.side (coded_move g p.side a (own_code p)))) time
      ∙ ap₂ (λ cell shown. not (nat_lt i t) || all_pass_at cell shown (move_tests g p.side (coded_move g p.side a (own_code p)))) place mark

  pub refused_kept : (n o : ℕ) → n ≡ o → ply_refused g a s c k n i p ≡ ply_refused g a t d m o i p
  refused_kept n o number =
      ap₂ (λ u j. (u == i + 1) && (is_white p.side && is_refused c (k i) j (move_tests g p.side (coded_move g p.side a p.code)))) time number
      ∙ ap₂ (λ cell shown. (t == i + 1) && (is_white p.side && is_refused cell shown o (move_tests g p.side (coded_move g p.side a p.code)))) place mark

pub no_growth : (c : Circuit) → Grows 0 c c
no_growth c = record { inputs = refl; gates = ([], sym (append-nil c.gates)); least = omega arith; room = omega arith; wires = λ w is. is; kept = λ w a is. refl }
