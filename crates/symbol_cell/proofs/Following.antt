-- One ply more, and the mark of each moment.
use Rattle.std.proofs.Common.{◌≡◌, ℕ, suc, ◌+◌, ◌*◌, ◌<◌, true, arith, All, List, [], ◌∷◌, ◌++◌, length, get_or, map, sym, subst, ap, ap₂, ◌∙◌}
use Rattle.std.specs.Prelude.{Some, slice_get}
use Rattle.std.proofs.lemmas.List.{map-append}
use Rattle.std.proofs.lemmas.List.Elements.{All-nil, All-push, All-get_or}
use Rattle.std.proofs.lemmas.Option.{get_or_from_slice_get, slice_get_within}
use Rattle.bddl_model.specs.declared.circuit.Wire.{Wire}
use Rattle.bddl_model.specs.declared.game.Move.{Move}
use Rattle.bddl_model.specs.declared.game.Side.{Side}
use Rattle.bddl_model.specs.Truth.{Assignment}
use Rattle.bddl_model.specs.Bits.{bits}
use Rattle.bddl_model.specs.Board.{Board}
use Rattle.bddl_model.specs.Circuit.{Circuit}
use Rattle.bddl_model.specs.Codes.{shape_of, code_length, spelled_move}
use Rattle.bddl_model.specs.Conditions.{Cell}
use Rattle.bddl_model.specs.Encoding.{shown}
use Rattle.bddl_model.specs.Game.{Game}
use Rattle.bddl_model.specs.Growth.{Grows}
use Rattle.bddl_model.specs.Layout.{anchor_bits}
use Rattle.bddl_model.specs.Moves.{legal, after}
use Rattle.bddl_model.specs.OneCell.{stepped, spelled_cell}
use Rattle.bddl_model.specs.Words.{AreWires, word_bits}
use Rattle.bddl_model.proofs.Moves.{moves_keep_the_size}
use Rattle.bddl_model.proofs.WireWords.{word_stays, word_kept}
use Rattle.symbol_cell.specs.declared.pair.Pair.{Pair}
use Rattle.symbol_cell.specs.declared.run.Step.{Step}
use Rattle.symbol_cell.specs.Pairs.{IsPair, mark_of}
use Rattle.symbol_cell.specs.Runs.{Run, Ply, named, place_named, Name, board_after, Follow, IsPly, Stands}
use Rattle.symbol_cell.specs.Views.{ply_of, pair_of}
use Rattle.symbol_cell.proofs.Boards.{shown_after}
use Rattle.symbol_cell.proofs.Steps.{pair_stays, mark_kept}

-- ---- while the circuit grows

module _ (g : Game) (most : ℕ) (old new : Circuit) (grows : Grows most old new) where
  plies_stay : (plies : List Ply) → All (IsPly g old) plies → All (IsPly g new) plies
  plies_stay plies h = λ k d lt. let ply = h k d lt in record { wires = word_stays most old new (get_or plies k d).code grows ply.wires; bits = ply.bits }

  pairs_stay : (pairs : List Pair) → All (IsPair old) pairs → All (IsPair new) pairs
  pairs_stay pairs h = λ k d lt. pair_stays most old new (get_or pairs k d) grows (h k d lt)

  pub named_kept : (a : Assignment) (s : Ply) → AreWires old s.code → named g new a s ≡ named g old a s
  named_kept a s are = ap (spelled_move (shape_of g s.side)) (word_kept most old new s.code a grows are)

  pub named_place_kept : (a : Assignment) (place : List Wire) → AreWires old place → place_named g new a place ≡ place_named g old a place
  named_place_kept a place are = ap (spelled_cell (bits g.width)) (word_kept most old new place a grows are)

  follow_kept : (a : Assignment) (place : Cell) (b : Board) (plies : List Ply) (pairs : List Pair) → All (IsPly g old) plies → All (IsPair old) pairs
      → Follow g old a place b plies pairs → Follow g new a place b plies pairs
  follow_kept a place b [] (p ∷ []) are is h = mark_kept most old new p a grows (is 0 p (omega arith)) ∙ h
  follow_kept a place b [] [] are is h = absurd h
  follow_kept a place b [] (p ∷ q ∷ pairs) are is h = absurd h
  follow_kept a place b (s ∷ plies) [] are is h = absurd h
  follow_kept a place b (s ∷ plies) (p ∷ pairs) are is h =
      let same = named_kept a s (are 0 s (omega arith)).wires in (
        mark_kept most old new p a grows (is 0 p (omega arith)) ∙ h.0,
        λ may. subst (λ m. Follow g new a place (after g b s.side m) plies pairs) (sym same)
            (follow_kept a place (after g b s.side (named g old a s)) plies pairs (λ k d lt. are (suc k) d (omega (arith, lt))) (λ k d lt. is (suc k) d (omega (arith, lt))) (h.1 (subst (λ m. legal g b s.side m ≡ true) same may))),
      )

  pub stands_kept : (r : Run) (board : Board) → Stands r old g board → Stands r new g board
  stands_kept r board h = record {
    place = word_stays most old new r.place grows h.place;
    place_bits = h.place_bits;
    plies = plies_stay r.plies h.plies;
    pairs = pairs_stay r.pairs h.pairs;
    size = h.size;
    follow = λ a. subst (λ place. Follow g new a place board r.plies r.pairs) (sym (named_place_kept a r.place h.place))
        (follow_kept a (place_named g old a r.place) board r.plies r.pairs h.plies h.pairs (h.follow a));
  }

-- ---- one ply more

follow_more : (g : Game) (c : Circuit) (a : Assignment) (place : Cell) (b : Board) (plies : List Ply) (pairs : List Pair) (s : Ply) (p d : Pair) → length b ≡ g.height * g.width
    → Follow g c a place b plies pairs → mark_of c p a ≡ stepped g s.side (named g c a s) place (mark_of c (get_or pairs (length plies) d) a)
    → Follow g c a place b (plies ++ s ∷ []) (pairs ++ p ∷ [])
follow_more g c a place b [] (q ∷ []) s p d size h put =
    (h, λ may. put ∙ ap (stepped g s.side (named g c a s) place) h ∙ sym (shown_after g b s.side (named g c a s) place size may))
follow_more g c a place b [] [] s p d size h put = absurd h
follow_more g c a place b [] (q ∷ r ∷ pairs) s p d size h put = absurd h
follow_more g c a place b (t ∷ plies) [] s p d size h put = absurd h
follow_more g c a place b (t ∷ plies) (q ∷ pairs) s p d size h put =
    (h.0, λ may. follow_more g c a place (after g b t.side (named g c a t)) plies pairs s p d (moves_keep_the_size g b t.side (named g c a t) ∙ size) (h.1 may) put)

-- ---- the mark of a moment

pub follow_at : (g : Game) (c : Circuit) (a : Assignment) (place : Cell) (b : Board) (plies : List Ply) (pairs : List Pair) (moves : List Move) (d : Pair)
    → Follow g c a place b plies pairs → Name g c a b plies moves
    → mark_of c (get_or pairs (length moves) d) a ≡ shown g (board_after g b plies moves) place
follow_at g c a place b [] (p ∷ []) [] d h name = h
follow_at g c a place b [] [] [] d h name = absurd h
follow_at g c a place b [] (p ∷ q ∷ pairs) [] d h name = absurd h
follow_at g c a place b (s ∷ plies) [] [] d h name = absurd h
follow_at g c a place b (s ∷ plies) (p ∷ pairs) [] d h name = h.0
follow_at g c a place b [] pairs (m ∷ moves) d h name = absurd name
follow_at g c a place b (s ∷ plies) [] (m ∷ moves) d h name = absurd h
follow_at g c a place b (s ∷ plies) (p ∷ pairs) (m ∷ moves) d h name =
    follow_at g c a place (after g b s.side m) plies pairs moves d
    (subst (λ n. Follow g c a place (after g b s.side n) plies pairs) name.0 (h.1 (subst (λ n. legal g b s.side n ≡ true) (sym name.0) name.1)))
    name.2

-- ---- runs

pub found_pair : (c : Circuit) (pairs : List Pair) (time : ℕ) (p : Pair) → All (IsPair c) pairs → slice_get pairs time ≡ Some p → IsPair c p
found_pair c pairs time p are found = subst (IsPair c) (get_or_from_slice_get pairs time p p found) (All-get_or (IsPair c) pairs time p (slice_get_within pairs time p found) are)

module _ (g : Game) (most : ℕ) (old new : Circuit) (grows : Grows most old new) where
  -- a run of no ply
  pub stands_first : (r : Run) (board : Board) (place : List Wire) (p : Pair) → r ≡ record { place = place; plies = []; pairs = p ∷ [] } → AreWires old place → length place ≡ anchor_bits g → IsPair new p
      → length board ≡ g.height * g.width → ((a : Assignment) → mark_of new p a ≡ shown g board (place_named g old a place)) → Stands r new g board
  stands_first r board place p is are count pair size shows = subst (λ (r : Run). Stands r new g board) (sym is) (record {
    place = word_stays most old new place grows are;
    place_bits = count;
    plies = All-nil (IsPly g new);
    pairs = All-push (IsPair new) [] p (All-nil (IsPair new)) pair;
    size = size;
    follow = λ a. shows a ∙ ap (shown g board) (sym (named_place_kept g most old new grows a place are));
  })

  -- a ply more, and its pair
  pub stands_more : (r n : Run) (board : Board) (s : Ply) (p last : Pair) → n ≡ record r { plies = r.plies ++ s ∷ []; pairs = r.pairs ++ p ∷ [] } → slice_get r.pairs (length r.plies) ≡ Some last
      → AreWires old s.code → length s.code ≡ code_length (shape_of g s.side) → IsPair new p
      → ((a : Assignment) → mark_of new p a ≡ stepped g s.side (named g old a s) (place_named g old a r.place) (mark_of old last a))
      → Stands r old g board → Stands n new g board
  stands_more r n board s p last is found are count pair shows h =
      let kept = stands_kept g most old new grows r board h in
      let from : get_or r.pairs (length r.plies) last ≡ last = get_or_from_slice_get r.pairs (length r.plies) last last found in
      let is_last = found_pair old r.pairs (length r.plies) last h.pairs found in
      subst (λ (r : Run). Stands r new g board) (sym is) (record {
        place = kept.place;
        place_bits = kept.place_bits;
        plies = All-push (IsPly g new) r.plies s kept.plies (record { wires = word_stays most old new s.code grows are; bits = count });
        pairs = All-push (IsPair new) r.pairs p kept.pairs pair;
        size = kept.size;
        follow = λ a. follow_more g new a (place_named g new a r.place) board r.plies r.pairs s p last kept.size (kept.follow a)
            (shows a
            ∙ ap₂ (λ m place. stepped g s.side m place (mark_of old last a)) (sym (named_kept g most old new grows a s are)) (sym (named_place_kept g most old new grows a r.place h.place))
            ∙ ap (stepped g s.side (named g new a s) (place_named g new a r.place)) (sym (mark_kept most old new last a grows is_last) ∙ ap (λ q. mark_of new q a) (sym from)));
      })

-- ---- what contracts see

abbrev pub run_of : List Wire → Pair → List Step → Run
run_of place first steps = record { place = place; plies = map ply_of steps; pairs = first ∷ map pair_of steps }

pub added : (place : List Wire) (first : Pair) (xs ys : List Step) (x : Step) (s : Ply) (p : Pair) (r : Run) → run_of place first xs ≡ r → ys ≡ xs ++ x ∷ [] → ply_of x ≡ s → pair_of x ≡ p
    → run_of place first ys ≡ record r { plies = r.plies ++ s ∷ []; pairs = r.pairs ++ p ∷ [] }
added place first xs ys x s p r view e ply pair =
    ap (run_of place first) e
    ∙ ap₂ (λ l m. record { place = place; plies = l; pairs = first ∷ m })
    (map-append ply_of xs (x ∷ []) ∙ ap (λ t. map ply_of xs ++ t ∷ []) ply) (map-append pair_of xs (x ∷ []) ∙ ap (λ t. map pair_of xs ++ t ∷ []) pair)
    ∙ ap (λ (t : Run). record t { plies = t.plies ++ s ∷ []; pairs = t.pairs ++ p ∷ [] }) view

pub none_added : (place words : List Wire) (first : Pair) (steps : List Step) → words ≡ place → steps ≡ [] → run_of words first steps ≡ record { place = place; plies = []; pairs = first ∷ [] }
none_added place words first steps e none = ap₂ (λ w l. run_of w first l) e none
