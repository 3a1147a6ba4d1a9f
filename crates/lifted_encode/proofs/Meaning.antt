-- The output of the circuit meets the conditions of the encoding.
use Rattle.std.proofs.Common.{◌≡◌, ℕ, ◌≤◌, ◌+◌, false, List, length, get_or, ap, subst, ◌∙◌, arith}
use Rattle.std.proofs.lemmas.Option.{slice_get-get_or}
use Rattle.bddl_model.specs.declared.circuit.Wire.{Wire}
use Rattle.bddl_model.specs.declared.game.Move.{Move}
use Rattle.bddl_model.specs.Truth.{Assignment}
use Rattle.bddl_model.specs.Circuit.{Circuit, holds}
use Rattle.bddl_model.specs.Encoding.{AreCoded, MeetsConditions, shown, cell_in, layout_of, place_read}
use Rattle.bddl_model.specs.Exact.{position}
use Rattle.bddl_model.specs.Layout.{Inputs, anchor_bits}
use Rattle.bddl_model.specs.Setup.{Setup}
use Rattle.symbol_cell.specs.declared.pair.Pair.{Pair}
use Rattle.symbol_cell.specs.Coded.{Carries, CarriesLayout}
use Rattle.symbol_cell.specs.Pairs.{mark_of}
use Rattle.symbol_cell.specs.Runs.{Run, Stands, place_named}
use Rattle.symbol_cell.proofs.Carried.{marks_shown}
use Rattle.lifted_encode.specs.Followed.{CarryPlies}
use Rattle.lifted_encode.specs.Joined.{conditions}
use Rattle.lifted_encode.specs.Telling.{mark_in, marks_of}
use Rattle.lifted_encode.proofs.Carrying.{carry_codes, carried_count}
use Rattle.lifted_encode.proofs.Reading.{carried_cell}
use Rattle.lifted_encode.proofs.Told.{all_told}

module _ (s : Setup) (l : Inputs) (r : Run) (c : Circuit) (laid : l ≡ layout_of s) (place : Carries c l.place r.place) (plies : CarryPlies c l.plies r.plies) where
  carries_layout : CarriesLayout s c r
  carries_layout = record {
    place = subst (λ (t : Inputs). Carries c t.place r.place) laid place;
    plies = carry_codes s.game s.depth c s.depth s.first 1 r.plies (subst (λ (t : Inputs). CarryPlies c t.plies r.plies) laid plies);
  }

  -- a ply for each of the depth
  pub counted : length l.plies ≡ s.depth → length r.plies ≡ s.depth
  counted count = carried_count c l.plies r.plies plies ∙ count

  place_is : l.place.len ≡ anchor_bits s.game → (a : Assignment) → place_named s.game c a r.place ≡ place_read s a
  place_is len a = carried_cell s.game c l.place r.place a place len ∙ ap (λ (t : Inputs). cell_in s.game a t.place) laid

  module _ (stands : Stands r c s.game s.board) (moments : length r.pairs ≡ length r.plies + 1) (count : length l.plies ≡ s.depth) where
    mark_there : (a : Assignment) (i : ℕ) (d : Pair) → i ≤ s.depth → marks_of c r a i ≡ mark_of c (get_or r.pairs i d) a
    mark_there a i d le = ap (mark_in c a) (slice_get-get_or r.pairs i d (let plies = counted count in omega (arith, moments, plies)))

    marks_are_shown : (a : Assignment) (ms : List Move) → length ms ≤ s.depth → AreCoded s.game s.depth a s.first s.board 1 ms
        → marks_of c r a (length ms) ≡ shown s.game (position s ms) (place_read s a)
    marks_are_shown a ms le coded =
        let none : Pair = record { black = record { node = record { 0 = 0 }; negated = false }; white = record { node = record { 0 = 0 }; negated = false } } in
        mark_there a (length ms) none le
        ∙ marks_shown s c r a ms none stands carries_layout (let plies = counted count in omega (arith, plies)) coded

    pub meets : (out : Wire) (e : Circuit) → l.place.len ≡ anchor_bits s.game
        → ((a : Assignment) → holds e out a ≡ conditions s.game s.depth l a (place_named s.game c a r.place) (marks_of c r a))
        → MeetsConditions s (holds e out)
    meets out e len value = record {
      marks = λ a. marks_of c r a;
      are_shown = marks_are_shown;
      tells = λ a. value a ∙ all_told s l a (marks_of c r a) (place_named s.game c a r.place) laid (place_is len a);
    }
