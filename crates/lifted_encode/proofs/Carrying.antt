-- Plies that carry the codes of a layout's: how many they are, that they still do in a circuit that grows, and one more of them.
use Rattle.std.proofs.Common.{◌≡◌, ℕ, zero, suc, ◌<◌, ◌+◌, List, [], ◌∷◌, ◌++◌, length, get_or, take, refl, sym, ap, subst, ◌∙◌}
use Rattle.std.proofs.lemmas.List.{take_more}
use Rattle.bddl_model.specs.declared.circuit.Wire.{Wire}
use Rattle.bddl_model.specs.declared.formula.Span.{Span}
use Rattle.bddl_model.specs.declared.game.PlyBits.{PlyBits}
use Rattle.bddl_model.specs.declared.game.Side.{Side}
use Rattle.bddl_model.specs.declared.game.Side.TheVariants.{Black, White}
use Rattle.bddl_model.specs.Circuit.{Circuit}
use Rattle.bddl_model.specs.Game.{Game, opponent}
use Rattle.bddl_model.specs.Growth.{Grows}
use Rattle.bddl_model.specs.Layout.{Sizes, sizes_of, ply_at, plies_at, end}
use Rattle.bddl_model.proofs.WireWords.{word_stays, word_kept}
use Rattle.symbol_cell.specs.Coded.{Carries, CarryCodes}
use Rattle.symbol_cell.specs.Runs.{Ply}
use Rattle.lifted_encode.specs.Followed.{CarryPlies}

pub side_of_ply : (z : Sizes) (side : Side) (v : ℕ) → (ply_at z side v).side ≡ side
side_of_ply z Black v = refl
side_of_ply z White v = refl

-- plies that carry those of the layout carry its codes
pub carry_codes : (g : Game) (depth : ℕ) (c : Circuit) (n : ℕ) (side : Side) (v : ℕ) (plies : List Ply)
    → CarryPlies c (plies_at (sizes_of g depth) n side v) plies → CarryCodes g depth c side v plies
carry_codes g depth c n side v [] h = tt
carry_codes g depth c zero side v (s ∷ plies) h = absurd h
carry_codes g depth c (suc n) side v (s ∷ plies) h = (
  h.0 ∙ side_of_ply (sizes_of g depth) side v,
  h.1,
  carry_codes g depth c n (opponent side) (end (ply_at (sizes_of g depth) side v).code) plies h.2,
)

pub carried_count : (c : Circuit) (ps : List PlyBits) (plies : List Ply) → CarryPlies c ps plies → length plies ≡ length ps
carried_count c [] [] h = refl
carried_count c [] (s ∷ plies) h = absurd h
carried_count c (p ∷ ps) [] h = absurd h
carried_count c (p ∷ ps) (s ∷ plies) h = ap suc (carried_count c ps plies h.2)

-- ---- in a circuit that grows

pub carries_stay : (most : ℕ) (old new : Circuit) (s : Span) (word : List Wire) → Grows most old new → Carries old s word → Carries new s word
carries_stay most old new s word g h = record {
  wires = word_stays most old new word g h.wires;
  bits = λ a. word_kept most old new word a g h.wires ∙ h.bits a;
}

pub carry_stays : (most : ℕ) (old new : Circuit) (ps : List PlyBits) (plies : List Ply) → Grows most old new → CarryPlies old ps plies → CarryPlies new ps plies
carry_stays most old new [] [] g h = tt
carry_stays most old new [] (s ∷ plies) g h = absurd h
carry_stays most old new (p ∷ ps) [] g h = absurd h
carry_stays most old new (p ∷ ps) (s ∷ plies) g h = (h.0, carries_stay most old new p.code s.code g h.1, carry_stays most old new ps plies g h.2)

-- ---- one more

pub carry_push : (c : Circuit) (ps : List PlyBits) (plies : List Ply) (p : PlyBits) (s : Ply)
    → CarryPlies c ps plies → s.side ≡ p.side → Carries c p.code s.code → CarryPlies c (ps ++ p ∷ []) (plies ++ s ∷ [])
carry_push c [] [] p s h same code = (same, code, tt)
carry_push c [] (t ∷ plies) p s h same code = absurd h
carry_push c (q ∷ ps) [] p s h same code = absurd h
carry_push c (q ∷ ps) (t ∷ plies) p s h same code = (h.0, h.1, carry_push c ps plies p s h.2 same code)

-- the next ply of a list
pub carry_next : (c : Circuit) (ps : List PlyBits) (i : ℕ) (plies more : List Ply) (none : PlyBits) → i < length ps → CarryPlies c (take i ps) plies
    → (s : Ply) → more ≡ plies ++ s ∷ [] → s.side ≡ (get_or ps i none).side → Carries c (get_or ps i none).code s.code → CarryPlies c (take (i + 1) ps) more
carry_next c ps i plies more none lt h s added same code =
    subst (λ l. CarryPlies c (take (i + 1) ps) l) (sym added)
    (subst (λ l. CarryPlies c l (plies ++ s ∷ [])) (sym (take_more ps i none lt)) (carry_push c (take i ps) plies (get_or ps i none) s h same code))
