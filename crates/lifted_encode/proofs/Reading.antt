-- Words that carry inputs, and what an anchor and a place name by them.
use Rattle.std.proofs.Common.{◌≡◌, ℕ, zero, suc, ◌+◌, ◌≤◌, Bool, false, List, [], ◌∷◌, length, take, drop, Result, refl, sym, ap, ◌∙◌, arith}
use Rattle.std.proofs.lemmas.List.{length-map}
use Rattle.std.proofs.lemmas.Result.{IfOk-weaker}
use Rattle.bddl_model.specs.declared.circuit.Wire.{Wire}
use Rattle.bddl_model.specs.declared.formula.Span.{Span}
use Rattle.bddl_model.specs.declared.game.Side.{Side}
use Rattle.bddl_model.specs.declared.game.Test.{Test}
use Rattle.bddl_model.specs.declared.memory.NoMemory.{NoMemory}
use Rattle.bddl_model.specs.Truth.{Assignment}
use Rattle.bddl_model.specs.Bits.{bits}
use Rattle.bddl_model.specs.Circuit.{Circuit, holds}
use Rattle.bddl_model.specs.Codes.{shape_of, code_length, spelled_move}
use Rattle.bddl_model.specs.Encoding.{number_in, cell_in}
use Rattle.bddl_model.specs.Exact.{coded_move}
use Rattle.bddl_model.specs.Game.{Game, actions}
use Rattle.bddl_model.specs.Growth.{Makes}
use Rattle.bddl_model.specs.Layout.{anchor_bits, where_lines}
use Rattle.bddl_model.specs.Limits.{IsGame}
use Rattle.bddl_model.specs.OneCell.{spelled_cell}
use Rattle.bddl_model.specs.Words.{word_bits, number_of_bits, word_value}
use Rattle.bddl_model.proofs.Bits.{bits_most}
use Rattle.bddl_model.proofs.Growth.{grows_within}
use Rattle.symbol_cell.specs.Coded.{values_at, Carries}
use Rattle.symbol_cell.specs.Steps.{move_at}
use Rattle.symbol_cell.proofs.Carried.{values_number, cell_values, move_values}
use Rattle.symbol_cell.proofs.CodeParts.{parts_named}

-- the last call, whose gates and meaning are said in other words
pub makes_as : {m n : ℕ} {a b : Circuit} {result : Result Wire NoMemory} {f g : Assignment → Bool} → Makes m a b result f → m ≤ n → ((v : Assignment) → f v ≡ g v) → Makes n a b result g
makes_as {b = b} {result = result} {f = f} made le same = record {
  wire = made.wire;
  value = IfOk-weaker result (λ w. (v : Assignment) → holds b w v ≡ f v) _ (λ w h v. h v ∙ same v) made.value;
  grows = grows_within made.grows le;
}

-- ---- carried words

values_length : (a : Assignment) (v n : ℕ) → length (values_at a v n) ≡ n
values_length a v zero = refl
values_length a v (suc n) = ap suc (values_length a (suc v) n)

pub carried_length : (c : Circuit) (s : Span) (word : List Wire) → Carries c s word → length word ≡ s.len
carried_length c s word carries =
    let a : Assignment = λ v. false in
    sym (length-map word (λ w. holds c w a)) ∙ ap length (carries.bits a) ∙ values_length a s.from s.len

-- a slice of the word, whose span has so many inputs
pub slice_length : (c : Circuit) (s t : Span) (word slice : List Wire) (n : ℕ) → slice ≡ word → Carries c s word → s ≡ t → t.len ≡ n → length slice ≡ n
slice_length c s t word slice n is carries same len = ap length is ∙ carried_length c s word carries ∙ ap (λ (u : Span). u.len) same ∙ len

pub carried_number : (c : Circuit) (s : Span) (word : List Wire) (a : Assignment) → Carries c s word → word_value c word a ≡ number_in a s
carried_number c s word a carries = ap number_of_bits (carries.bits a) ∙ values_number a s.from s.len

pub carried_cell : (g : Game) (c : Circuit) (s : Span) (word : List Wire) (a : Assignment) → Carries c s word → s.len ≡ anchor_bits g → spelled_cell (bits g.width) (word_bits c word a) ≡ cell_in g a s
carried_cell g c s word a carries len = ap (spelled_cell (bits g.width)) (carries.bits a) ∙ cell_values a s.from s.len (bits g.width) (bits g.height) len

pub few_times : (depth : ℕ) → depth ≤ 31 → bits (depth + 1) ≤ 5
few_times depth few = bits_most (depth + 1) 5 (omega arith)

pub white_times : (lines : List (List Test)) (n : ℕ) → 1 ≤ length lines → where_lines lines n ≡ n
white_times [] n some = absurd (omega arith)
white_times (l ∷ ls) n some = refl

-- ---- codes

-- the parts of a code, however they were cut
pub code_named : (g : Game) (side : Side) → IsGame g → (some : 1 ≤ length (actions g side)) (c : Circuit) (s : Span) (word action anchor : List Wire) (n x_bits : ℕ) (a : Assignment)
    → Carries c s word → s.len ≡ code_length (shape_of g side) → n ≡ bits (length (actions g side)) → action ≡ take n word → anchor ≡ drop n word → x_bits ≡ bits g.width
    → move_at (word_value c action a) (spelled_cell x_bits (word_bits c anchor a)) ≡ coded_move g side a s
code_named g side is some c s word action anchor n x_bits a carries len cut front behind columns =
    parts_named g side is some word (carried_length c s word carries ∙ len) action anchor x_bits (front ∙ ap (λ k. take k word) cut) (behind ∙ ap (λ k. drop k word) cut) columns c a
    ∙ ap (spelled_move (shape_of g side)) (carries.bits a)
    ∙ move_values g side a s some len
