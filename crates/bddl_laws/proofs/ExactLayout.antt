-- A test that meets the conditions is exact under the prefix of the layout, and so is one whose value under further quantifiers behind them meets the conditions.
use Rattle.std.proofs.Common.{◌≡◌, ℕ, suc, ◌<◌, ◌+◌, ◌-◌, Bool, true, false, not, List, [], ◌++◌, length, drop, refl, sym, ap, ◌∙◌, subst, arith, append_assoc}
use Rattle.std.proofs.lemmas.List.{append-nil}
use mathlib.Core.Path.{fun_ext}
use Rattle.bddl_model.specs.declared.circuit.Wire.{Wire}
use Rattle.bddl_model.specs.declared.formula.Quant.TheVariants.{Exists, All}
use Rattle.bddl_model.specs.declared.formula.Bound.{Bound}
use Rattle.bddl_model.specs.declared.game.Side.{Side}
use Rattle.bddl_model.specs.declared.game.Side.TheVariants.{Black, White}
use Rattle.bddl_model.specs.declared.game.Move.{Move}
use Rattle.bddl_model.specs.Truth.{Assignment, value, clauses_true}
use Rattle.bddl_model.specs.Circuit.{Circuit, IsCircuit, IsWire, holds, circuit_clauses}
use Rattle.bddl_model.specs.Game.{Game, opponent}
use Rattle.bddl_model.specs.Moves.{legal}
use Rattle.bddl_model.specs.Goal.{goal}
use Rattle.bddl_model.specs.Win.{win}
use Rattle.bddl_model.specs.Setup.{Setup}
use Rattle.bddl_model.specs.Layout.{Sizes, sizes_of, ply_at, bounds, end, blocks, prefix_of}
use Rattle.bddl_model.specs.Exact.{coded_move, codes_legal, to_move, position, ply_from, next_ply, PlaysFrom, value_from, IsExact, IsExactForm}
use Rattle.bddl_model.proofs.Assignments.{value-append}
use Rattle.bddl_model.proofs.Tseitin.{compiled_value}
use Rattle.bddl_model.specs.Encoding.{layout_of, MeetsConditions, circuit_form}
use Rattle.bddl_laws.proofs.ExactGame.{plies_prefix, exact, black_illegal, sample_illegal, white_illegal}
use Rattle.bddl_laws.proofs.Played.{ply_end_is_later, plies_end_is_later}
use Rattle.bddl_laws.proofs.PlayedClaims.{Carried, read, served, claims}
use Rattle.bddl_laws.proofs.LayoutPrefix.{closing_prefix, layout_prefix, plies_and, drop_more, drop_ply, drop_sample, drop_plies}

module _ (s : Setup) (more : List Bound) (matrix : Assignment → Bool) (met : MeetsConditions s (value more matrix)) where
  abbrev g : Game
  g = s.game

  abbrev z : Sizes
  z = sizes_of s.game s.depth

  abbrev prefix : List Bound
  prefix = prefix_of (blocks (layout_of s)) ++ more

  abbrev behind : List Bound
  behind = closing_prefix s ++ more

  prefix_is : prefix ≡ plies_and z behind s.depth s.first 1
  prefix_is = ap (λ l. l ++ more) (layout_prefix s) ∙ append_assoc (plies_prefix z s.depth s.first 1) (closing_prefix s) more

  -- the blocks behind the plies
  behind_is : (a : Assignment) → value behind matrix a ≡ served s (value more matrix) met a
  behind_is a = value-append (closing_prefix s) more matrix a

  in_turn : (front : List Bound) (a : Assignment) → value (front ++ behind) matrix a ≡ value front (served s (value more matrix) met) a
  in_turn front a = value-append front behind matrix a ∙ ap (λ m. value front m a) (fun_ext behind_is)

  module _ (a : Assignment) (ms : List Move) (played : PlaysFrom s a ms) where
    abbrev k : ℕ
    k = length ms

    abbrev v : ℕ
    v = ply_from s k

    carried : (n : ℕ) (side : Side) → k + n ≡ s.depth → to_move s ms ≡ side → Carried s n side v (position s ms) a
    carried n side adds_up side_is = record { moves = ms; plays = played; adds_up = adds_up; side_is = side_is; from_is = refl; board_is = refl }

    -- from the next ply on
    from_ply : (n : ℕ) (side : Side) → k + n ≡ s.depth → to_move s ms ≡ side → drop (v - 1) prefix ≡ plies_and z behind n side v
    from_ply n side adds_up side_is =
        let low = plies_end_is_later z k s.first 1 in
        ap (drop (v - 1)) (prefix_is ∙ ap (λ d. plies_and z behind d s.first 1) (sym adds_up))
        ∙ drop_plies z behind k n s.first 1 (v - 1) (omega arith)
        ∙ ap (λ side. plies_and z behind n side v) side_is

    pub won : value_from prefix matrix v a ≡ win g (to_move s ms) (position s ms) (s.depth - k)
    won =
        let adds_up : k + (s.depth - k) ≡ s.depth = omega (arith, played.0) in
        ap (λ p. value p matrix a) (from_ply (s.depth - k) (to_move s ms) adds_up refl)
        ∙ in_turn (plies_prefix z (s.depth - k) (to_move s ms) v) a
        ∙ exact g z (read s) (served s (value more matrix) met) (Carried s) (claims s (value more matrix) met) (s.depth - k) (to_move s ms) v (position s ms) a (carried (s.depth - k) (to_move s ms) adds_up refl)

    -- after a code of Black, or a sample or a code of White
    value_is : (front : List Bound) (w u : ℕ) → drop (w - 1) prefix ≡ front ++ behind → w ≡ u → value_from prefix matrix u a ≡ value front (served s (value more matrix) met) a
    value_is front w u e same = ap (λ i. value_from prefix matrix i a) (sym same) ∙ ap (λ p. value p matrix a) e ∙ in_turn front a

    module _ (n : ℕ) (adds_up : k + suc n ≡ s.depth) where
      behind_ply : (side : Side) → to_move s ms ≡ side → drop (end (ply_at z side v).code - 1) prefix ≡ plies_and z behind n (opponent side) (end (ply_at z side v).code)
      behind_ply side side_is =
          let next = end (ply_at z side v).code in
          let low = plies_end_is_later z k s.first 1 in
          let later = ply_end_is_later z side v in
          let split : next - 1 ≡ (v - 1) + (next - v) = omega arith in
          ap (λ i. drop i prefix) split
          ∙ drop_more (v - 1) (next - v) prefix
          ∙ ap (drop (next - v)) (from_ply (suc n) side adds_up side_is)
          ∙ drop_ply z behind n side v (next - v) (omega arith)

      behind_sample : to_move s ms ≡ White → drop (v + z.white_code - 1) prefix ≡ bounds All (v + z.white_code) z.white_code ++ plies_and z behind n Black (v + z.white_code + z.white_code)
      behind_sample side_is =
          let low = plies_end_is_later z k s.first 1 in
          let split : v + z.white_code - 1 ≡ (v - 1) + z.white_code = omega arith in
          ap (λ i. drop i prefix) split
          ∙ drop_more (v - 1) z.white_code prefix
          ∙ ap (drop z.white_code) (from_ply (suc n) White adds_up side_is)
          ∙ drop_sample z behind n v

      next_is : (side : Side) → to_move s ms ≡ side → next_ply s ms ≡ ply_at z side v
      next_is side side_is = ap (λ x. ply_at z x v) side_is

      black_loses : to_move s ms ≡ Black → goal g (position s ms) Black ≡ false → codes_legal g (position s ms) Black a (next_ply s ms).code ≡ false
          → value_from prefix matrix (end (next_ply s ms).code) a ≡ false
      black_loses side_is gb illegal =
          value_is (plies_prefix z n White (v + z.black_code)) (v + z.black_code) _ (behind_ply Black side_is) (sym (ap (λ p. end p.code) (next_is Black side_is)))
          ∙ black_illegal g z (read s) (served s (value more matrix) met) (Carried s) (claims s (value more matrix) met) n v (position s ms) a (carried (suc n) Black adds_up side_is) gb
          (sym (ap (λ p. legal g (position s ms) Black (coded_move g Black a p.code)) (next_is Black side_is)) ∙ illegal)

      sample_loses : to_move s ms ≡ White → goal g (position s ms) Black ≡ false → codes_legal g (position s ms) White a (next_ply s ms).sample ≡ false
          → value_from prefix matrix (end (next_ply s ms).sample) a ≡ false
      sample_loses side_is gb illegal =
          let w = z.white_code in
          value_is (bounds All (v + w) w ++ plies_prefix z n Black (v + w + w)) (v + w) _
          (behind_sample side_is ∙ sym (append_assoc (bounds All (v + w) w) (plies_prefix z n Black (v + w + w)) behind))
          (sym (ap (λ p. end p.sample) (next_is White side_is)))
          ∙ value-append (bounds All (v + w) w) (plies_prefix z n Black (v + w + w)) (served s (value more matrix) met) a
          ∙ sample_illegal g z (read s) (served s (value more matrix) met) (Carried s) (claims s (value more matrix) met) n v (position s ms) a (carried (suc n) White adds_up side_is) gb
          (sym (ap (λ p. legal g (position s ms) White (coded_move g White a p.sample)) (next_is White side_is)) ∙ illegal)

      code_wins : to_move s ms ≡ White → goal g (position s ms) Black ≡ false
          → codes_legal g (position s ms) White a (next_ply s ms).sample ≡ true → codes_legal g (position s ms) White a (next_ply s ms).code ≡ false
          → value_from prefix matrix (end (next_ply s ms).code) a ≡ not (goal g (position s ms) White)
      code_wins side_is gb sample illegal =
          let w = z.white_code in
          value_is (plies_prefix z n Black (v + w + w)) (v + w + w) _ (behind_ply White side_is) (sym (ap (λ p. end p.code) (next_is White side_is)))
          ∙ white_illegal g z (read s) (served s (value more matrix) met) (Carried s) (claims s (value more matrix) met) n v (position s ms) a (carried (suc n) White adds_up side_is) gb
          (sym (ap (λ p. legal g (position s ms) White (coded_move g White a p.sample)) (next_is White side_is)) ∙ sample)
          (sym (ap (λ p. legal g (position s ms) White (coded_move g White a p.code)) (next_is White side_is)) ∙ illegal)

  one_left : (k depth : ℕ) → k < depth → k + suc (depth - suc k) ≡ depth
  one_left k depth lt = omega arith

  pub exact_with : IsExact prefix matrix s
  exact_with = record {
    won = λ a ms played. won a ms played;
    black_illegal = λ a ms played on side illegal. black_loses a ms played (s.depth - suc (length ms)) (one_left (length ms) s.depth on.0) side on.1 illegal;
    sample_illegal = λ a ms played on side illegal. sample_loses a ms played (s.depth - suc (length ms)) (one_left (length ms) s.depth on.0) side on.1 illegal;
    white_illegal = λ a ms played on side sample illegal. code_wins a ms played (s.depth - suc (length ms)) (one_left (length ms) s.depth on.0) side on.1 sample illegal;
  }

-- with nothing behind
pub exact_alone : (s : Setup) (out : Assignment → Bool) → MeetsConditions s out → IsExact (prefix_of (blocks (layout_of s))) out s
exact_alone s out met = subst (λ p. IsExact p out s) (append-nil (prefix_of (blocks (layout_of s)))) (exact_with s [] out met)

-- ---- a circuit

meets_as : (s : Setup) (out other : Assignment → Bool) → ((a : Assignment) → other a ≡ out a) → MeetsConditions s out → MeetsConditions s other
meets_as s out other same met = record { marks = met.marks; are_shown = met.are_shown; tells = λ a. same a ∙ met.tells a }

pub exact_form : (s : Setup) (c : Circuit) (out : Wire) → IsCircuit c → IsWire c out → c.inputs ≡ (layout_of s).inputs → MeetsConditions s (holds c out) → IsExactForm (circuit_form s c out) s
exact_form s c out good wire inputs met = (
  (suc (length c.gates), ap (λ v. prefix_of (blocks (layout_of s)) ++ bounds Exists v (suc (length c.gates))) (let e : suc c.inputs ≡ (layout_of s).inputs + 1 = omega (arith, inputs) in e)),
  exact_with s gates (clauses_true (circuit_clauses c out)) (meets_as s (holds c out) (value gates (clauses_true (circuit_clauses c out))) (λ a. compiled_value [] c out a good wire) met),
)
  where
    gates : List Bound
    gates = bounds Exists (suc c.inputs) (suc (length c.gates))
