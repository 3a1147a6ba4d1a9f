-- The inputs of a layout are as many as each part needs, and stay inputs of a circuit that grows.
use Rattle.std.proofs.Common.{◌≡◌, ℕ, zero, suc, ◌+◌, ◌≤◌, List, [], ◌∷◌, length, refl, sym, subst, ap, ◌∙◌, arith}
use Rattle.std.specs.Prelude.{All}
use Rattle.std.proofs.lemmas.List.Elements.{All-nil, All-cons, All-head, All-tail}
use Rattle.bddl_model.specs.declared.formula.Span.{Span}
use Rattle.bddl_model.specs.declared.game.PlyBits.{PlyBits}
use Rattle.bddl_model.specs.declared.game.Side.{Side}
use Rattle.bddl_model.specs.declared.game.Side.TheVariants.{Black, White}
use Rattle.bddl_model.specs.declared.game.Test.{Test}
use Rattle.bddl_model.specs.Bits.{bits}
use Rattle.bddl_model.specs.Circuit.{Circuit}
use Rattle.bddl_model.specs.Exact.{own_code}
use Rattle.bddl_model.specs.Game.{Game, Action, opponent}
use Rattle.bddl_model.specs.Growth.{Grows}
use Rattle.bddl_model.specs.Layout.{Inputs, Sizes, most_preconditions, most_tests, sizes_of, ply_at, plies_at, plies_end, layout, end}
use Rattle.bddl_model.specs.Limits.{IsAction, IsLine, IsGame}
use Rattle.bddl_model.proofs.Bits.{bits_most}
use Rattle.bddl_model.proofs.Codes.{code_length_is}
use Rattle.lifted_encode.specs.Telling.{IsSpan, SpansOf, SpansFew, IsPlyOf, IsLaidFor}

-- ---- sizes

few_preconditions : (w h : ℕ) (actions : List Action) → All (IsAction w h) actions → most_preconditions actions ≤ 8
few_preconditions w h [] each = omega arith
few_preconditions w h (a ∷ more) each =
    let here = All-head (IsAction w h) a more each in
    let later = few_preconditions w h more (All-tail (IsAction w h) a more each) in
    omega (arith, here.before, later)

few_tests : (w h : ℕ) (lines : List (List Test)) → All (IsLine w h) lines → most_tests lines ≤ 16
few_tests w h [] each = omega arith
few_tests w h (l ∷ more) each =
    let here = All-head (IsLine w h) l more each in
    let later = few_tests w h more (All-tail (IsLine w h) l more each) in
    omega (arith, here.tests, later)

-- ---- plies

plies_count : (z : Sizes) (n : ℕ) (side : Side) (v : ℕ) → length (plies_at z n side v) ≡ n
plies_count z zero side v = refl
plies_count z (suc n) side v = ap suc (plies_count z n (opponent side) (end (ply_at z side v).code))

ply_ends_later : (z : Sizes) (side : Side) (v : ℕ) → v ≤ end (ply_at z side v).code
ply_ends_later z Black v = omega arith
ply_ends_later z White v = omega arith

plies_end_later : (z : Sizes) (n : ℕ) (side : Side) (v : ℕ) → v ≤ plies_end z n side v
plies_end_later z zero side v = omega arith
plies_end_later z (suc n) side v = omega (arith, ply_ends_later z side v, plies_end_later z n (opponent side) (end (ply_at z side v).code))

module _ (g : Game) (depth : ℕ) (c : Circuit) where
  ply_is_laid : (side : Side) (v : ℕ) → 1 ≤ v → end (ply_at (sizes_of g depth) side v).code ≤ c.inputs + 1 → IsPlyOf g c (ply_at (sizes_of g depth) side v)
  ply_is_laid Black v low high = record {
    own = ((low, high), sym (code_length_is g Black));
    code = ((low, high), sym (code_length_is g Black));
  }
  ply_is_laid White v low high = record {
    own = ((low, omega arith), sym (code_length_is g White));
    code = ((omega arith, high), sym (code_length_is g White));
  }

  plies_are_laid : (n : ℕ) (side : Side) (v : ℕ) → 1 ≤ v → plies_end (sizes_of g depth) n side v ≤ c.inputs + 1 → All (IsPlyOf g c) (plies_at (sizes_of g depth) n side v)
  plies_are_laid zero side v low high = All-nil (IsPlyOf g c)
  plies_are_laid (suc n) side v low high =
      let p = ply_at (sizes_of g depth) side v in
      let here = ply_ends_later (sizes_of g depth) side v in
      let later = plies_end_later (sizes_of g depth) n (opponent side) (end p.code) in
      All-cons (IsPlyOf g c) p (plies_at (sizes_of g depth) n (opponent side) (end p.code))
      (ply_is_laid side v low (omega (arith, later, high)))
      (plies_are_laid n (opponent side) (end p.code) (omega (arith, here, low)) high)

-- ---- all parts

-- a span between the plies and the last input
within : (c : Circuit) (s : Span) (v : ℕ) → 1 ≤ v → v ≤ s.from → end s ≤ c.inputs + 1 → IsSpan c s
within c s v low from to = (omega (arith, low, from), to)

module _ (g : Game) (first : Side) (depth : ℕ) (c : Circuit) (is : IsGame g) (inputs : c.inputs ≡ (layout g first depth).inputs) where
  low : 1 ≤ plies_end (sizes_of g depth) depth first 1
  low = plies_end_later (sizes_of g depth) depth first 1

  last : end (layout g first depth).place ≡ c.inputs + 1
  last = omega (arith, low, inputs)

  few_atoms : bits (most_preconditions g.white_actions) ≤ 16
  few_atoms = let few = bits_most (most_preconditions g.white_actions) 3 (few_preconditions g.width g.height g.white_actions is.white.each_action) in omega (arith, few)

  few_refuting : bits (most_tests g.white_lines) ≤ 16
  few_refuting = let few = bits_most (most_tests g.white_lines) 4 (few_tests g.width g.height g.white_lines is.white.each_line) in omega (arith, few)

  laid_out : IsLaidFor g depth c (layout g first depth)
  laid_out = let v = plies_end (sizes_of g depth) depth first 1 in let l = layout g first depth in record {
    plies = plies_are_laid g depth c depth first 1 (omega arith) (omega (arith, last));
    count = plies_count (sizes_of g depth) depth first 1;
    kind = (within c l.kind v low (omega arith) (omega (arith, last)), refl);
    time = (within c l.time v low (omega arith) (omega (arith, last)), refl);
    line = (within c l.line v low (omega arith) (omega (arith, last)), refl);
    anchor = (within c l.anchor v low (omega arith) (omega (arith, last)), refl);
    atom = (within c l.atom v low (omega arith) (omega (arith, last)), few_atoms);
    white_line = (within c l.white_line v low (omega arith) (omega (arith, last)), refl);
    white_anchor = (within c l.white_anchor v low (omega arith) (omega (arith, last)), refl);
    white_time = (within c l.white_time v low (omega arith) (omega (arith, last)), refl);
    refuting = (within c l.refuting v low (omega arith) (omega (arith, last)), few_refuting);
    place = (within c l.place v low (omega arith) (omega (arith, last)), refl);
  }

pub layout_is_laid : (g : Game) (first : Side) (depth : ℕ) (c : Circuit) (l : Inputs) → IsGame g → l ≡ layout g first depth → c.inputs ≡ l.inputs → IsLaidFor g depth c l
layout_is_laid g first depth c l is laid inputs = subst (λ m. IsLaidFor g depth c m) (sym laid) (laid_out g first depth c is (inputs ∙ ap (λ m. m.inputs) laid))

-- ---- in a circuit that grows

module _ (most : ℕ) (g : Game) (old new : Circuit) (grows : Grows most old new) where
  span_stays : (s : Span) → IsSpan old s → IsSpan new s
  span_stays s is = (is.0, omega (arith, is.1, grows.inputs))

  spans_stay : (n : ℕ) (s : Span) → SpansOf old n s → SpansOf new n s
  spans_stay n s is = (span_stays s is.0, is.1)

  few_stay : (n : ℕ) (s : Span) → SpansFew old n s → SpansFew new n s
  few_stay n s is = (span_stays s is.0, is.1)

  ply_stays : (p : PlyBits) → IsPlyOf g old p → IsPlyOf g new p
  ply_stays p is = record { own = spans_stay _ (own_code p) is.own; code = spans_stay _ p.code is.code }

  each_stays : (plies : List PlyBits) → All (IsPlyOf g old) plies → All (IsPlyOf g new) plies
  each_stays plies are k d lt = ply_stays _ (are k d lt)

  parts_stay : (depth : ℕ) (l : Inputs) → IsLaidFor g depth old l → IsLaidFor g depth new l
  parts_stay depth l is = record {
    plies = each_stays l.plies is.plies;
    count = is.count;
    kind = spans_stay _ l.kind is.kind;
    time = spans_stay _ l.time is.time;
    line = spans_stay _ l.line is.line;
    anchor = spans_stay _ l.anchor is.anchor;
    atom = few_stay 16 l.atom is.atom;
    white_line = spans_stay _ l.white_line is.white_line;
    white_anchor = spans_stay _ l.white_anchor is.white_anchor;
    white_time = spans_stay _ l.white_time is.white_time;
    refuting = few_stay 16 l.refuting is.refuting;
    place = spans_stay _ l.place is.place;
  }

pub plies_stay : (most : ℕ) (g : Game) (old new : Circuit) (plies : List PlyBits) → Grows most old new → All (IsPlyOf g old) plies → All (IsPlyOf g new) plies
plies_stay most g old new plies grows are = each_stays most g old new grows plies are

pub laid_stays : (most : ℕ) (g : Game) (depth : ℕ) (old new : Circuit) (l : Inputs) → Grows most old new → IsLaidFor g depth old l → IsLaidFor g depth new l
laid_stays most g depth old new l grows is = parts_stay most g old new grows depth l is
