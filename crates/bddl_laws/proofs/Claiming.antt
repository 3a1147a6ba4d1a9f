-- The blocks behind the plies: a claim serves where for each attack on it some number makes the test hold at all places.
use Rattle.std.proofs.Common.{◌≡◌, Bool, true, false, List, ◌++◌, sym, ap, ◌∙◌}
use Rattle.std.proofs.lemmas.Bool.{false≢true, false_from_ne_true}
use mathlib.Core.Path.{fun_ext}
use Rattle.bddl_model.specs.declared.formula.Quant.TheVariants.{Exists, All}
use Rattle.bddl_model.specs.declared.formula.Bound.{Bound}
use Rattle.bddl_model.specs.declared.formula.Span.{Span}
use Rattle.bddl_model.specs.Truth.{Assignment, value}
use Rattle.bddl_model.specs.Layout.{bounds}
use Rattle.bddl_model.proofs.Assignments.{SameOutside, value-append}
use Rattle.bddl_model.proofs.Blocks.{some_of_block, block_some, all_of_block, block_all}

module _ (claim attack refuting place : Span) where
  abbrev claim_bounds : List Bound
  claim_bounds = bounds Exists claim.from claim.len

  abbrev attack_bounds : List Bound
  attack_bounds = bounds All attack.from attack.len

  abbrev refuting_bounds : List Bound
  refuting_bounds = bounds Exists refuting.from refuting.len

  abbrev place_bounds : List Bound
  place_bounds = bounds All place.from place.len

  abbrev pub closing : List Bound
  closing = claim_bounds ++ (attack_bounds ++ (refuting_bounds ++ place_bounds))

  module _ (out : Assignment → Bool) where
    abbrev after_number : Assignment → Bool
    after_number = value place_bounds out

    abbrev after_attack : Assignment → Bool
    after_attack = value refuting_bounds after_number

    abbrev after_claim : Assignment → Bool
    after_claim = value attack_bounds after_attack

    in_turn : (a : Assignment) → value closing out a ≡ value claim_bounds after_claim a
    in_turn a =
        value-append claim_bounds _ out a
        ∙ ap (λ m. value claim_bounds m a) (fun_ext (λ c. value-append attack_bounds _ out c
        ∙ ap (λ m. value attack_bounds m c) (fun_ext (λ w. value-append refuting_bounds place_bounds out w))))

    -- an assignment with the claim, for each attack on it one with a number, and the test holds at each place
    abbrev pub Served : Assignment → Type 0
    Served c = (w : Assignment) → SameOutside attack_bounds c w
        → (r : Assignment) × SameOutside refuting_bounds w r × ((p : Assignment) → SameOutside place_bounds r p → out p ≡ true)

    -- an attack, against which each number fails at some place
    abbrev pub Refuted : Assignment → Type 0
    Refuted c = (w : Assignment) × SameOutside attack_bounds c w
        × ((r : Assignment) → SameOutside refuting_bounds w r → (p : Assignment) × SameOutside place_bounds r p × (out p ≡ false))

    pub some_claim_serves : (a c : Assignment) → SameOutside claim_bounds a c → Served c → value closing out a ≡ true
    some_claim_serves a c s f =
        in_turn a ∙ block_some claim.len claim.from after_claim a c s (block_all attack.len attack.from after_attack c (λ w t.
        let n = f w t in
        block_some refuting.len refuting.from after_number w n.0 n.1 (block_all place.len place.from out n.0 n.2)))

    -- no claim serves that is refuted
    refuted_fails : (a : Assignment) (c : Assignment) → SameOutside claim_bounds a c → after_claim c ≡ true → Refuted c → ⊥
    refuted_fails a c s h (w, t, f) =
        let r = some_of_block refuting.len refuting.from after_number w (all_of_block attack.len attack.from after_attack c w t h) in
        contradicts r.0 r.2 (f r.0 r.1)
      where
        contradicts : (r : Assignment) → after_number r ≡ true → (p : Assignment) × SameOutside place_bounds r p × (out p ≡ false) → ⊥
        contradicts r holds (p, same, fails) = false≢true (sym fails ∙ all_of_block place.len place.from out r p same holds)

    pub each_claim_fails : (a : Assignment) → ((c : Assignment) → SameOutside claim_bounds a c → Refuted c) → value closing out a ≡ false
    each_claim_fails a f = false_from_ne_true _ (λ h.
        let c = some_of_block claim.len claim.from after_claim a (sym (in_turn a) ∙ h) in
        refuted_fails a c.0 c.1 c.2 (f c.0 c.1))
