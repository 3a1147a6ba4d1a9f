use Rattle.std.proofs.Common.{◌≡◌, ◌+◌, ◌-◌, ◌&&◌, suc, Some, Ok, rules, refl, sym, ap, ◌∙◌, subst, arith}
use Rattle.std.proofs.lemmas.Bool.{false≢true}
use Rattle.bddl_model.specs.Circuit.{Circuit, IsWire, holds}
use Rattle.bddl_model.specs.Growth.{HasRoom, Grows}
use Rattle.circuit_dag.specs.Gates.{gate_of, gate_at, wire_of, Shares}
use Rattle.circuit_dag.proofs.Places.{at_place, standing_found, standing_needed}
use Rattle.circuit_dag.proofs.Inserted.{Inserted, inserted, AfterGate, after_gate}
use Rattle.circuit_dag.proofs.dag.Dag.and.Goals as goal

-- the circuit as it was, by its fields
abbrev before : goal.In_ok-place → Circuit
before c = record { inputs = c.self.inside.inputs; gates = c.self.inside.gates.keys }

put : (c : goal.In_ok-place) → Inserted c.self.inside.gates.keys (gate_of c.args.left c.args.right) c.insert_full.new.self.keys c.in_ok-place.place
put c =
    let stored = c.in_ok-place.ensures.stored in
    subst (λ g. Inserted c.self.inside.gates.keys g c.insert_full.new.self.keys c.in_ok-place.place) c.gate_of.ensures
    (inserted c.self.inside.gates.keys c.gate_of.result c.insert_full.new.self.keys c.in_ok-place.place stored.0 c.in_ok-place.ensures.keys stored.1 stored.2 c.in_ok-place.ensures.within)

after : (c : goal.In_ok-place) → AfterGate (before c) c.args.left c.args.right c.insert_full.new.self.keys c.in_ok-place.place
after c =
    after_gate (before c) c.args.left c.args.right c.insert_full.new.self.keys c.in_ok-place.place (sym c.in_default.ensures.none) c.self.invariant
    (subst (λ v. IsWire v c.args.left) (sym c.self.view_is) c.requires.left)
    (subst (λ v. IsWire v c.args.right) (sym c.self.view_is) c.requires.right)
    (subst (λ v. HasRoom v 1) (sym c.self.view_is) c.requires.room)
    c.in_ok-place.ensures.unique (put c)

-- the node of the place
node_is : (c : goal.In_ok-place) → 1 + c.self.inside.inputs + c.in_ok-place.place ≡ suc c.self.inside.inputs + c.in_ok-place.place
node_is c = omega arith

pub invariant_of-self-2 : goal.invariant_of-self-2
invariant_of-self-2 c = (after c).shared

pub returns-clause-made : goal.returns-clause-made
returns-clause-made c = record {
  wire = search rules;
  value = λ a. (after c).value _ a (node_is c) refl ∙ ap (λ v. holds v c.args.left a && holds v c.args.right a) c.self.view_is;
  grows = subst (λ v. Grows 1 v (record { inputs = c.self.inside.inputs; gates = c.insert_full.new.self.keys })) c.self.view_is (after c).grows;
}

-- where the wires need no gate, no node is their gate
pub returns-in-Some-clause-shared : goal.returns-in-Some-clause-shared
unfolding Shares
returns-in-Some-clause-shared c = (
  (λ _. (refl, refl)),
  (λ n h. absurd (false≢true (c.in-Some.ensures.none ∙ standing_needed c.args.left c.args.right _ n c.self.invariant (rw (sym c.self.view_is) at h)))),
  (λ h _. absurd (false≢true (c.in-Some.ensures.none ∙ h))),
)

-- a gate that stands there is found without memory
pub returns-in_err-place-clause-shared : goal.returns-in_err-place-clause-shared
unfolding Shares
returns-in_err-place-clause-shared c = (
  (λ h. absurd (false≢true (sym (c.in_default.ensures.none ∙ h)))),
  (λ n h.
      let there = at_place _ n (gate_of c.args.left c.args.right) (rw (sym c.self.view_is) at h) in
      absurd (false≢true (sym (rw c.gate_of.ensures at c.in_err-place.ensures.absent) ∙ standing_found c.self.inside.gates.keys (n - suc c.self.inside.inputs) (gate_of c.args.left c.args.right) there.1))),
  search rules,
)

pub returns-clause-shared : goal.returns-clause-shared
unfolding Shares
returns-clause-shared c = (
  (λ h. absurd (false≢true (sym (c.in_default.ensures.none ∙ h)))),
  (λ n h.
      let known = (after c).known n (rw (sym c.self.view_is) at h) in
      (ap (λ m. Ok (wire_of m)) (node_is c ∙ known.0), ap (λ gates. record { inputs = c.self.inside.inputs; gates = gates }) known.1 ∙ c.self.view_is)),
  (λ _ none.
      let fresh = (after c).fresh (λ n h. none n (subst (λ v. gate_at v n ≡ Some (gate_of c.args.left c.args.right)) c.self.view_is h)) in
      rw (sym c.self.view_is) (ap wire_of (node_is c ∙ ap (λ i. suc c.self.inside.inputs + i) fresh.0), ap (λ gates. record { inputs = c.self.inside.inputs; gates = gates }) fresh.1)),
)
