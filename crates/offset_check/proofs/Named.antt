-- The names of a domain that a text can spell have 1 to 32 bytes.
use Rattle.std.proofs.Common.{◌≡◌, ◌≤◌, ℕ, true, ◌&&◌, nat_le, List, [], ◌∷◌, length, get_or, arith}
use Rattle.std.specs.Prelude.{IsTrue}
use Rattle.std.specs.List.{list_all}
use Rattle.std.proofs.lemmas.Bool.{and_parts, leb-true}
use Rattle.std.proofs.lemmas.List.Sums.{AllPass-from_list_all}
use Rattle.bddl_model.specs.declared.texts.ActionText.{ActionText}
use Rattle.bddl_model.specs.declared.texts.DomainText.{DomainText}
use Rattle.bddl_model.specs.Bytes.{is_name_byte}
use Rattle.bddl_model.specs.Meanings.{is_name}
use Rattle.bddl_model.specs.Canonical.{atoms_can_be_spelled, tests_can_be_spelled, action_can_be_spelled, domain_can_be_spelled}
use Rattle.offset_check.specs.Checks.{AreNamed}

name_fits : (name : List ℕ) → is_name name ≡ true → (1 ≤ length name) × (length name ≤ 32)
name_fits [] h = absurd cc
name_fits (b ∷ name) h =
    let parts = and_parts _ (list_all is_name_byte (b ∷ name) && nat_le (length (b ∷ name)) 32) h in
    let short = and_parts (list_all is_name_byte (b ∷ name)) (nat_le (length (b ∷ name)) 32) parts.1 in
    (omega arith, leb-true (length (b ∷ name)) 32 short.1)

spelled_name : (a : ActionText) → action_can_be_spelled a ≡ true → (1 ≤ length a.name) × (length a.name ≤ 32)
spelled_name a h = name_fits a.name (and_parts (is_name a.name) (tests_can_be_spelled a.before && atoms_can_be_spelled a.effects) h).0

all_named : (actions : List ActionText) → list_all action_can_be_spelled actions ≡ true → AreNamed actions
all_named actions h k d within = spelled_name (get_or actions k d) (AllPass-from_list_all action_can_be_spelled actions h k d within)

pub named : (d : DomainText) → IsTrue (domain_can_be_spelled d) → AreNamed d.black × AreNamed d.white
named d h =
    let parts = and_parts (list_all action_can_be_spelled d.black) (list_all action_can_be_spelled d.white) h in
    (all_named d.black parts.0, all_named d.white parts.1)
