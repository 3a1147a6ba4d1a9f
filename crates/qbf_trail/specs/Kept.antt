-- What a trail keeps: its tables by variable, and room for all variables.
use Rattle.std.specs.Prelude.{◌≡◌, ℕ, ◌≤◌, ◌<◌, true, length, None, slice_index_or, vec_capacity}
use Rattle.bddl_model.specs.Forms.{has_number, prefix_variables}
use Rattle.qbf_form.specs.Places.{place_in}
use Rattle.qbf_trail.specs.declared.trail.Trail.TheInside.{Inside}
use Rattle.qbf_trail.specs.Entries.{Entries, AreEntries, entry_variables, value_in}

abbrev pub shown : Inside → Entries
shown t = record { prefix = t.prefix; entries = t.entries.items; level = t.level }

pub record KeepsTrail (t : Inside) : Type 0 where
  pub entries : AreEntries (shown t)
  pub values : (v : ℕ) → slice_index_or t.values.items v None ≡ value_in t.entries.items v
  pub places : (v : ℕ) → slice_index_or t.places.items v 0 ≡ place_in (entry_variables t.entries.items) v
  pub covers : (v : ℕ) → has_number (prefix_variables t.prefix) v ≡ true → (v < length t.values.items) × (v < length t.places.items)
  pub room : length t.prefix ≤ vec_capacity t.entries
