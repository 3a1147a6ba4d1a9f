-- What reads and writes do, and what their counts of faults say.
use Rattle.std.specs.Prelude.{ℕ, Bool, true, false, ◌≡◌, ◌+◌, ◌-◌, ◌^◌, ◌<◌, ◌≤◌, min, List, [], ◌++◌, take, Option, None, Some, MatchOption}
use Rattle.std.specs.Option.{option_map}
use Rattle.std.specs.FinMap.{get}
use Rattle.bddl_model.specs.Files.{Files}

-- a count rose, or stands at its last value
abbrev pub Rose : ℕ → ℕ → Type 0
Rose before after = after + 1 < 2 ^ 64 → before < after

-- A count of faults rises, or stands at its last value, in a call that failed, and is left by any other.
abbrev pub Counts : ℕ → ℕ → Bool → Type 0
Counts before after true = (before ≤ after) × Rose before after
Counts before after false = after ≡ before

-- a count of 64 bits, one higher, or at its last value
abbrev pub next_count : ℕ → ℕ
next_count n = min (n + 1) (2 ^ 64 - 1)

-- a count of faults behind a call, which failed or not
abbrev pub count_after : ℕ → Bool → ℕ
count_after faults true = next_count faults
count_after faults false = faults

-- a file, cut one byte past the limit
abbrev pub cut_file : Option ℕ → List ℕ → List ℕ
cut_file None bytes = bytes
cut_file (Some max) bytes = take (max + 1) bytes

-- where the files are told, this is the named one
abbrev pub Delivers : Option Files → List ℕ → Option ℕ → List ℕ → Type 0
Delivers None name max into = Unit {0}
Delivers (Some files) name max into = option_map (cut_file max) (get files name) ≡ Some into

-- where the files are told, this is a front of the named one
abbrev pub DeliversFront : Option Files → List ℕ → List ℕ → Type 0
DeliversFront None name into = Unit {0}
DeliversFront (Some files) name into =
    MatchOption (get files name) (into ≡ []) (λ file. (rest : List ℕ) × (into ++ rest ≡ file))

-- what is told of a sink that took these bytes
abbrev pub with_bytes : Option (List ℕ) → List ℕ → Option (List ℕ)
with_bytes None bytes = None
with_bytes (Some written) bytes = Some (written ++ bytes)

-- a sink took a front of these bytes
abbrev pub WithFront : Option (List ℕ) → Option (List ℕ) → List ℕ → Type 0
WithFront old new bytes = (front rest : List ℕ) × (front ++ rest ≡ bytes) × (new ≡ with_bytes old front)
