-- Calls of a shelf that are to fail.
use Rattle.std.proofs.Common.{ℕ, ◌≡◌, ◌+◌, ◌≤◌, List, [], ◌∷◌, ◌++◌, Option, None, Some, Result, Ok, Err, refl, arith, true, false}
use Rattle.std.specs.Prelude.{◌==◌, All, is_none, MatchOption, OnErr}
use Rattle.std.specs.List.{list_any}
use Rattle.std.specs.FinMap.{get}
use Rattle.std.proofs.lemmas.Bool.{ne_eqb}
use Rattle.std.proofs.lemmas.List.Elements.{All-head, All-tail}
use Rattle.io_edge.specs.Fakes.{StoredFiles, read_fails}

none_named : (failing : List ℕ) (calls : ℕ) → All (λ call. call ≤ calls) failing → list_any (λ call. call == calls + 1) failing ≡ false
none_named [] calls past = refl
none_named (f ∷ fs) calls past =
    let here = All-head (λ call. call ≤ calls) f fs past in
    rw (ne_eqb f (calls + 1) (λ e. omega arith)) (none_named fs calls (All-tail (λ call. call ≤ calls) f fs past))

none_found : (found : Option (List ℕ)) → is_none found ≡ true → found ≡ None
none_found None e = refl
none_found (Some x) e = cc

-- a calm shelf fails only for a file that isn't held
pub calm_misses : (shelf : StoredFiles) (name : List ℕ) → All (λ call. call ≤ shelf.calls) shelf.failing → read_fails shelf name ≡ true → get shelf.files name ≡ None
calm_misses shelf name past fails =
    none_found (get shelf.files name) (rw (none_named shelf.failing shelf.calls past) at fails)

-- nothing is a front of any file
pub nothing_delivered : {T E : Type 0} (r : Result T E) (found : Option (List ℕ)) (into : List ℕ) → into ≡ [] → OnErr r (MatchOption found (into ≡ []) (λ file. (rest : List ℕ) × (into ++ rest ≡ file)))
nothing_delivered (Ok x) found into e = tt
nothing_delivered (Err x) None into e = e
nothing_delivered (Err x) (Some file) into e = (file, rw e refl)
