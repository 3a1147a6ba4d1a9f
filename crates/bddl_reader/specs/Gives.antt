-- What the code answers, beside what a reader of the list of tokens gives.
use Rattle.std.specs.Prelude.{◌≡◌, ℕ, Result, Ok, Err}
use Rattle.bddl_reader.specs.declared.stop.Stop.{Stop}
use Rattle.bddl_reader.specs.declared.stop.Stop.TheVariants.{NoMemory, Stuck}

abbrev pub Stops : {Y : Type 0} → Stop → Result Y ℕ → Type 0
Stops NoMemory read = Unit {0}
Stops (Stuck left) read = read ≡ Err left

-- the same, unless memory ran out
abbrev pub Gives : {X Y : Type 0} → (X → Y) → Result X Stop → Result Y ℕ → Type 0
Gives view (Ok x) read = read ≡ Ok (view x)
Gives view (Err stop) read = Stops stop read
