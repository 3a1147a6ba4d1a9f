-- The lines of a trial's summary.
use Rattle.std.specs.Prelude.{ℕ, List, ◌++◌, codes}
use Rattle.std.specs.Fmt.{decimal}
use Rattle.bddl_model.specs.Setup.{Setup}

abbrev pub large_line : Setup → List ℕ
large_line s = codes "large " ++ (decimal s.game.width ++ (codes " " ++ (decimal s.game.height ++ (codes " " ++ decimal s.depth))))

abbrev pub form_lines : ℕ → ℕ → List ℕ
form_lines inputs limit = codes "inputs " ++ (decimal inputs ++ (codes "\nlimit " ++ (decimal limit ++ codes "\ngates within limit")))

abbrev pub small_line : Setup → List ℕ → List ℕ
small_line s verdict = codes "small " ++ (decimal s.depth ++ (codes " " ++ verdict))

abbrev pub lines : List ℕ → List ℕ → List ℕ → List ℕ
lines first second third = first ++ (codes "\n" ++ (second ++ (codes "\n" ++ third)))
