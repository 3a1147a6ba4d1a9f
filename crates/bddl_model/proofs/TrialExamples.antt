-- Words and games of some numbers.
use Rattle.std.proofs.Common.{ℕ, ◌≡◌, List, [], ◌∷◌, refl}
use Rattle.rand_core.specs.Pcg32Seed.{pcg32_seed}
use Rattle.rand_core.specs.Steps.{u32_at, word_bytes}
use Rattle.rand_pcg.specs.Lcg.{state_after}
use Rattle.bddl_model.specs.Trial.{draw, large_depth, large_height, large_width, small_depth}

-- three words of 0
words_of_zero : draw 0 0 200 ∷ draw 0 1 200 ∷ draw 0 2 200 ∷ [] ≡ 107 ∷ 127 ∷ 75 ∷ []
unfolding pcg32_seed u32_at word_bytes state_after
words_of_zero = refl

-- the large game of 1 is on 16 by 16, with 7 plies, and the small one has 1
sizes_of_one : large_width 1 ∷ large_height 1 ∷ large_depth 1 ∷ small_depth 1 ∷ [] ≡ 16 ∷ 16 ∷ 7 ∷ 1 ∷ []
unfolding pcg32_seed u32_at word_bytes state_after
sizes_of_one = refl
