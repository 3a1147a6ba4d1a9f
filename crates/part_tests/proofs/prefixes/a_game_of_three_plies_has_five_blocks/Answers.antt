use Rattle.std.proofs.Common.{refl, arith}
use Rattle.part_tests.proofs.prefixes.a_game_of_three_plies_has_five_blocks.Goals as goal

pub merged_blocks-requires : goal.merged_blocks-requires
merged_blocks-requires g c = (19, omega arith, rw (c.exists.ensures, c.exists-2.ensures, c.all.ensures, c.exists-3.ensures, c.exists-4.ensures, c.all-2.ensures, c.exists-5.ensures, c.all-3.ensures, c.exists-6.ensures) refl)
