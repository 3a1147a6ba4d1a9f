use Rattle.std.proofs.Common.{refl, arith}
use Rattle.part_tests.proofs.prefixes.neighbours_of_one_quantifier_become_one_block.Goals as goal

pub merged_blocks-requires : goal.merged_blocks-requires
merged_blocks-requires g c = (8, omega arith, rw (c.all.ensures, c.exists.ensures, c.all-2.ensures, c.exists-2.ensures, c.all-3.ensures, c.all-4.ensures, c.exists-3.ensures) refl)
