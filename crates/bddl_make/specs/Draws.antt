-- How far the words of a number were drawn.
use Rattle.std.specs.Prelude.{ℕ}
use Rattle.rand_core.specs.Steps.{steps_u32, stream_of}
use Rattle.rand_core.specs.Stream.{Stream}
use Rattle.rand_pcg.specs.Lcg.{Lcg}
use Rattle.rand_pcg.specs.Pcg.{pcg32}

pub record Drawn : Type 0 where
  pub number : ℕ
  pub count : ℕ

-- what a generator will answer from now on
abbrev pub words_from : Lcg → Stream
words_from g = stream_of (steps_u32 pcg32) g
