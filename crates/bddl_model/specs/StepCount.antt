-- Steps that were taken, of those that may be.
use Rattle.std.specs.Prelude.{ℕ}

pub record StepCount : Type 0 where
  pub used : ℕ
  pub budget : ℕ
