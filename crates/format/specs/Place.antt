-- Where a record stands: in which log, and at which place of it.
use Rattle.std.specs.Prelude.{ℕ, List}

pub record Place : Type 0 where
  pub log : List ℕ
  pub place : ℕ
