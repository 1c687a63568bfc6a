-- A law of tests that the library has not.
use Rattle.std.proofs.Common.{◌≡◌, Bool, true, arith}

-- two tests of which each holds where the other does
pub same_truth : (a b : Bool) → (a ≡ true → b ≡ true) → (b ≡ true → a ≡ true) → a ≡ b
same_truth a b f g = grind arith
