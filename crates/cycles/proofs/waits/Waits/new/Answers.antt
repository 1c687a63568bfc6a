-- `cycles::waits::Waits::new` meets its contract: each entry is 0, which is below 64.
use Rattle.std.proofs.Common.{arith, refl}
use Rattle.sets.proofs.Tables.{empty_entry}
use Rattle.cycles.proofs.waits.Waits.new.Goals as goal

pub invariant_of-result : goal.invariant_of-result
invariant_of-result c = record { whole = refl; low = λ t. omega (arith, empty_entry 64 t) }

pub returns : goal.returns
returns c = empty_entry 64
