-- `format::record::Copy::number` meets its contract: the code is the definition, and an item and a site within their limits keep the
-- number within its own.
use Rattle.std.proofs.Common.{arith, refl}
use Rattle.rules.specs.Record.{copy_number}
use Rattle.format.proofs.record.Copy.number.Goals as goal

pub returns : goal.returns
unfolding copy_number
returns c = rw (c.from.ensures, c.from-2.ensures) (refl, omega arith)
