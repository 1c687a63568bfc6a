-- `Set::has` meets its contract: what a set has is read from the same bit.
use Rattle.std.proofs.Common.{refl}
use Rattle.sets.specs.Bits.{has}
use Rattle.sets.proofs.Set.has.Goals as goal

pub returns : goal.returns
unfolding has
returns c = rw c.self.view_is refl
