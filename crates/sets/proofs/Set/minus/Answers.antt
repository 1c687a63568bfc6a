-- `Set::minus` meets its contract: what the other has is put in first, and so turned over it is out.
use Rattle.std.proofs.Common.{bit_or}
use Rattle.std.proofs.lemmas.Nat.{or_lt, xor_lt}
use Rattle.sets.proofs.Members.{has_minus}
use Rattle.sets.proofs.Set.minus.Goals as goal

pub returns : goal.returns
returns c = rw (c.self.view_is, c.other.view_is) (has_minus c.args.self c.args.other)

pub invariant_of-result : goal.invariant_of-result
invariant_of-result c =
    let other = c.other.inside.bits in
    xor_lt 64 (bit_or c.self.inside.bits other) other (or_lt 64 c.self.inside.bits other c.self.invariant c.other.invariant) c.other.invariant
