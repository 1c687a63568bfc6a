-- `Set::union` meets its contract: the law on the bits of an or.
use Rattle.std.proofs.lemmas.Nat.{or_lt}
use Rattle.sets.proofs.Members.{has_or}
use Rattle.sets.proofs.Set.union.Goals as goal

pub returns : goal.returns
returns c = rw (c.self.view_is, c.other.view_is) (has_or c.args.self c.args.other)

pub invariant_of-result : goal.invariant_of-result
invariant_of-result c = or_lt 64 c.self.inside.bits c.other.inside.bits c.self.invariant c.other.invariant
