-- `Set::common` meets its contract: the law on the bits of an and.
use Rattle.sets.proofs.Members.{has_and}
use Rattle.sets.proofs.Set.common.Goals as goal

pub returns : goal.returns
returns c = rw (c.self.view_is, c.other.view_is) (has_and c.args.self c.args.other)
