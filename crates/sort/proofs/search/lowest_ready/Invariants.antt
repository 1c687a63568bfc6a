-- The loops of `sort::search::lowest_ready`: the inner loop looks for a predecessor of t, the outer one tries those left. Both come nearer
-- to 64.
use Rattle.std.proofs.Common.{◌-◌}
use Rattle.sets.specs.Bits.{numbers, has, in_row}
use Rattle.sort.proofs.SearchLoop.{Trying, Looking}
use Rattle.sort.proofs.search.lowest_ready.Given as goal

abbrev pub invariant-loop-s : goal.invariant-loop-s
invariant-loop-s l = Looking (in_row l.table) (has l.left) l.waits l.t l.from

abbrev pub decreases-loop-s : goal.decreases-loop-s
decreases-loop-s l = numbers - l.from

abbrev pub invariant-search : goal.invariant-search
invariant-search l = Trying (in_row l.table) (has l.left) l.waits l.tried

abbrev pub decreases-search : goal.decreases-search
decreases-search l = numbers - l.tried
