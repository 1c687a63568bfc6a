-- The loop of `sort::line::place_all`: what is to be placed is what the rule places from those left.
use Rattle.std.proofs.Common.{◌-◌, length}
use Rattle.sets.specs.Bits.{numbers, has, in_row}
use Rattle.sort.proofs.PlacingLoop.{Placing}
use Rattle.sort.proofs.line.place_all.Given as goal

abbrev pub invariant-loop-t : goal.invariant-loop-t
invariant-loop-t l = Placing (in_row l.table) (has l.fn.set) l.waits l.line.items (has l.left)

abbrev pub decreases-loop-t : goal.decreases-loop-t
decreases-loop-t l = numbers - length l.line.items
