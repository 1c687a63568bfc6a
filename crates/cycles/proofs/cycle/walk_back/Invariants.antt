-- The loop of `cycles::cycle::walk_back`: the path at the end of the buffer is the rule's, and there is ever less room before it.
use Rattle.sets.specs.Bits.{numbers}
use Rattle.cycles.proofs.WalkLoop.{OnPath}
use Rattle.cycles.proofs.cycle.walk_back.Given as goal

abbrev pub invariant-loop-seen : goal.invariant-loop-seen
invariant-loop-seen l = OnPath numbers l.waits l.first l.path l.at l.seen l.again

abbrev pub decreases-loop-seen : goal.decreases-loop-seen
decreases-loop-seen l = l.at
