-- `trial::run` meets its contract. Each log takes bytes from the front of the stack, so the walk ends. The invariant: no more logs have been
-- counted than bytes have been taken.
use Rattle.std.proofs.Common.{length, ◌+◌, ◌≤◌}
use Rattle.trial.proofs.run.Given as goal

abbrev pub invariant-logs : goal.invariant-logs
invariant-logs g l = l.k + length l.stack ≤ length l.initial.stack

abbrev pub decreases-logs : goal.decreases-logs
decreases-logs g l = length l.stack
