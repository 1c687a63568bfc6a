-- `WriteOrder::of_log` meets its contract. The invariant: what is kept is of the records from k on.
use Rattle.orders.specs.Kept.{KeptFrom}
use Rattle.orders.proofs.order.WriteOrder.of_log.Given as goal

abbrev pub invariant-loop-k : goal.invariant-loop-k
invariant-loop-k l = KeptFrom l.log l.k l.order
