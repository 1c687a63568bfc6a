-- `orders::reasons::order_edges` meets its contract. The invariant: the tables have the edges of the records from k on.
use Rattle.histories.specs.Reasons.{gives_write_order, gives_read_before}
use Rattle.rules.specs.LogHistory.{history_of}
use Rattle.tables.specs.Kept.{LaterRows}
use Rattle.orders.proofs.reasons.order_edges.Given as goal

abbrev pub invariant-loop-k : goal.invariant-loop-k
invariant-loop-k l = record {
  order_rows : LaterRows l.log (gives_write_order (history_of l.log)) l.k l.by_order;
  read_rows : LaterRows l.log (gives_read_before (history_of l.log)) l.k l.by_read;
}
