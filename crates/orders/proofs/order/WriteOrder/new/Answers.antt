-- `WriteOrder::new` meets its contract: no record stands at the end of a log or past it.
use Rattle.histories.specs.History.{writes_item}
use Rattle.rules.specs.LogHistory.{history_of}
use Rattle.rules.specs.Record.{transactions, items}
use Rattle.orders.specs.Kept.{is_earlier_commit}
use Rattle.tables.proofs.Adding.{empty_table, later_start, rows_start}
use Rattle.orders.proofs.KeptOrders.{commits_start}
use Rattle.orders.proofs.order.WriteOrder.new.Goals as goal

pub returns : goal.returns
returns c = λ log. record {
  writers = later_start log (writes_item (history_of log)) items (empty_table items);
  commits = commits_start log;
  orders = rows_start log (is_earlier_commit log) (empty_table transactions);
}
