-- `WriteOrder::keep` meets its contract: a write writes its item; a commit stands before those that are kept, and is kept with them;
-- no other record adds anything.
use Rattle.std.proofs.Common.{sym}
use Rattle.histories.specs.History.{writes_item}
use Rattle.histories.proofs.OfTransactions.{writes_item_of}
use Rattle.rules.specs.LogHistory.{history_of}
use Rattle.rules.specs.Record.{items}
use Rattle.orders.specs.Kept.{LaterItemWriters, is_earlier_commit}
use Rattle.tables.proofs.Adding.{rows_add, rows_stay, writers_add}
use Rattle.orders.proofs.KeptOrders.{commits_add, commits_stay, earlier_commit_kept, no_earlier_commit}
use Rattle.orders.proofs.order.WriteOrder.keep.Goals as goal
use Rattle.orders.proofs.order.WriteOrder.keep.Goals.{After-add_writer}

-- a write is kept first, and the table of writers then stays as it is
writers_kept : (c : After-add_writer) → LaterItemWriters c.args.r.now.log c.args.r.now.place c.add_writer.new.table
writers_kept c =
    let log = c.args.r.now.log in
    let k = c.args.r.now.place in
    writers_add log (writes_item (history_of log)) items k c.item.ensures.within.there c.requires.writers c.item.result
    (λ d. writes_item_of (history_of log) k d c.item.ensures.value) c.add_writer.ensures

pub returns-then-is : goal.returns-then-is
returns-then-is c =
    let log = c.args.r.now.log in
    let k = c.args.r.now.place in
    let later = c.args.self.now.committed in
    let there = c.item.ensures.within.there in
    let kept = c.requires in
    let commits = sym c.if-is.ensures in
    record {
      writers = writers_kept (goal.at.returns-then-is c).After-add_writer;
      commits = commits_add log k there kept.commits c.transaction.result c.with-self.result commits c.transaction.ensures.value c.with-self.ensures;
      orders = rows_add log (is_earlier_commit log) k there kept.orders later (λ j. earlier_commit_kept log k later j kept.commits commits)
          c.add_to_row.ensures;
    }

pub returns-else-is : goal.returns-else-is
returns-else-is c =
    let log = c.args.r.now.log in
    let k = c.args.r.now.place in
    let there = c.item.ensures.within.there in
    let kept = c.requires in
    let other = sym c.if-is.ensures in
    record {
      writers = writers_kept (goal.at.returns-else-is c).After-add_writer;
      commits = commits_stay log k there kept.commits other;
      orders = rows_stay log (is_earlier_commit log) k there kept.orders (λ j. no_earlier_commit log k j other);
    }
