-- What is kept of the write orders, from record k + 1 down to record k, and once the whole log is read: the writers of each item, who comes
-- after whom, and the transactions in the log, each of which commits.
use Rattle.std.proofs.Common.{ℕ, ◌+◌, ◌<◌, ◌≡◌, refl, sym, ◌∙◌, ap, List, Bool, true, false, ◌&&◌, ◌||◌, eqb}
use Rattle.sets.specs.Search.{some_from}
use Rattle.sets.specs.Bits.{has, Holds}
use Rattle.sets.proofs.Truth.{same_truth}
use Rattle.sets.proofs.Gathered.{set_none_from, set_from_more, set_from_stays, set_all_from}
use Rattle.histories.specs.History.{is_by, writes_item}
use Rattle.histories.specs.Earlier.{some_before, some_of, some_after, wrote_item, writes}
use Rattle.histories.specs.Reasons.{gives_write_order, gives_read_before, write_order, read_before}
use Rattle.histories.proofs.OfTransactions.{own_added, none_added, before_found, before_hit, first_of_found}
use Rattle.histories.proofs.Orders.{order_by_commits}
use Rattle.rules.specs.LogHistory.{in_log, history_of}
use Rattle.rules.specs.Record.{transactions, items, transaction, records, is_commit}
use Rattle.rules.specs.Passes.{Passes}
use Rattle.rules.proofs.PassedLogs.{in_log_hit}
use Rattle.tables.specs.Kept.{LaterRows}
use Rattle.tables.proofs.Adding.{sets_whole, rows_whole}
use Rattle.orders.specs.declared.order.WriteOrder.{WriteOrder}
use Rattle.orders.specs.Kept.{LaterItemWriters, LaterCommits, is_earlier_commit, LaterOrders, KeptOrder}

module _ (log : List ℕ) where
  abbrev says_commit : ℕ → ℕ → Bool
  says_commit e t = is_by (history_of log) e t && is_commit log e

  pub commits_start : LaterCommits log (records log) 0
  commits_start = set_none_from says_commit (records log)

  module _ (k : ℕ) (l : k < records log) {later : ℕ} (w : LaterCommits log (k + 1) later) where
    pub commits_add : (t v : ℕ) → is_commit log k ≡ true → t ≡ transaction log k → ((j : ℕ) → has v j ≡ (has later j || eqb t j)) → LaterCommits log k v
    commits_add t v e q h = set_from_more says_commit (records log) k l w v (own_added (history_of log) k (is_commit log k) t v later e q h)

    pub commits_stay : is_commit log k ≡ false → LaterCommits log k later
    commits_stay e = set_from_stays says_commit (records log) k l w (none_added (history_of log) k (is_commit log k) e)

  -- a commit stands before all that are kept, and no other record stands before a commit
  pub earlier_commit_kept : (k later j : ℕ) → LaterCommits log (k + 1) later → is_commit log k ≡ true → has later j ≡ is_earlier_commit log k j
  unfolding is_earlier_commit some_after
  earlier_commit_kept k later j w e = w.said j ∙ ap (λ (b : Bool). b && some_from (k + 1) (records log) (λ e. says_commit e j)) (sym e)

  pub no_earlier_commit : (k j : ℕ) → is_commit log k ≡ false → is_earlier_commit log k j ≡ false
  unfolding is_earlier_commit
  no_earlier_commit k j e = rw e refl

  -- once the whole log is read
  items_whole : {writers : List ℕ} → LaterItemWriters log 0 writers → Holds items (λ x t. writes (history_of log) t x) writers
  unfolding writes wrote_item some_of
  items_whole w = sets_whole log (writes_item (history_of log)) items w

  module _ (sound : Passes log) where
    -- who is in the log commits
    pub members_whole : {committed : ℕ} → LaterCommits log 0 committed → (t : ℕ) → has committed t ≡ in_log log t
    unfolding some_before
    members_whole w t =
        (set_all_from says_commit (records log) w).said t
        ∙ same_truth (some_before (history_of log) (records log) t (is_commit log)) (in_log log t) ahead back
      where
        ahead : some_before (history_of log) (records log) t (is_commit log) ≡ true → in_log log t ≡ true
        ahead b = let v = before_found (history_of log) t (is_commit log) (records log) b in in_log_hit log t v.at v.before v.own

        back : in_log log t ≡ true → some_before (history_of log) (records log) t (is_commit log) ≡ true
        back b =
            let c = sound.sound.commits t b in
            let v = first_of_found (history_of log) t (is_commit log) c.at c.first in
            before_hit (history_of log) t (is_commit log) (records log) c.at v.there v.own v.passes

    -- .. and nobody does twice
    pub order_whole : {order : WriteOrder} → LaterItemWriters log 0 order.writers → LaterOrders log 0 order.after → KeptOrder log order
    unfolding is_earlier_commit
    order_whole v w =
        let whole = rows_whole log (is_earlier_commit log) w in
        record {
          item_writers = items_whole v;
          whole = whole.whole;
          in_order = λ x s j. whole.said s j ∙ order_by_commits (history_of log) sound.commits_once x s j;
        }

  -- the tables of reasons 2 and 3
  pub write_order_whole : {table : List ℕ} → LaterRows log (gives_write_order (history_of log)) 0 table
      → Holds transactions (write_order (history_of log)) table
  unfolding write_order
  write_order_whole w = rows_whole log (gives_write_order (history_of log)) w

  pub read_before_whole : {table : List ℕ} → LaterRows log (gives_read_before (history_of log)) 0 table
      → Holds transactions (read_before (history_of log)) table
  unfolding read_before
  read_before_whole w = rows_whole log (gives_read_before (history_of log)) w
