-- What is kept of the write orders: the writers of each item, and the commits from record k on.
use Rattle.std.specs.Prelude.{ℕ, ◌≡◌, List, Bool, ◌&&◌, length}
use Rattle.sets.specs.Bits.{in_row, Holds}
use Rattle.sets.specs.Gathered.{SetFrom}
use Rattle.histories.specs.History.{is_by, writes_item}
use Rattle.histories.specs.Earlier.{some_after, writes}
use Rattle.histories.specs.Order.{comes_before}
use Rattle.rules.specs.LogHistory.{history_of}
use Rattle.rules.specs.Record.{transactions, items, records, is_commit}
use Rattle.tables.specs.Kept.{LaterSets, LaterRows}
use Rattle.orders.specs.declared.order.WriteOrder.{WriteOrder}

abbrev pub LaterItemWriters : List ℕ → ℕ → List ℕ → Type 0
LaterItemWriters log = LaterSets log (writes_item (history_of log)) items

-- the set of the transactions that commit at a record from k on
abbrev pub LaterCommits : List ℕ → (k commits : ℕ) → Type 0
LaterCommits log = SetFrom (λ e t. is_by (history_of log) e t && is_commit log e) (records log)

-- record d is a commit, and j commits after it
unfoldable pub is_earlier_commit : List ℕ → ℕ → ℕ → Bool
is_earlier_commit log d j = is_commit log d && some_after (history_of log) d j (is_commit log)

abbrev pub LaterOrders : List ℕ → ℕ → List ℕ → Type 0
LaterOrders log = LaterRows log (is_earlier_commit log)

-- all of it
pub record KeptFrom (log : List ℕ) (k : ℕ) (order : WriteOrder) : Type 0 where
  pub writers : LaterItemWriters log k order.writers
  pub commits : LaterCommits log k order.committed
  pub orders : LaterOrders log k order.after

-- once the whole log is read: the writers of each item, and who comes after each transaction in a write order
pub record KeptOrder (log : List ℕ) (order : WriteOrder) : Type 0 where
  pub item_writers : Holds items (λ x t. writes (history_of log) t x) order.writers
  pub whole : length order.after ≡ transactions
  pub in_order : (x s j : ℕ) → in_row order.after s j ≡ comes_before (history_of log) x s j
