-- What the tables of a log's edges hold.
use Rattle.std.specs.Prelude.{ℕ, List}
use Rattle.sets.specs.Bits.{Holds}
use Rattle.histories.specs.Reasons.{conflict, write_order, read_before}
use Rattle.rules.specs.LogHistory.{history_of}
use Rattle.rules.specs.Record.{transactions}
use Rattle.tables.specs.declared.reasons.ReasonTables.{ReasonTables}

-- each has the edges of one reason
pub record HoldsEdges (log : List ℕ) (tables : ReasonTables) : Type 0 where
  pub conflict_holds : Holds transactions (conflict (history_of log)) tables.by_conflict
  pub order_holds : Holds transactions (write_order (history_of log)) tables.by_order
  pub read_holds : Holds transactions (read_before (history_of log)) tables.by_read
