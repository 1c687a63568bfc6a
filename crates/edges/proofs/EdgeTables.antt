-- Tables of edges, one for each reason, of which the whole say what the definitions say of two transactions.
use Rattle.std.proofs.Common.{ℕ, ◌≡◌, List}
use Rattle.sets.specs.Bits.{Holds}
use Rattle.sets.proofs.Tables.{holds_same}
use Rattle.histories.specs.Reasons.{edge, reason}
use Rattle.histories.proofs.Edges.{edge_plain, reason_plain}
use Rattle.rules.specs.LogHistory.{history_of}
use Rattle.rules.specs.Record.{transactions}
use Rattle.rules.proofs.PassedLogs.{all_part}
use Rattle.tables.specs.ReasonTables.{any_reason, lowest_in}
use Rattle.tables.specs.declared.reasons.ReasonTables.{ReasonTables}
use Rattle.edges.specs.ByReason.{HoldsEdges}

-- Every transaction of a record takes part in the history of a log, so the code need not ask who does.
module _ (log : List ℕ) (t : ReasonTables) (w : HoldsEdges log t) where
  pub lowest_whole : (i j : ℕ) → lowest_in t.by_conflict t.by_order t.by_read i j ≡ reason (history_of log) i j
  lowest_whole i j = rw (w.conflict_holds.said i j, w.order_holds.said i j, w.read_holds.said i j) (reason_plain (history_of log) i j (all_part log))

  pub joined_whole : {table : List ℕ} → Holds transactions (any_reason t.by_conflict t.by_order t.by_read) table → Holds transactions (edge (history_of log)) table
  joined_whole v =
      holds_same v (λ i j. rw (w.conflict_holds.said i j, w.order_holds.said i j, w.read_holds.said i j) (edge_plain (history_of log) i j (all_part log)))
