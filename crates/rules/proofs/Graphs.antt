-- The set and the table of the graph of a log within the limits: they hold just the transactions that take part and just the edges, and are
-- the only ones that do.
use Rattle.std.proofs.Common.{ℕ, ◌≡◌, List}
use Rattle.sets.specs.Bits.{has, Holds}
use Rattle.sets.proofs.Tables.{has_all, only_set, holds_table, holds_once}
use Rattle.histories.specs.Reasons.{edge}
use Rattle.histories.proofs.Edges.{edge_two}
use Rattle.rules.specs.Record.{transactions}
use Rattle.rules.specs.LogHistory.{in_log, history_of}
use Rattle.rules.specs.Questions.{members, edge_table}
use Rattle.rules.specs.Passes.{InLimits}
use Rattle.rules.proofs.PassedLogs.{in_log_low}

module _ (log : List ℕ) (limits : InLimits log) where
  -- THEOREM: bit t of the set is 1 exactly for the transactions in the log ..
  pub members_hold : (t : ℕ) → has (members log) t ≡ in_log log t
  unfolding members
  members_hold = has_all transactions (in_log log) (in_log_low log limits)

  pub only_members : (set : ℕ) → ((t : ℕ) → has set t ≡ in_log log t) → set ≡ members log
  unfolding members
  only_members set h = only_set transactions set (in_log log) (in_log_low log limits) h

  -- .. and bit j of number i of the table exactly for an edge from i to j
  pub edges_hold : Holds transactions (edge (history_of log)) (edge_table log)
  unfolding edge_table
  edges_hold =
      holds_table transactions (edge (history_of log))
      (λ i j h. let w = edge_two (history_of log) i j h in (in_log_low log limits i w.from_part, in_log_low log limits j w.to_part))

  pub only_edges : {table : List ℕ} → Holds transactions (edge (history_of log)) table → table ≡ edge_table log
  only_edges w = holds_once w edges_hold
