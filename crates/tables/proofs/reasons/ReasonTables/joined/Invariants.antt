-- `ReasonTables::joined` meets its contract. The invariant: the first i rows are joined.
use Rattle.std.proofs.Common.{◌≤◌}
use Rattle.sets.proofs.Tables.{RowsBelow}
use Rattle.rules.specs.Record.{transactions}
use Rattle.tables.specs.ReasonTables.{any_reason}
use Rattle.tables.proofs.reasons.ReasonTables.joined.Given as goal

abbrev pub invariant-loop-i : goal.invariant-loop-i
invariant-loop-i l = (l.i ≤ transactions) × RowsBelow transactions (any_reason l.self.by_conflict l.self.by_order l.self.by_read) l.i l.rows
