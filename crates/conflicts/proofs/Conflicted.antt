-- The table of reason 1, once a whole log is read, is that of the definition.
use Rattle.std.proofs.Common.{ℕ, List}
use Rattle.sets.specs.Bits.{Holds}
use Rattle.histories.specs.Reasons.{gives_conflict, conflict}
use Rattle.rules.specs.LogHistory.{history_of}
use Rattle.rules.specs.Record.{transactions}
use Rattle.tables.specs.Kept.{LaterRows}
use Rattle.tables.proofs.Adding.{rows_whole}

pub conflict_whole : (log : List ℕ) {table : List ℕ} → LaterRows log (gives_conflict (history_of log)) 0 table
    → Holds transactions (conflict (history_of log)) table
unfolding conflict
conflict_whole log w = rows_whole log (gives_conflict (history_of log)) w
