-- `conflicts::conflicts` meets its contract. The invariant: the table has the conflicts of the records from k on, and what is kept is
-- of these records.
use Rattle.histories.specs.Reasons.{gives_conflict}
use Rattle.rules.specs.LogHistory.{history_of}
use Rattle.tables.specs.Kept.{LaterRows}
use Rattle.conflicts.specs.Kept.{KeptFrom}
use Rattle.conflicts.proofs.conflicts.Given as goal

abbrev pub invariant-loop-k : goal.invariant-loop-k
invariant-loop-k l = record {
  rows : LaterRows l.log (gives_conflict (history_of l.log)) l.k l.table;
  kept : KeptFrom l.log l.k l.later;
}
