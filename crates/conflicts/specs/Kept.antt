-- What the pass for reason 1 keeps of the records from k on: for each copy the transactions that use it, and those that write it.
use Rattle.std.specs.Prelude.{ℕ, ◌*◌, List}
use Rattle.histories.specs.History.{uses_copy, writes_copy}
use Rattle.rules.specs.LogHistory.{history_of}
use Rattle.rules.specs.Record.{items, sites}
use Rattle.tables.specs.Kept.{LaterSets}
use Rattle.conflicts.specs.declared.Later.{Later}

abbrev pub LaterUsers : List ℕ → ℕ → List ℕ → Type 0
LaterUsers log = LaterSets log (uses_copy (history_of log)) (items * sites)

abbrev pub LaterWriters : List ℕ → ℕ → List ℕ → Type 0
LaterWriters log = LaterSets log (writes_copy (history_of log)) (items * sites)

-- both
pub record KeptFrom (log : List ℕ) (k : ℕ) (later : Later) : Type 0 where
  pub users : LaterUsers log k later.users
  pub writers : LaterWriters log k later.writers
