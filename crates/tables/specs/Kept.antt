-- Tables of sets of transactions that a pass over a log fills. The passes read the log from its end, so what is kept at record k is of the
-- records from k on.
use Rattle.std.specs.Prelude.{ℕ, List, Bool, false, ◌&&◌, eqb}
use Rattle.sets.specs.Bits.{has, Holds}
use Rattle.sets.specs.Gathered.{TableFrom, Added}
use Rattle.histories.specs.History.{is_by}
use Rattle.rules.specs.LogHistory.{history_of}
use Rattle.rules.specs.Record.{transactions, records, is_write}

-- a table in which nothing is kept yet
abbrev pub Empty : ℕ → List ℕ → Type 0
Empty wide = Holds wide (λ i j. false)

-- for each copy or item c the transactions with a record from k on that passes the test of c
abbrev pub LaterSets : List ℕ → (ℕ → ℕ → Bool) → (wide k : ℕ) → List ℕ → Type 0
LaterSets log test wide k = TableFrom wide (λ e c t. is_by (history_of log) e t && test e c) (records log) k

-- for each transaction i those j of which a record e of i, from k on, says something: that it gives an edge to j, or commits before j
abbrev pub LaterRows : List ℕ → (ℕ → ℕ → Bool) → ℕ → List ℕ → Type 0
LaterRows log says k = TableFrom transactions (λ e i j. is_by (history_of log) e i && says e j) (records log) k

-- a table to whose set at c the transaction of record k was added, where the record counts
abbrev pub AddedOwn : List ℕ → (k c : ℕ) → Bool → List ℕ → List ℕ → Type 0
AddedOwn log k c counts = Added (λ d j. is_by (history_of log) k j && (counts && eqb c d))

-- a table to whose set at c it was added where record k is a write
abbrev pub AddedWriter : List ℕ → (k c : ℕ) → List ℕ → List ℕ → Type 0
AddedWriter log k c = AddedOwn log k c (is_write log k)

-- a table to whose row of record k's transaction a set was added
abbrev pub AddedToRow : List ℕ → (k to : ℕ) → List ℕ → List ℕ → Type 0
AddedToRow log k to = Added (λ i j. is_by (history_of log) k i && has to j)
