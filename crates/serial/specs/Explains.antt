-- What document 01's rule gives explains the history: demands 2 and 3 without bytes, and without the reasons along a cycle.
use Rattle.std.specs.Prelude.{ℕ, ◌≤◌, ◌≡◌, true, List, length}
use Rattle.sets.specs.Search.{count_below}
use Rattle.sets.specs.Paths.{Acyclic}
use Rattle.histories.specs.History.{History}
use Rattle.histories.specs.Reasons.{edge}
use Rattle.histories.specs.Chapter.{RDSG}
use Rattle.lines.specs.Rule.{LineOrCycle, line, cycle}
use Rattle.lines.specs.Lines.{stands_before, Cycle, FromLowest}
use Rattle.serial.specs.Serial.{SerialLine, SmallestSerial, LastWritesKept}

module _ (h : History) (n : ℕ) where
  -- a line, where those that take part are numbers below n
  pub record ExplainsByLine (xs : List ℕ) : Type 0 where
    -- "The line given is the smallest of these in transaction numbers, read from the left. Its last writer of an item made the last write on
    -- each copy of the item that it wrote."
    pub smallest : SmallestSerial h xs
    pub last_writes_kept : LastWritesKept h xs
    -- it keeps every edge; "The chapter's two conditions therefore hold wherever the graph has no cycle"
    pub keeps_every_edge : (i j : ℕ) → edge h i j ≡ true → stands_before xs i j ≡ true
    pub is_RDSG : RDSG h (edge h)
    pub acyclic : Acyclic (edge h)
    -- "All n transactions in the log, each once"
    pub all_of_them : length xs ≡ count_below n h.takes_part

  -- "Where no such line exists, a cycle of the graph is given"
  pub record ExplainsByCycle (xs : List ℕ) : Type 0 where
    pub is_cycle : Cycle (edge h) h.takes_part xs
    -- "It is written along the edges and starts with its lowest number."
    pub starts_lowest : FromLowest xs
    pub at_most : length xs ≤ n
    pub no_line : (other : List ℕ) → SerialLine h other → ⊥
    pub not_acyclic : Acyclic (edge h) → ⊥

  abbrev pub Explains : LineOrCycle (List ℕ) → Type 0
  Explains (line xs) = ExplainsByLine xs
  Explains (cycle xs) = ExplainsByCycle xs
