-- Demand 3 from the history alone, without the rule and without the graph: each of its conditions by a name of its own, the lines that meet
-- them, and what their last writers have done.
use Rattle.std.specs.Prelude.{ℕ, ◌<◌, ◌≡◌, Bool, true, ◌&&◌, List}
use Rattle.std.proofs.Math.Option.{Option, some}
use Rattle.sets.specs.Search.{last_below}
use Rattle.histories.specs.Earlier.{Writer}
use Rattle.histories.specs.History.{History, Counts, writes_copy, conflicting}
use Rattle.histories.specs.Source.{writer_behind}
use Rattle.histories.specs.Order.{comes_before}
use Rattle.lines.specs.Rule.{among}
use Rattle.lines.specs.Lines.{NoneTwice, stands_before, AtMost}
use Rattle.serial.specs.Run.{last_writer, run_writer}

module _ (h : History) where
  -- "conflicts on a copy keep log order"
  abbrev pub KeepsConflicts : List ℕ → Type 0
  KeepsConflicts line =
      (e f : ℕ) → e < f → Counts h e → Counts h f → conflicting h e f ≡ true → (h.transaction e ≡ h.transaction f → ⊥)
      → stands_before line (h.transaction e) (h.transaction f) ≡ true

  -- "writers of an item keep the stated write order"
  abbrev pub KeepsWriteOrder : List ℕ → Type 0
  KeepsWriteOrder line =
      (x i j : ℕ) → Writer h x i → Writer h x j → (i ≡ j → ⊥) → comes_before h x i j ≡ true → stands_before line i j ≡ true

  -- "each read has the same writer as in a run of that line on a single copy"
  abbrev pub KeepsReads : List ℕ → Type 0
  KeepsReads line = (k : ℕ) → Counts h k → h.is_read k ≡ true → h.real k ≡ true → writer_behind h k ≡ run_writer h line k

  -- "some line of all its transactions": all and only those that take part, each once; with the first condition,
  pub record InLogOrder (line : List ℕ) : Type 0 where
    pub each_once : NoneTwice line
    pub all_and_only : (t : ℕ) → among line t ≡ h.takes_part t
    pub keeps_conflicts : KeepsConflicts line

  -- with the third,
  pub record OneCopyLine (line : List ℕ) : Type 0 where
    pub in_log_order : InLogOrder line
    pub keeps_reads : KeepsReads line

  -- and with the second: what demand 3 asks of a line
  pub record SerialLine (line : List ℕ) : Type 0 where
    pub one_copy : OneCopyLine line
    pub keeps_write_order : KeepsWriteOrder line

  -- "the smallest of these in transaction numbers, read from the left"
  pub record SmallestSerial (line : List ℕ) : Type 0 where
    pub is_serial : SerialLine line
    pub smallest : (other : List ℕ) → SerialLine other → AtMost line other

  -- record e is a write on the copy c, of one that takes part; the last of them, if there is one
  abbrev pub part_writes : ℕ → ℕ → Bool
  part_writes c e = h.takes_part (h.transaction e) && writes_copy h e c

  abbrev pub last_write : ℕ → Option ℕ
  last_write c = last_below h.size (part_writes c)

  -- t made it
  pub record MadeLastWrite (t c : ℕ) : Type 0 where
    pub at : ℕ
    pub is_last : last_write c ≡ some at
    pub own : h.transaction at ≡ t

  -- "Its last writer of an item made the last write on each copy of the item that it wrote": t is the last writer of the item x, and the
  -- record d is a write of x by t
  abbrev pub LastWritesKept : List ℕ → Type 0
  LastWritesKept line =
      (x t d : ℕ) → last_writer h x line ≡ some t → Counts h d → h.is_write d ≡ true → h.transaction d ≡ t → h.item d ≡ x
      → MadeLastWrite t (h.copy d)
