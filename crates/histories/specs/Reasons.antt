-- The three reasons of an edge, the edges, and the lowest reason.
use Rattle.std.specs.Prelude.{ℕ, ◌<◌, ◌≡◌, Bool, true, false, not, ◌&&◌, ◌||◌, cond, eqb}
use Rattle.std.proofs.Math.Option.{Option, none, some}
use Rattle.histories.specs.History.{History, conflicting}
use Rattle.histories.specs.Earlier.{some_of, some_after}
use Rattle.histories.specs.Source.{writer_behind}
use Rattle.histories.specs.Order.{writer_after}

-- the writer behind a read, where there is one, passes the test
abbrev pub of_writer : Option ℕ → (ℕ → Bool) → Bool
of_writer (some s) p = p s
of_writer none p = false

-- "the lowest number that applies" of 1, 2 and 3, by which of them do; 0 where none does
abbrev pub lowest_reason : Bool → Bool → Bool → ℕ
lowest_reason first second third = cond first 1 (cond second 2 (cond third 3 0))

module _ (h : History) where
  -- What a record e of transaction i says of an edge from i to j, for each reason.
  -- 1. "a record of i stands before a record of j, both on the same copy, at least one a write"
  unfoldable pub gives_conflict : ℕ → ℕ → Bool
  gives_conflict e j = some_after h e j (conflicting h e)

  -- 2. "both write one item, and i comes before j in its write order"
  unfoldable pub gives_write_order : ℕ → ℕ → Bool
  gives_write_order e j = h.is_write e && writer_after h (h.item e) (h.transaction e) j

  -- 3. "i has a read of some item with source s, j writes that item, j is not s, and s comes before j in the write order"; of the two numbers
  -- of the source, s is the transaction
  unfoldable pub gives_read_before : ℕ → ℕ → Bool
  gives_read_before e j = h.real e && of_writer (writer_behind h e) (λ s. writer_after h (h.item e) s j)

  -- the three reasons
  unfoldable pub conflict : ℕ → ℕ → Bool
  conflict i j = some_of h i (λ e. gives_conflict e j)

  unfoldable pub write_order : ℕ → ℕ → Bool
  write_order i j = some_of h i (λ e. gives_write_order e j)

  unfoldable pub read_before : ℕ → ℕ → Bool
  read_before i j = some_of h i (λ e. gives_read_before e j)

  -- both take part, "i and j different"
  unfoldable pub two_of_them : ℕ → ℕ → Bool
  two_of_them i j = h.takes_part i && h.takes_part j && not (eqb i j)

  -- "There is an edge from i to j, i and j different, for these reasons"
  unfoldable pub edge : ℕ → ℕ → Bool
  edge i j = two_of_them i j && (conflict i j || write_order i j || read_before i j)

  -- "The reason reported for an edge is the lowest number that applies"; "0 where there is none"
  unfoldable pub reason : ℕ → ℕ → ℕ
  reason i j = cond (two_of_them i j) (lowest_reason (conflict i j) (write_order i j) (read_before i j)) 0

  -- the same without numbers tried in order: the numbers of the reasons that there are,
  pub data Applies (i j : ℕ) : ℕ → Type 0 where
    by_conflict : conflict i j ≡ true → Applies i j 1
    by_write_order : write_order i j ≡ true → Applies i j 2
    by_read_before : read_before i j ≡ true → Applies i j 3

  -- and the lowest of them
  pub record TrueReason (i j n : ℕ) : Type 0 where
    pub applies : Applies i j n
    pub none_lower : (m : ℕ) → m < n → Applies i j m → ⊥
