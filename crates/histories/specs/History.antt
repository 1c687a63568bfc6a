-- A history, as the chapter's RD histories are: the records of a run in their order, and what each of them does. It knows no byte, no
-- number of a kind and no limit. A record is known by its place, counted from 0.
use Rattle.std.specs.Prelude.{ℕ, ◌<◌, ◌≡◌, Bool, true, ◌&&◌, ◌||◌, eqb}

pub record History : Type 0 where
  -- how many records there are
  pub size : ℕ
  -- whose record k is, the item that it names, and the copy
  pub transaction : ℕ → ℕ
  pub item : ℕ → ℕ
  pub copy : ℕ → ℕ
  -- what record k does
  pub is_read : ℕ → Bool
  pub is_write : ℕ → Bool
  pub is_commit : ℕ → Bool
  -- Three things that document 01 leaves no choice in: all transactions in the log take part, a read passes over no write, and every read is
  -- real. Histories with cancelled transactions, or with reads that only gather versions, differ in these alone.
  -- transaction t stands in the graph, in lines and in cycles
  pub takes_part : ℕ → Bool
  -- `seen e k`: the read k does not pass over the write e
  pub seen : ℕ → ℕ → Bool
  -- the read k is real: it counts in reason 3 and in demand 3
  pub real : ℕ → Bool

module _ (h : History) where
  -- record k is one of transaction t
  unfoldable pub is_by : ℕ → ℕ → Bool
  is_by k t = eqb (h.transaction k) t

  -- record k uses a copy: it reads it or writes it
  unfoldable pub uses : ℕ → Bool
  uses k = h.is_read k || h.is_write k

  -- record k uses the copy c; it writes c; it writes the item x, at any copy
  unfoldable pub uses_copy : ℕ → ℕ → Bool
  uses_copy k c = uses k && eqb (h.copy k) c

  unfoldable pub writes_copy : ℕ → ℕ → Bool
  writes_copy k c = h.is_write k && eqb (h.copy k) c

  unfoldable pub writes_item : ℕ → ℕ → Bool
  writes_item k x = h.is_write k && eqb (h.item k) x

  -- "both on the same copy"
  unfoldable pub on_same_copy : ℕ → ℕ → Bool
  on_same_copy e f = uses_copy e (h.copy e) && uses_copy f (h.copy e)

  -- "both on the same copy, at least one a write"
  unfoldable pub conflicting : ℕ → ℕ → Bool
  conflicting e f = on_same_copy e f && (h.is_write e || h.is_write f)

  -- record k is there, and its transaction takes part
  pub record Counts (k : ℕ) : Type 0 where
    pub there : k < h.size
    pub part : h.takes_part (h.transaction k) ≡ true
