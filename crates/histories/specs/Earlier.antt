-- Records of a transaction: before a record, in the whole history, after a record, and the first of them; so what a transaction has done
-- before a record.
use Rattle.std.specs.Prelude.{ℕ, ◌+◌, ◌≡◌, Bool, true, ◌&&◌}
use Rattle.std.proofs.Math.Option.{Option}
use Rattle.sets.specs.Search.{some_below, some_from, first_below}
use Rattle.histories.specs.History.{History, is_by, writes_copy, writes_item}

module _ (h : History) where
  -- some record of transaction t that stands before record k passes the test
  unfoldable pub some_before : ℕ → ℕ → (ℕ → Bool) → Bool
  some_before k t p = some_below k (λ e. is_by h e t && p e)

  -- some record of t does
  unfoldable pub some_of : ℕ → (ℕ → Bool) → Bool
  some_of t p = some_before h.size t p

  -- some record of t that stands after record e does
  unfoldable pub some_after : ℕ → ℕ → (ℕ → Bool) → Bool
  some_after e t p = some_from (e + 1) h.size (λ f. is_by h f t && p f)

  -- the first record of t that does, if there is one
  unfoldable pub first_of : ℕ → (ℕ → Bool) → Option ℕ
  first_of t p = first_below h.size (λ e. is_by h e t && p e)

  -- Before record k, and so, where k is the number of records, in the whole history: t has committed,
  unfoldable pub committed : ℕ → ℕ → Bool
  committed t k = some_before k t h.is_commit

  -- t has written the copy c,
  unfoldable pub wrote_copy : ℕ → ℕ → ℕ → Bool
  wrote_copy t c k = some_before k t (λ e. writes_copy h e c)

  -- t has written the item x
  unfoldable pub wrote_item : ℕ → ℕ → ℕ → Bool
  wrote_item t x k = some_before k t (λ e. writes_item h e x)

  -- "All writes of one item by one transaction are one Write of that item": t writes the item x
  unfoldable pub writes : ℕ → ℕ → Bool
  writes t x = wrote_item t x h.size

  -- t takes part, and writes x
  pub record Writer (x t : ℕ) : Type 0 where
    pub part : h.takes_part t ≡ true
    pub wrote : writes t x ≡ true
