-- Faults of a record that are seen by the records before it: numbers 6 to 8 of document 01's table. A history without them, and what else the
-- checks say of it.
use Rattle.std.specs.Prelude.{ℕ, ◌<◌, ◌≡◌, Bool, true, false, not, ◌&&◌}
use Rattle.std.proofs.Math.Option.{some}
use Rattle.histories.specs.History.{History, Counts, uses, writes_copy}
use Rattle.histories.specs.Earlier.{committed, wrote_copy, wrote_item}
use Rattle.histories.specs.Source.{is_written, writer_behind}

module _ (h : History) where
  -- 6: "the transaction has committed earlier"
  unfoldable pub after_commit : ℕ → Bool
  after_commit k = committed h (h.transaction k) k

  -- 7: "read of a copy that no earlier record writes"
  unfoldable pub reads_unwritten : ℕ → Bool
  reads_unwritten k = h.is_read k && not (is_written h k)

  -- 8: "read of an item that this transaction wrote earlier, at a site where it did not write that item earlier"
  unfoldable pub reads_past_own : ℕ → Bool
  reads_past_own k =
      h.is_read k && wrote_item h (h.transaction k) (h.item k) k && not (wrote_copy h (h.transaction k) (h.copy k) k)

  -- no transaction commits twice
  abbrev pub CommitsOnce : Type 0
  CommitsOnce =
      (c d : ℕ) → c < h.size → d < h.size → h.is_commit c ≡ true → h.is_commit d ≡ true → h.transaction c ≡ h.transaction d → c ≡ d

  -- what is so of copies
  pub record PlainCopies : Type 0 where
    -- no write of one that takes part is passed over
    pub none_passed : (e k : ℕ) → e < k → Counts h k → h.is_read k ≡ true → h.takes_part (h.transaction e) ≡ true
        → writes_copy h e (h.copy k) ≡ true → h.seen e k ≡ true
    -- a copy is of one item
    pub one_item : (e k : ℕ) → e < h.size → k < h.size → uses h e ≡ true → uses h k ≡ true → h.copy e ≡ h.copy k → h.item e ≡ h.item k

  pub record Faultless : Type 0 where
    pub no_6 : (k : ℕ) → k < h.size → after_commit k ≡ false
    pub no_7 : (k : ℕ) → k < h.size → reads_unwritten k ≡ false
    pub no_8 : (k : ℕ) → k < h.size → reads_past_own k ≡ false
    -- who takes part has committed
    pub has_committed : (t : ℕ) → h.takes_part t ≡ true → committed h t h.size ≡ true
    -- the writer behind a read that counts takes part
    pub source_part : (k t : ℕ) → Counts h k → writer_behind h k ≡ some t → h.takes_part t ≡ true
    pub of_copies : PlainCopies
