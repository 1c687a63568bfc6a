-- The source of a read.
use Rattle.std.specs.Prelude.{ℕ, Bool, ◌&&◌, cond}
use Rattle.std.proofs.Math.Option.{Option, none, map}
use Rattle.sets.specs.Search.{some_below, last_below}
use Rattle.histories.specs.History.{History, writes_copy}

-- a source: whose write it is, and where the write record stands
pub record Source : Type 0 where
  pub transaction : ℕ
  pub place : ℕ

module _ (h : History) where
  -- record e is a write "on the same copy" as the read k, which k does not pass over
  unfoldable pub shows : ℕ → ℕ → Bool
  shows k e = h.seen e k && writes_copy h e (h.copy k)

  -- an earlier record, which k does not pass over, writes the copy of the read k
  unfoldable pub is_written : ℕ → Bool
  is_written k = some_below k (shows k)

  -- of a read record, the place of "the last earlier write record on the same copy"; nothing of any other record
  unfoldable pub source_record : ℕ → Option ℕ
  source_record k = cond (h.is_read k) (last_below k (shows k)) none

  -- the two numbers of the write record e
  unfoldable pub write_record : ℕ → Source
  write_record e = record { transaction = h.transaction e; place = e }

  -- "The source of a read becomes two numbers: the transaction, and the place of the write record" (document 02, A1)
  unfoldable pub source : ℕ → Option Source
  source k = map write_record (source_record k)

  -- the first of the two, for all that asks who wrote and not where: the writer behind the read
  unfoldable pub writer_behind : ℕ → Option ℕ
  writer_behind k = map (λ s. s.transaction) (source k)
