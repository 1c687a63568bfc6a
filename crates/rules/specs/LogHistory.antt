-- The history of a log: the one way from bytes to a history.
use Rattle.std.specs.Prelude.{ℕ, List, Bool, true, eqb}
use Rattle.sets.specs.Search.{some_below}
use Rattle.histories.specs.History.{History}
use Rattle.rules.specs.Record.{transaction, item, copy_of, records, is_read, is_write, is_commit}

-- a record before record k names transaction t
unfoldable pub named : List ℕ → ℕ → ℕ → Bool
named log t k = some_below k (λ e. eqb (transaction log e) t)

-- "A transaction is in the log if a record names it"
unfoldable pub in_log : List ℕ → ℕ → Bool
in_log log t = named log t (records log)

-- All transactions in the log take part, no write is passed over, and every read is real.
abbrev pub history_of : List ℕ → History
history_of log =
    record {
      size = records log;
      transaction = transaction log;
      item = item log;
      copy = copy_of log;
      is_read = is_read log;
      is_write = is_write log;
      is_commit = is_commit log;
      takes_part = in_log log;
      seen = λ e k. true;
      real = λ k. true;
    }
