-- A log that passes: its records are within the limits, and its history is sound. Each is what one number's absence says.
use Rattle.std.proofs.Common.{ℕ, ◌*◌, ◌%◌, ◌≤◌, ◌<◌, arith, ◌≡◌, refl, List, true, length, eqb, ltb-false, eqb-true, eq-eqb}
use Rattle.std.proofs.Math.Option.{some}
use Rattle.std.proofs.lemmas.Bool.{not-false}
use Rattle.sets.proofs.Searches.{some_found, some_hit}
use Rattle.histories.specs.Earlier.{committed}
use Rattle.histories.specs.Faults.{Faultless}
use Rattle.histories.specs.Source.{Source, shows, source, writer_behind}
use Rattle.histories.specs.History.{Counts, writes_copy}
use Rattle.histories.proofs.Sources.{sourced, source_record_of, source_exactly}
use Rattle.histories.proofs.Faults.{commits_once, faultless_sound}
use Rattle.rules.specs.Answer.{passed}
use Rattle.rules.specs.Rows.{NoneOf}
use Rattle.rules.specs.Record.{Within, record_bytes, transactions, most_records, most_bytes, transaction, item, site, records}
use Rattle.rules.specs.Record.{copy_of, copy_number}
use Rattle.rules.specs.LogHistory.{named, in_log, history_of}
use Rattle.rules.specs.Refusals.{too_long, ragged, never_commits, log_rows, check_answer}
use Rattle.rules.specs.Passes.{InLimits, Passes}
use Rattle.rules.proofs.Ranges.{within_record}
use Rattle.rules.proofs.Table.{none_applies_where_passed, no_1, no_2, no_5, no_6, no_7, no_8, no_9}

module _ (log : List ℕ) where
  -- a transaction in the log has a record
  pub record InLog (t : ℕ) : Type 0 where
    pub at : ℕ
    pub there : at < records log
    pub own : transaction log at ≡ t

  pub in_log_found : (t : ℕ) → in_log log t ≡ true → InLog t
  unfolding in_log named
  in_log_found t b =
      let w = some_found (λ k. eqb (transaction log k) t) (records log) b in
      record { at = w.0; there = w.1; own = eqb-true (transaction log w.0) t w.2 }

  pub in_log_hit : (t k : ℕ) → k < records log → transaction log k ≡ t → in_log log t ≡ true
  unfolding in_log named
  in_log_hit t k l q = some_hit (λ e. eqb (transaction log e) t) (records log) k l (eq-eqb (transaction log k) t q)

  -- every record's transaction takes part
  pub all_part : (k : ℕ) → k < records log → in_log log (transaction log k) ≡ true
  all_part k l = in_log_hit (transaction log k) k l refl

  -- no write is passed over
  pub shows_all : (k e : ℕ) → shows (history_of log) k e ≡ writes_copy (history_of log) e (copy_of log k)
  unfolding shows
  shows_all k e = refl

  -- two records within the limits that are on one copy are of one item and one site
  pub same_copy : (j k : ℕ) → Within log j → Within log k → copy_of log j ≡ copy_of log k → (item log j ≡ item log k) × (site log j ≡ site log k)
  unfolding copy_of copy_number
  same_copy j k v w e = (omega (arith, v.site_within, w.site_within), omega (arith, v.site_within, w.site_within))

  pub in_log_low : InLimits log → (t : ℕ) → in_log log t ≡ true → t < transactions
  in_log_low limits t b = let w = in_log_found t b in let q = w.own in omega (arith, (limits w.at w.there).transaction_within, q)

  -- THEOREM: the source of a record has a transaction below 64, and the place of a record of the log
  pub record LowSource (s : Source) : Type 0 where
    pub of_a_transaction : s.transaction < transactions
    pub at_a_record : s.place < records log

  pub source_low : InLimits log → (k : ℕ) (s : Source) → k < records log → source (history_of log) k ≡ some s → LowSource s
  source_low limits k s l q =
      let n = (source_exactly (history_of log) k s).0 q in
      let there : s.place < records log = omega (arith, n.placed.earlier, l) in
      let own = n.own in
      record { of_a_transaction = omega (arith, (limits s.place there).transaction_within, own); at_a_record = there }

  module _ (none_of : NoneOf (log_rows log)) where
    limits : InLimits log
    limits k l = within_record log k l (no_5 log none_of k l)

    -- 9: who is in the log has committed
    has_committed : (t : ℕ) → in_log log t ≡ true → committed (history_of log) t (records log) ≡ true
    unfolding never_commits
    has_committed t b = not-false (committed (history_of log) t (records log)) (rw b at (no_9 log none_of t (in_log_low limits t b)))

    -- a source is a record of the log, and so its transaction takes part
    writers_part : (k t : ℕ) → Counts (history_of log) k → writer_behind (history_of log) k ≡ some t → in_log log t ≡ true
    writers_part k t c q =
        let s = source_record_of (history_of log) k t q in
        in_log_hit t s.at (omega (arith, (sourced (history_of log) k s.at s.found).earlier, c.there)) s.own

    faultless_log : Faultless (history_of log)
    faultless_log =
        record {
          no_6 = no_6 log none_of;
          no_7 = no_7 log none_of;
          no_8 = no_8 log none_of;
          has_committed = has_committed;
          source_part = writers_part;
          of_copies = record { none_passed = λ e k l c r p w. refl; one_item = λ e k l m u v q. (same_copy e k (limits e l) (limits k m) q).0 };
        }

    whole_log : length log ≡ records log * record_bytes
    unfolding ragged records
    whole_log =
        let e = eqb-true (length log % record_bytes) 0 (not-false (eqb (length log % record_bytes) 0) (no_2 log none_of)) in omega (arith, e)

    few_records : records log ≤ most_records
    unfolding too_long records
    few_records = let e = ltb-false most_bytes (length log) (no_1 log none_of) in omega (arith, e)

    -- THEOREM: what the functions above the check ask holds of every log to which no row applies
    pub none_passes : Passes log
    none_passes =
        record {
          whole = whole_log;
          few = few_records;
          in_limits = limits;
          commits_once = commits_once (history_of log) (no_6 log none_of);
          sound = faultless_sound (history_of log) faultless_log;
        }

  -- and so of every log that the check passes
  pub passed_passes : check_answer log ≡ passed → Passes log
  passed_passes a = none_passes (none_applies_where_passed log a)
