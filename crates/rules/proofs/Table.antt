-- The parts of document 01's table, and what the absence of each number says of a log that passes.
use Rattle.std.proofs.Common.{ℕ, ◌<◌, ◌≡◌, ◌∙◌, ap, List, [], ◌∷◌, true, false, not, ◌↔◌}
use Rattle.histories.specs.Faults.{after_commit, reads_unwritten, reads_past_own}
use Rattle.histories.specs.History.{History}
use Rattle.histories.proofs.Faults.{not_unwritten, not_past_own}
use Rattle.rules.specs.Answer.{refused, passed}
use Rattle.rules.specs.Rows.{row, answer_of, over, NoneOf}
use Rattle.rules.specs.Record.{Within, transactions, kind, transaction, item, site, records}
use Rattle.rules.specs.Form.{known_kind, in_range, form_rows}
use Rattle.rules.specs.LogHistory.{history_of}
use Rattle.rules.specs.Refusals.{too_long, ragged, length_rows, read_rows, history_rows, record_rows, never_commits, end_row, end_rows, content_rows, log_rows}
use Rattle.rules.specs.Refusals.{length_answer, content_answer, check_answer}
use Rattle.rules.proofs.Rows.{no_rows, row_applies, row_skipped, passes_exactly, append_passed, append_refused, none_of_none, none_here, none_later, none_with, none_left, none_right, none_both, over_refused, over_none, over_passes, none_applies}
use Rattle.rules.proofs.Ranges.{known_passes, range_passes, within_record}

-- 6 to 8 at record k of any history, by which test is the first to hold
module _ (h : History) (k : ℕ) where
  pub gives_6 : after_commit h k ≡ true → answer_of (history_rows h k) ≡ refused 6 k
  gives_6 a = row_applies (row 6 (after_commit h k) k) (read_rows h k) a

  pub skips_6 : after_commit h k ≡ false → answer_of (history_rows h k) ≡ answer_of (read_rows h k)
  skips_6 a = row_skipped (row 6 (after_commit h k) k) (read_rows h k) a

  pub gives_7 : reads_unwritten h k ≡ true → answer_of (read_rows h k) ≡ refused 7 k
  gives_7 a = row_applies (row 7 (reads_unwritten h k) k) (row 8 (reads_past_own h k) k ∷ []) a

  skips_7 : reads_unwritten h k ≡ false → answer_of (read_rows h k) ≡ answer_of (row 8 (reads_past_own h k) k ∷ [])
  skips_7 a = row_skipped (row 7 (reads_unwritten h k) k) (row 8 (reads_past_own h k) k ∷ []) a

  pub gives_8 : reads_unwritten h k ≡ false → reads_past_own h k ≡ true → answer_of (read_rows h k) ≡ refused 8 k
  gives_8 a b = skips_7 a ∙ row_applies (row 8 (reads_past_own h k) k) [] b

  pub gives_none : reads_unwritten h k ≡ false → reads_past_own h k ≡ false → answer_of (read_rows h k) ≡ passed
  gives_none a b = skips_7 a ∙ row_skipped (row 8 (reads_past_own h k) k) [] b ∙ no_rows

  -- 7 and 8 are about reads
  pub other_passes : h.is_read k ≡ false → answer_of (read_rows h k) ≡ passed
  other_passes r = gives_none (not_unwritten h k r) (not_past_own h k r)

module _ (log : List ℕ) where
  -- the check is the length's and then the content's
  pub check_content : length_answer log ≡ passed → check_answer log ≡ content_answer log
  unfolding check_answer length_answer content_answer
  check_content a = append_passed (length_rows log) (content_rows log) a

  pub check_length : (n p : ℕ) → length_answer log ≡ refused n p → check_answer log ≡ refused n p
  unfolding check_answer length_answer
  check_length n p a = append_refused (length_rows log) (content_rows log) n p a

  -- record by record
  pub content_refused : (k n p : ℕ) → k < records log → answer_of (over (record_rows log) k) ≡ passed → answer_of (record_rows log k) ≡ refused n p
      → content_answer log ≡ refused n p
  unfolding content_answer
  content_refused k n p l a b =
      append_refused (over (record_rows log) (records log)) (end_rows log) n p (over_refused (record_rows log) (records log) k n p l a b)

  pub content_ends : answer_of (over (record_rows log) (records log)) ≡ passed → content_answer log ≡ answer_of (end_rows log)
  unfolding content_answer
  content_ends a = append_passed (over (record_rows log) (records log)) (end_rows log) a

  -- a record that 4 and 5 pass is within the limits
  pub within_formed : (k : ℕ) → k < records log → answer_of (form_rows k (kind log k) (transaction log k) (item log k) (site log k)) ≡ passed
      → Within log k
  within_formed k l a =
      within_record log k l
      (range_passes k (kind log k) (transaction log k) (item log k) (site log k)
      ((passes_exactly (form_rows k (kind log k) (transaction log k) (item log k) (site log k))).0 a))

  pub within_passed : (k : ℕ) → k < records log → answer_of (record_rows log k) ≡ passed → Within log k
  within_passed k l a =
      within_record log k l
      (range_passes k (kind log k) (transaction log k) (item log k) (site log k)
      (none_left (form_rows k (kind log k) (transaction log k) (item log k) (site log k)) (history_rows (history_of log) k)
      ((passes_exactly (record_rows log k)).0 a)))

  pub none_applies_where_passed : check_answer log ≡ passed → NoneOf (log_rows log)
  unfolding check_answer
  none_applies_where_passed a = (passes_exactly (log_rows log)).0 a

  module _ (none_of : NoneOf (log_rows log)) where
    lengths : NoneOf (length_rows log)
    lengths = none_left (length_rows log) (content_rows log) none_of

    contents : NoneOf (content_rows log)
    contents = none_right (length_rows log) (content_rows log) none_of

    pub no_1 : too_long log ≡ false
    no_1 = none_here (row 1 (too_long log) 0) (row 2 (ragged log) 0 ∷ []) lengths

    pub no_2 : ragged log ≡ false
    no_2 = none_here (row 2 (ragged log) 0) [] (none_later (row 1 (too_long log) 0) (row 2 (ragged log) 0 ∷ []) lengths)

    pub no_9 : (t : ℕ) → t < transactions → never_commits log t ≡ false
    no_9 = none_applies (end_row log) transactions (none_right (over (record_rows log) (records log)) (end_rows log) contents)

    module _ (k : ℕ) (l : k < records log) where
      at_record : NoneOf (record_rows log k)
      at_record =
          over_passes (record_rows log) (records log) k l
          (none_left (over (record_rows log) (records log)) (end_rows log) contents)

      by_form : NoneOf (form_rows k (kind log k) (transaction log k) (item log k) (site log k))
      by_form = none_left (form_rows k (kind log k) (transaction log k) (item log k) (site log k)) (history_rows (history_of log) k) at_record

      by_history : NoneOf (history_rows (history_of log) k)
      by_history = none_right (form_rows k (kind log k) (transaction log k) (item log k) (site log k)) (history_rows (history_of log) k) at_record

      by_reads : NoneOf (read_rows (history_of log) k)
      by_reads = none_later (row 6 (after_commit (history_of log) k) k) (read_rows (history_of log) k) by_history

      pub no_4 : known_kind (kind log k) ≡ true
      no_4 = known_passes k (kind log k) (transaction log k) (item log k) (site log k) by_form

      pub no_5 : in_range (kind log k) (transaction log k) (item log k) (site log k) ≡ true
      no_5 = range_passes k (kind log k) (transaction log k) (item log k) (site log k) by_form

      pub no_6 : after_commit (history_of log) k ≡ false
      no_6 = none_here (row 6 (after_commit (history_of log) k) k) (read_rows (history_of log) k) by_history

      pub no_7 : reads_unwritten (history_of log) k ≡ false
      no_7 = none_here (row 7 (reads_unwritten (history_of log) k) k) (row 8 (reads_past_own (history_of log) k) k ∷ []) by_reads

      pub no_8 : reads_past_own (history_of log) k ≡ false
      no_8 =
          none_here (row 8 (reads_past_own (history_of log) k) k) []
          (none_later (row 7 (reads_unwritten (history_of log) k) k) (row 8 (reads_past_own (history_of log) k) k ∷ []) by_reads)

  -- The same row by row, without the order of the rows: none of 1, 2 and 4 to 9 applies (3 and 10 are not about the log).
  pub record NothingApplies : Type 0 where
    pub not_1 : too_long log ≡ false
    pub not_2 : ragged log ≡ false
    pub not_4 : (k : ℕ) → k < records log → known_kind (kind log k) ≡ true
    pub not_5 : (k : ℕ) → k < records log → in_range (kind log k) (transaction log k) (item log k) (site log k) ≡ true
    pub not_6 : (k : ℕ) → k < records log → after_commit (history_of log) k ≡ false
    pub not_7 : (k : ℕ) → k < records log → reads_unwritten (history_of log) k ≡ false
    pub not_8 : (k : ℕ) → k < records log → reads_past_own (history_of log) k ≡ false
    pub not_9 : (t : ℕ) → t < transactions → never_commits log t ≡ false

  -- THEOREM: no row applies exactly where none of the numbers does
  pub nothing_applies_exactly : NoneOf (log_rows log) ↔ NothingApplies
  nothing_applies_exactly = (ahead, back)
    where
      ahead : NoneOf (log_rows log) → NothingApplies
      ahead w =
          record {
            not_1 = no_1 w;
            not_2 = no_2 w;
            not_4 = no_4 w;
            not_5 = no_5 w;
            not_6 = no_6 w;
            not_7 = no_7 w;
            not_8 = no_8 w;
            not_9 = no_9 w;
          }

      at_record_none : NothingApplies → (k : ℕ) → k < records log → NoneOf (record_rows log k)
      at_record_none w k l =
          none_with (row 4 (not (known_kind (kind log k))) k) _ (ap not (w.not_4 k l))
          (none_with (row 5 (not (in_range (kind log k) (transaction log k) (item log k) (site log k))) k) _ (ap not (w.not_5 k l))
          (none_with (row 6 (after_commit (history_of log) k) k) _ (w.not_6 k l)
          (none_with (row 7 (reads_unwritten (history_of log) k) k) _ (w.not_7 k l)
          (none_with (row 8 (reads_past_own (history_of log) k) k) [] (w.not_8 k l) none_of_none))))

      back : NothingApplies → NoneOf (log_rows log)
      back w =
          none_both (length_rows log) (content_rows log)
          (none_with (row 1 (too_long log) 0) _ w.not_1 (none_with (row 2 (ragged log) 0) [] w.not_2 none_of_none))
          (none_both (over (record_rows log) (records log)) (end_rows log) (over_none (record_rows log) (records log) (at_record_none w))
          (over_none (λ t. end_row log t ∷ []) transactions (λ t l. none_with (end_row log t) [] (w.not_9 t l) none_of_none)))
