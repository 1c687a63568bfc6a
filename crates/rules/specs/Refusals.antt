-- Document 01's table of refusals as rows, in their order; 3 belongs to the verdict, and 10 to the questions.
use Rattle.std.specs.Prelude.{ℕ, ◌%◌, List, [], ◌∷◌, ◌++◌, Bool, not, ◌&&◌, length, eqb, ltb}
use Rattle.std.proofs.Math.Option.{get_or}
use Rattle.sets.specs.Search.{first_below}
use Rattle.histories.specs.History.{History}
use Rattle.histories.specs.Earlier.{committed}
use Rattle.histories.specs.Faults.{after_commit, reads_unwritten, reads_past_own}
use Rattle.rules.specs.Answer.{Answer}
use Rattle.rules.specs.Rows.{Row, row, answer_of, over, one_each}
use Rattle.rules.specs.Record.{record_bytes, transactions, most_bytes, kind, transaction, item, site, records}
use Rattle.rules.specs.Form.{form_rows}
use Rattle.rules.specs.LogHistory.{in_log, history_of}

-- 1: "log longer than 16,384 bytes"
unfoldable pub too_long : List ℕ → Bool
too_long log = ltb most_bytes (length log)

-- 2: "length not a multiple of 4"
unfoldable pub ragged : List ℕ → Bool
ragged log = not (eqb (length log % record_bytes) 0)

abbrev pub length_rows : List ℕ → List Row
length_rows log = row 1 (too_long log) 0 ∷ row 2 (ragged log) 0 ∷ []

-- 6 to 8 at record k, which look at the records before; of these 7 and 8 are about reads
abbrev pub read_rows : History → ℕ → List Row
read_rows h k = row 7 (reads_unwritten h k) k ∷ row 8 (reads_past_own h k) k ∷ []

abbrev pub history_rows : History → ℕ → List Row
history_rows h k = row 6 (after_commit h k) k ∷ read_rows h k

-- "at each, 4 to 8 are tried in order"
abbrev pub record_rows : List ℕ → ℕ → List Row
record_rows log k = form_rows k (kind log k) (transaction log k) (item log k) (site log k) ++ history_rows (history_of log) k

-- 9: "a transaction in the log has no commit", "first record of the lowest-numbered such transaction"
unfoldable pub never_commits : List ℕ → ℕ → Bool
never_commits log t = in_log log t && not (committed (history_of log) t (records log))

unfoldable pub first_record : List ℕ → ℕ → ℕ
first_record log t = get_or (first_below (records log) (λ k. eqb (transaction log k) t)) 0

abbrev pub end_row : List ℕ → ℕ → Row
end_row log t = row 9 (never_commits log t) (first_record log t)

abbrev pub end_rows : List ℕ → List Row
end_rows log = one_each (end_row log) transactions

-- "records are taken from the first .. 9 comes after all records"
abbrev pub content_rows : List ℕ → List Row
content_rows log = over (record_rows log) (records log) ++ end_rows log

-- "1 to 3 come first, in that order. Then records are taken from the first": all rows of a log
abbrev pub log_rows : List ℕ → List Row
log_rows log = length_rows log ++ content_rows log

-- what the checks answer: of the length, of the records, of both
unfoldable pub length_answer : List ℕ → Answer (Unit {0})
length_answer log = answer_of (length_rows log)

unfoldable pub content_answer : List ℕ → Answer (Unit {0})
content_answer log = answer_of (content_rows log)

unfoldable pub check_answer : List ℕ → Answer (Unit {0})
check_answer log = answer_of (log_rows log)
