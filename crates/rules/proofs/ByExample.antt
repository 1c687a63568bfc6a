-- The rules by examples, each computed from the definitions alone: small logs, and what document 01's table answers of them where a wrong
-- definition would say something else. Each proof opens all that a wrong one may use, so that it computes.
use Rattle.std.proofs.Common.{ℕ, ◌≡◌, refl, true, false, List, [], ◌∷◌, length}
use Rattle.std.proofs.Math.Option.{none, some}
use Rattle.sets.specs.Bits.{set_of}
use Rattle.sets.specs.Search.{some_below, some_from, first_below, last_below}
use Rattle.histories.specs.History.{is_by, uses, uses_copy, writes_copy, writes_item, on_same_copy, conflicting}
use Rattle.histories.specs.Earlier.{some_before, some_of, some_after, first_of, committed, wrote_copy, wrote_item, writes}
use Rattle.histories.specs.Source.{shows, is_written, source_record, write_record, source, writer_behind}
use Rattle.histories.specs.Order.{comes_before, writer_after}
use Rattle.histories.specs.Reasons.{gives_conflict, gives_write_order, gives_read_before}
use Rattle.histories.specs.Reasons.{conflict, write_order, read_before, two_of_them, edge, reason}
use Rattle.histories.specs.Faults.{after_commit, reads_unwritten, reads_past_own}
use Rattle.rules.specs.Answer.{gives, refused, passed}
use Rattle.rules.specs.Rows.{answer_of, over}
use Rattle.rules.specs.Record.{kind, transaction, item, site, records, read_kind, write_kind, commit_kind, is_read, is_write, is_commit}
use Rattle.rules.specs.Record.{copy_number, copy_of}
use Rattle.rules.specs.Form.{known_kind, in_range}
use Rattle.rules.specs.LogHistory.{named, in_log}
use Rattle.rules.specs.Refusals.{too_long, ragged, never_commits, first_record, length_answer, content_answer, check_answer}
use Rattle.rules.specs.Questions.{source_answer, edge_answer, members, unless_refused}

-- a record, and the log after it: a read, a write and a commit of transaction t
abbrev r : (t item site : ℕ) → List ℕ → List ℕ
r t item site log = 1 ∷ t ∷ item ∷ site ∷ log

abbrev w : (t item site : ℕ) → List ℕ → List ℕ
w t item site log = 2 ∷ t ∷ item ∷ site ∷ log

abbrev c : ℕ → List ℕ → List ℕ
c t log = 3 ∷ t ∷ 0 ∷ 0 ∷ log

-- "Items x, y, z are 0, 1, 2; sites A to D are 0 to 3."
abbrev x : ℕ
x = 0

abbrev A : ℕ
A = 0

abbrev B : ℕ
B = 1

-- The table.
pub record ChecksTold : Type 0 where
  -- "The empty log is allowed"; "c7 gives serial 7"
  empty : check_answer [] ≡ passed
  commit_alone : check_answer (c 7 []) ≡ passed
  -- "3 bytes give refusal 2"
  three_bytes : check_answer (3 ∷ 7 ∷ 0 ∷ []) ≡ refused 2 0
  -- "kind 0 gives refusal 4"; "a commit with item 1 gives refusal 5"
  kind_0 : check_answer (c 7 (0 ∷ 7 ∷ 0 ∷ 0 ∷ [])) ≡ refused 4 1
  item_1 : check_answer (3 ∷ 7 ∷ 1 ∷ 0 ∷ []) ≡ refused 5 0
  -- "transaction 63 passes and 64 is refused 5; site 15 passes and 16 is refused 5"; "64 items (0 to 63)"
  transaction_63 : check_answer (c 63 []) ≡ passed
  transaction_64 : check_answer (c 64 []) ≡ refused 5 0
  site_15 : check_answer (w 0 63 15 (c 0 [])) ≡ passed
  site_16 : check_answer (w 0 x 16 (c 0 [])) ≡ refused 5 0
  item_64 : check_answer (w 0 64 A (c 0 [])) ≡ refused 5 0
  -- "P14 c0 c0: refusal 6, place 1"
  P14 : check_answer (c 0 (c 0 [])) ≡ refused 6 1
  -- "P7 r0[xA] c0: refusal 7, place 0"
  P7 : check_answer (r 0 x A (c 0 [])) ≡ refused 7 0
  -- "P6 w0[xA] w0[xB] c0 w1[xA] r1[xB] c1: refusal 8, place 4"
  P6 : check_answer (w 0 x A (w 0 x B (c 0 (w 1 x A (r 1 x B (c 1 [])))))) ≡ refused 8 4
  -- "P11 w0[xA]: refusal 9, place 0"
  P11 : check_answer (w 0 x A []) ≡ refused 9 0
  -- "at each, 4 to 8 are tried in order": 7 and 8 both apply to r0[xB], and 7 is given
  seven_and_eight : check_answer (w 0 x A (r 0 x B (c 0 []))) ≡ refused 7 1
  -- "9 comes after all records": P14 with w1[xA] in front, and 1 never commits
  six_and_nine : check_answer (w 1 x A (c 0 (c 0 []))) ≡ refused 6 2
  -- "first record of the lowest-numbered such transaction": 1 and 2 have no commit, and record 2 is the first of 1
  lowest_open : check_answer (c 0 (w 2 x A (w 1 x A (w 1 x B [])))) ≡ refused 9 2

pub checks_told : ChecksTold
unfolding some_below some_from first_below last_below is_by uses uses_copy writes_copy writes_item some_before some_of some_after first_of
    committed wrote_copy wrote_item writes shows is_written after_commit reads_unwritten reads_past_own answer_of over kind transaction
    item site records read_kind write_kind commit_kind is_read is_write is_commit copy_number copy_of known_kind in_range named in_log
    too_long ragged never_commits first_record length_answer content_answer check_answer
checks_told =
    record {
      empty = refl;
      commit_alone = refl;
      three_bytes = refl;
      kind_0 = refl;
      item_1 = refl;
      transaction_63 = refl;
      transaction_64 = refl;
      site_15 = refl;
      site_16 = refl;
      item_64 = refl;
      P14 = refl;
      P7 = refl;
      P6 = refl;
      P11 = refl;
      seven_and_eight = refl;
      six_and_nine = refl;
      lowest_open = refl;
    }

-- 1, "log longer than 16,384 bytes": "4,096 records pass", and one byte more is too much.
pub record LengthsTold (log : List ℕ) : Type 0 where
  pub at_the_limit : length log ≡ 16384 → too_long log ≡ false
  pub past_it : length log ≡ 16385 → too_long log ≡ true

pub lengths_told : (log : List ℕ) → LengthsTold log
unfolding too_long
lengths_told log = record { at_the_limit = λ e. rw e refl; past_it = λ e. rw e refl }

-- The questions, the graph's set, and the lent table.
pub record AnswersTold : Type 0 where
  -- "the last earlier write record on the same copy": r2[xB] has source 0 at record 1; "none for a write or commit"
  source_of_a_read : source_answer (w 0 x A (w 0 x B (c 0 (w 1 x A (c 1 (r 2 x B (c 2 []))))))) 5
      ≡ gives (some (record { transaction = 0; place = 1 }))
  source_of_a_commit : source_answer (c 7 []) 0 ≡ gives none
  -- "a question names a record at or past the end, or a transaction above 63"
  past_the_end : source_answer (c 7 []) 1 ≡ refused 10 0
  from_64 : edge_answer (c 7 []) 64 7 ≡ refused 10 0
  to_64 : edge_answer (c 7 []) 7 64 ≡ refused 10 0
  -- "0 .. where either is not in the log"
  not_in_the_log : edge_answer (c 7 []) 7 8 ≡ gives 0
  -- "Both apply the same log checks first": P7's number, and not 10
  check_first : source_answer (r 0 x A (c 0 [])) 5 ≡ refused 7 0
  -- P9, "serial 5 3", by the write order
  edge_of_P9 : edge_answer (w 5 x A (c 5 (w 3 x B (c 3 [])))) 5 3 ≡ gives 2
  -- "A commit with nothing before it is a transaction": 7 alone is in the set, as bit 7
  set_of_7 : members (c 7 []) ≡ 128
  -- "Every refusal leaves the answer buffer untouched"
  untouched : unless_refused (check_answer (r 0 x A (c 0 []))) (1 ∷ []) (2 ∷ []) ≡ 2 ∷ []

pub answers_told : AnswersTold
unfolding set_of some_below some_from first_below last_below is_by uses uses_copy writes_copy writes_item some_before some_of some_after
    first_of committed wrote_copy wrote_item writes shows is_written source_record write_record source writer_behind comes_before writer_after on_same_copy
    conflicting gives_conflict gives_write_order gives_read_before conflict write_order read_before two_of_them edge reason
    after_commit reads_unwritten reads_past_own answer_of over kind transaction item site records read_kind write_kind commit_kind
    is_read is_write is_commit copy_number copy_of known_kind in_range named in_log too_long ragged never_commits first_record
    check_answer source_answer edge_answer members
answers_told =
    record {
      source_of_a_read = refl;
      source_of_a_commit = refl;
      past_the_end = refl;
      from_64 = refl;
      to_64 = refl;
      not_in_the_log = refl;
      check_first = refl;
      edge_of_P9 = refl;
      set_of_7 = refl;
      untouched = refl;
    }
