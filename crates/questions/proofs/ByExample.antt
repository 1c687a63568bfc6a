-- The lines of the questions by examples, each computed from the definitions alone: the transaction, a space and the place; the words; a reason
-- alone.
use Rattle.std.proofs.Common.{ℕ, ◌≡◌, refl, List, [], ◌∷◌}
use Rattle.std.proofs.Math.Option.{none, some}
use Rattle.sets.specs.Search.{some_below, some_from, first_below, last_below}
use Rattle.histories.specs.History.{is_by, uses, uses_copy, writes_copy, writes_item, on_same_copy, conflicting}
use Rattle.histories.specs.Earlier.{some_before, some_of, some_after, first_of, committed, wrote_copy, wrote_item, writes}
use Rattle.histories.specs.Source.{shows, is_written, source_record, write_record, source, writer_behind}
use Rattle.histories.specs.Order.{comes_before, writer_after}
use Rattle.histories.specs.Reasons.{gives_conflict, gives_write_order, gives_read_before}
use Rattle.histories.specs.Reasons.{conflict, write_order, read_before, two_of_them, edge, reason}
use Rattle.histories.specs.Faults.{after_commit, reads_unwritten, reads_past_own}
use Rattle.rules.specs.Answer.{gives, refused}
use Rattle.rules.specs.Rows.{answer_of, over}
use Rattle.rules.specs.Record.{kind, transaction, item, site, records, read_kind, write_kind, commit_kind, is_read, is_write, is_commit}
use Rattle.rules.specs.Record.{copy_number, copy_of}
use Rattle.rules.specs.Form.{known_kind, in_range}
use Rattle.rules.specs.LogHistory.{named, in_log}
use Rattle.rules.specs.Refusals.{too_long, ragged, never_commits, first_record, check_answer}
use Rattle.rules.specs.Questions.{source_answer, edge_answer}
use Rattle.printing.specs.Lines.{digit, decimal_within, decimal, space, newline, refused_word, numbers_line, refusal_line}
use Rattle.questions.specs.Asked.{number_at, printed_asked}
use Rattle.questions.specs.Text.{none_word, source_line, edge_line, printed_source, printed_edge}

pub record LinesTold : Type 0 where
  -- "0 2"
  of_a_source : source_line (gives (some (record { transaction = 0; place = 2 }))) ≡ 48 ∷ 32 ∷ 50 ∷ 10 ∷ []
  -- "63 4095"
  of_the_last : source_line (gives (some (record { transaction = 63; place = 4095 })))
      ≡ 54 ∷ 51 ∷ 32 ∷ 52 ∷ 48 ∷ 57 ∷ 53 ∷ 10 ∷ []
  -- "none"
  of_none : source_line (gives none) ≡ 110 ∷ 111 ∷ 110 ∷ 101 ∷ 10 ∷ []
  -- "refused 10 0"
  of_10 : source_line (refused 10 0) ≡ 114 ∷ 101 ∷ 102 ∷ 117 ∷ 115 ∷ 101 ∷ 100 ∷ 32 ∷ 49 ∷ 48 ∷ 32 ∷ 48 ∷ 10 ∷ []
  -- "3", and "refused 7 2"
  of_an_edge : edge_line (gives 3) ≡ 51 ∷ 10 ∷ []
  of_7 : edge_line (refused 7 2) ≡ 114 ∷ 101 ∷ 102 ∷ 117 ∷ 115 ∷ 101 ∷ 100 ∷ 32 ∷ 55 ∷ 32 ∷ 50 ∷ 10 ∷ []
  -- two bytes, the low one first: 4,095 is 255 and 15 times 256
  of_two_bytes : number_at (0 ∷ 255 ∷ 15 ∷ []) 1 ≡ 4095

pub lines_told : LinesTold
unfolding digit decimal_within decimal space newline refused_word numbers_line refusal_line none_word source_line edge_line number_at
lines_told =
    record {
      of_a_source = refl;
      of_the_last = refl;
      of_none = refl;
      of_10 = refl;
      of_an_edge = refl;
      of_7 = refl;
      of_two_bytes = refl;
    }

-- "P5 w0[xA] r0[xA] c0", and "P9 w5[xA] c5 w3[xB] c3"
abbrev P5 : List ℕ
P5 = 2 ∷ 0 ∷ 0 ∷ 0 ∷ 1 ∷ 0 ∷ 0 ∷ 0 ∷ 3 ∷ 0 ∷ 0 ∷ 0 ∷ []

abbrev P9 : List ℕ
P9 = 2 ∷ 5 ∷ 0 ∷ 0 ∷ 3 ∷ 5 ∷ 0 ∷ 0 ∷ 2 ∷ 3 ∷ 0 ∷ 1 ∷ 3 ∷ 3 ∷ 0 ∷ 0 ∷ []

-- Questions in bytes, with their logs.
pub record QuestionsTold : Type 0 where
  -- the source of record 1 of P5: "0 0"
  of_a_read : printed_asked (0 ∷ 1 ∷ 0 ∷ 0 ∷ 0 ∷ P5) ≡ 48 ∷ 32 ∷ 48 ∷ 10 ∷ []
  -- the edge from 5 to 3 of P9, "serial 5 3", by the write order: "2"; and none from 3 to 5: "0"
  from_5_to_3 : printed_asked (1 ∷ 5 ∷ 0 ∷ 3 ∷ 0 ∷ P9) ≡ 50 ∷ 10 ∷ []
  from_3_to_5 : printed_asked (1 ∷ 3 ∷ 0 ∷ 5 ∷ 0 ∷ P9) ≡ 48 ∷ 10 ∷ []
  -- the empty log is a log, and has no edge
  of_the_empty_log : printed_asked (1 ∷ 0 ∷ 0 ∷ 1 ∷ 0 ∷ []) ≡ 48 ∷ 10 ∷ []
  -- four bytes are no question
  not_whole : printed_asked (0 ∷ 1 ∷ 0 ∷ 0 ∷ []) ≡ []

pub questions_told : QuestionsTold
unfolding some_below some_from first_below last_below is_by uses uses_copy writes_copy writes_item some_before some_of some_after
    first_of committed wrote_copy wrote_item writes shows is_written source_record write_record source writer_behind comes_before
    writer_after on_same_copy conflicting gives_conflict gives_write_order gives_read_before conflict write_order read_before
    two_of_them edge reason after_commit reads_unwritten reads_past_own answer_of over kind transaction item site records read_kind
    write_kind commit_kind is_read is_write is_commit copy_number copy_of known_kind in_range named in_log too_long ragged
    never_commits first_record check_answer source_answer edge_answer digit decimal_within decimal space newline refused_word
    numbers_line refusal_line none_word source_line edge_line printed_source printed_edge number_at printed_asked
questions_told =
    record { of_a_read = refl; from_5_to_3 = refl; from_3_to_5 = refl; of_the_empty_log = refl; not_whole = refl }
