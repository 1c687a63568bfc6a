-- P1 to P14, computed from the definitions, which are therefore all open here.
use Rattle.std.proofs.Common.{◌≡◌, refl}
use Rattle.std.proofs.Math.Option.{Option-elim}
use Rattle.sets.specs.Search.{some_below, some_from, last_below, first_below, without}
use Rattle.histories.specs.History.{is_by, uses, uses_copy, writes_copy, writes_item, on_same_copy, conflicting}
use Rattle.histories.specs.Earlier.{some_before, some_of, some_after, first_of, committed, wrote_copy, wrote_item, writes}
use Rattle.histories.specs.Source.{shows, is_written, source_record, write_record, source, writer_behind}
use Rattle.histories.specs.Order.{comes_before, writer_after}
use Rattle.histories.specs.Reasons.{gives_conflict, gives_write_order, gives_read_before}
use Rattle.histories.specs.Reasons.{conflict, write_order, read_before, two_of_them, edge, reason}
use Rattle.histories.specs.Faults.{after_commit, reads_unwritten, reads_past_own}
use Rattle.rules.specs.Rows.{answer_of, over}
use Rattle.rules.specs.Record.{kind, transaction, item, site, records, read_kind, write_kind, commit_kind, is_read, is_write, is_commit}
use Rattle.rules.specs.Record.{copy_number, copy_of}
use Rattle.rules.specs.Form.{known_kind, in_range}
use Rattle.rules.specs.LogHistory.{named, in_log}
use Rattle.rules.specs.Refusals.{too_long, ragged, never_commits, first_record}
use Rattle.lines.specs.Rule.{predecessor, among, place_of, lowest_member, to_lowest, walk, ready, next, placed, rest, lowest_predecessor}
use Rattle.lines.specs.Rule.{cycle_from, sorted}
use Rattle.answers.specs.Verdict.{short_buffer, verdict_check, line_or_cycle, verdict_answer, pairs, round_to, line_records}
use Rattle.answers.specs.Verdict.{cycle_records}
use Rattle.answers.specs.Marked.{marked, all_given}

-- THEOREM: the definitions give every row of document 01's marked logs as it stands
pub marked_hold : all_given marked ≡ marked
unfolding some_below some_from last_below first_below without is_by uses uses_copy writes_copy writes_item some_before some_of some_after
    first_of committed wrote_copy wrote_item writes shows is_written source_record write_record source writer_behind comes_before writer_after on_same_copy
    conflicting gives_conflict gives_write_order gives_read_before conflict write_order read_before two_of_them edge reason
    after_commit reads_unwritten reads_past_own answer_of over kind transaction item site records read_kind write_kind commit_kind
    is_read is_write is_commit copy_number copy_of known_kind in_range named in_log too_long ragged never_commits first_record
    predecessor among place_of lowest_member to_lowest walk ready next placed rest lowest_predecessor cycle_from sorted
    short_buffer verdict_check line_or_cycle verdict_answer pairs round_to line_records cycle_records Option-elim
marked_hold = refl
