-- The invariant of `checked_log::check::content_answer`: the first k records have passed, and what is kept is what has happened before
-- record k.
use Rattle.std.proofs.Common.{◌≡◌}
use Rattle.rules.specs.Answer.{passed}
use Rattle.rules.specs.Refusals.{record_rows}
use Rattle.rules.specs.Rows.{answer_of, over}
use Rattle.kept.specs.Kept.{KeptBefore}
use Rattle.checked_log.proofs.check.content_answer.Given as goal

abbrev pub invariant-loop-k : goal.invariant-loop-k
invariant-loop-k l = record { passes : answer_of (over (record_rows l.log) l.k) ≡ passed; kept : KeptBefore l.log l.k l.kept }
