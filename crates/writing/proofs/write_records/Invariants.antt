-- `writing::write_records` meets its contract. The invariant: the first k records have been written.
use Rattle.std.proofs.Common.{◌≡◌}
use Rattle.std.proofs.Math.Seq.{sets}
use Rattle.answers.specs.Verdict.{entry, pairs}
use Rattle.writing.proofs.write_records.Given as goal

abbrev pub invariant-loop-k : goal.invariant-loop-k
invariant-loop-k l = l.answer ≡ sets l.initial.answer 0 (pairs l.k (entry l.members) (entry l.seconds))
