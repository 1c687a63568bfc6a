-- `writing::reasons_along` meets its contract. The invariant: the reasons of the first k have been found.
use Rattle.std.proofs.Common.{length}
use Rattle.tables.specs.ReasonTables.{lowest_in}
use Rattle.writing.specs.Kept.{Along}
use Rattle.writing.proofs.reasons_along.Given as goal

abbrev pub invariant-loop-k : goal.invariant-loop-k
invariant-loop-k l =
    let t = l.tables in
    Along (lowest_in t.by_conflict t.by_order t.by_read) l.cycle (length l.cycle) l.k l.reasons
