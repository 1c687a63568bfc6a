-- `Kept::end_answer` meets its contract: who is left is named and has not committed, and the search gives the lowest of them.
use Rattle.std.proofs.Common.{sym}
use Rattle.kept.proofs.EndKept.{refuses_9, all_commit}
use Rattle.kept.proofs.Kept.end_answer.Goals as goal

pub returns-in-Some : goal.returns-in-Some
returns-in-Some c = λ log w v.
    let kept = c.args.self.now in
    sym (refuses_9 log kept.named kept.committed kept.firsts w v c.minus.result c.minus.ensures c.in-Some.t c.in-Some.ensures.found)

pub returns-in-None : goal.returns-in-None
returns-in-None c = λ log w v.
    let kept = c.args.self.now in
    sym (all_commit log kept.named kept.committed kept.firsts w v c.minus.result c.minus.ensures c.in-None.ensures.found)
