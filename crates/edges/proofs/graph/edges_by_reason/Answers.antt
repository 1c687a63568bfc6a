-- `edges::graph::edges_by_reason` meets its contract: the set of those that commit is the set of all, which is the only one.
use Rattle.rules.proofs.Graphs.{only_members}
use Rattle.edges.proofs.graph.edges_by_reason.Goals as goal

pub returns-clause-members : goal.returns-clause-members
returns-clause-members c =
    only_members c.args.passed.now c.log-log.ensures.passes.in_limits c.of_log-order.result.committed c.of_log-order.ensures.members
