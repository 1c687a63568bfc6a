-- `demands::graph` meets its contract: what the graph promises of its set and its table is what the theorem asks for.
use Rattle.answers.proofs.Demands.{graph_exactly}
use Rattle.demands.proofs.graph.Goals as goal

pub returns-clause-graph_exactly : goal.returns-clause-graph_exactly
returns-clause-graph_exactly c = graph_exactly _ _ _ _ c.graph_of_log.ensures
