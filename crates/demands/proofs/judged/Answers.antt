-- `demands::judged` meets its contract: what the verdict promises of its answer and its buffer is what the theorems of the three demands
-- ask for.
use Rattle.answers.proofs.Demands.{demand_1, demand_2, demand_3}
use Rattle.demands.proofs.judged.Goals as goal

pub returns-clause-demand1 : goal.returns-clause-demand1
returns-clause-demand1 c = demand_1 _ _ _ _ c.verdict.ensures

pub returns-clause-demand2 : goal.returns-clause-demand2
returns-clause-demand2 c = demand_2 _ _ _ _ c.verdict.ensures

pub returns-clause-demand3 : goal.returns-clause-demand3
returns-clause-demand3 c = demand_3 _ _ _ _ c.verdict.ensures
