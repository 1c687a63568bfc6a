-- What the graph of a log and the question about an edge promise, one definition each, of what was asked, what was lent, what was answered
-- and what was left. The contract in src/ and the theorem that the answer is determined cite the same one.
use Rattle.std.specs.Prelude.{ℕ, ◌≡◌, List, Option, Result}
use Rattle.rules.specs.Questions.{edge_answer, Graphed}
use Rattle.refusals.specs.declared.refusal.Refusal.{Refusal}
use Rattle.tables.specs.declared.reasons.Reason.{Reason}
use Rattle.edges.specs.Numbers.{graph_says, edge_says}

-- `graph_of_log`: a table was lent, which held `old` and now holds `new`
abbrev pub GivesGraph : (log old : List ℕ) → Result ℕ Refusal → (new : List ℕ) → Type 0
GivesGraph log old answer new = Graphed log old (graph_says answer) new

-- `edge_between`, of any numbers i and j
abbrev pub TellsEdge : List ℕ → (i j : ℕ) → Result (Option Reason) Refusal → Type 0
TellsEdge log i j answer = edge_says answer ≡ edge_answer log i j
