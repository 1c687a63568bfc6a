-- What the code's answers about the graph say, in document 01's numbers.
use Rattle.std.specs.Prelude.{ℕ, Option, Result, Ok, Err}
use Rattle.rules.specs.Answer.{Answer, gives, refused}
use Rattle.refusals.specs.Numbers.{number_of, place_of}
use Rattle.refusals.specs.declared.refusal.Refusal.{Refusal}
use Rattle.tables.specs.Numbers.{reason_says}
use Rattle.tables.specs.declared.reasons.Reason.{Reason}

-- a graph says the set of its transactions
abbrev pub graph_says : Result ℕ Refusal → Answer ℕ
graph_says (Ok set) = gives set
graph_says (Err r) = refused (number_of r) (place_of r)

-- the answer to the question says a reason, or 0 where there is none
abbrev pub edge_says : Result (Option Reason) Refusal → Answer ℕ
edge_says (Ok reason) = gives (reason_says reason)
edge_says (Err r) = refused (number_of r) (place_of r)
