-- What is answered beside the verdict: the source of a record, the reason of an edge, and the graph of a log. "Both apply the same log checks
-- first."
use Rattle.std.specs.Prelude.{ℕ, ◌≡◌, List, [], ◌∷◌, ◌++◌, ◌||◌, leb}
use Rattle.std.proofs.Math.Option.{Option}
use Rattle.sets.specs.Bits.{set_of, table_of}
use Rattle.histories.specs.Source.{Source, source}
use Rattle.histories.specs.Reasons.{edge, reason}
use Rattle.rules.specs.Answer.{Answer, gives, refused, ◌then◌}
use Rattle.rules.specs.Rows.{Row, row, answer_of}
use Rattle.rules.specs.Record.{transactions, records}
use Rattle.rules.specs.LogHistory.{history_of}
use Rattle.rules.specs.Refusals.{log_rows, check_answer}

-- 10: "a question names a record at or past the end", "10 after 9"
abbrev pub source_rows : List ℕ → ℕ → List Row
source_rows log k = log_rows log ++ row 10 (leb (records log) k) 0 ∷ []

-- "Source of record k: the source, or none for a write or commit"; the source has two numbers (document 02, A1)
unfoldable pub source_answer : List ℕ → ℕ → Answer (Option Source)
source_answer log k = answer_of (source_rows log k) then gives (source (history_of log) k)

-- 10: "a question names .. a transaction above 63"
abbrev pub edge_rows : List ℕ → (i j : ℕ) → List Row
edge_rows log i j = log_rows log ++ row 10 (leb transactions i || leb transactions j) 0 ∷ []

-- "Edge from i to j: its reason, or 0 where there is none, where i equals j, or where either is not in the log"
unfoldable pub edge_answer : List ℕ → (i j : ℕ) → Answer ℕ
edge_answer log i j = answer_of (edge_rows log i j) then gives (reason (history_of log) i j)

-- the graph of a log that passes: the set of the transactions that take part, and a table in which bit j of number i is the edge from i
-- to j (the form in which document 02 lends it)
unfoldable pub members : List ℕ → ℕ
members log = set_of transactions (history_of log).takes_part

unfoldable pub edge_table : List ℕ → List ℕ
edge_table log = table_of transactions (λ i. set_of transactions (edge (history_of log) i))

unfoldable pub graph_answer : List ℕ → Answer ℕ
graph_answer log = check_answer log then gives (members log)

-- what a lent table has afterwards: the new content, or after a refusal the old
abbrev pub unless_refused : {A : Type 0} → Answer A → List ℕ → List ℕ → List ℕ
unless_refused (gives a) new old = new
unless_refused (refused n p) new old = old

-- what is promised of a graph, of the log, the table lent, what the answer says and the table left
pub record Graphed (log old : List ℕ) (answer : Answer ℕ) (new : List ℕ) : Type 0 where
  pub says : answer ≡ graph_answer log
  pub leaves : new ≡ unless_refused (check_answer log) (edge_table log) old
