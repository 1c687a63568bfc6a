-- THE THREE DEMANDS of the tender, each as a definition: what has to hold of a log, the answer buffer as it was lent, what the verdict says, and
-- the buffer as it was left.
use Rattle.std.specs.Prelude.{ℕ, ◌+◌, ◌*◌, ◌<◌, ◌≤◌, ◌≡◌, true, List, ◌++◌, ◌↔◌, length, drop}
use Rattle.sets.specs.Search.{count_below}
use Rattle.sets.specs.Bits.{has, in_row}
use Rattle.sets.specs.Paths.{Acyclic}
use Rattle.histories.specs.Reasons.{edge, TrueReason}
use Rattle.histories.specs.Chapter.{serialization_edge, InducesWriteOrder, RDSG}
use Rattle.rules.specs.Answer.{Answer, gives, refused, passed}
use Rattle.rules.specs.Rows.{NoneOf, FirstOf}
use Rattle.rules.specs.Record.{transactions}
use Rattle.rules.specs.LogHistory.{in_log, history_of}
use Rattle.rules.specs.Refusals.{log_rows, check_answer}
use Rattle.lines.specs.Rule.{LineOrCycle, line, cycle, sorted, members_of, length_of}
use Rattle.lines.specs.Lines.{stands_before, Cycle, FromLowest}
use Rattle.serial.specs.Serial.{SerialLine, SmallestSerial, LastWritesKept}
use Rattle.answers.specs.Verdict.{record_size, most_answer, entry, round_to, verdict_rows, line_or_cycle}
use Rattle.answers.specs.Verdict.{line_records, cycle_records, answer_records}

module _ (log old : List ℕ) (says : Answer (LineOrCycle ℕ)) (new : List ℕ) where
  -- DEMAND 1. "Every log, of any length and content, gets one answer: a serial line, a cycle or a numbered refusal with its place." The
  -- answer is one of these three, and which, the rows of the table say exactly: the first that applies, or that none does. "The checker tests
  -- everything itself": the function asks nothing of its caller.
  pub record Demand1 : Type 0 where
    pub refused_when : (n p : ℕ) → says ≡ refused n p ↔ FirstOf (verdict_rows log (length old)) n p
    pub judged_when : ((o : LineOrCycle ℕ) × (says ≡ gives o)) ↔ NoneOf (verdict_rows log (length old))
    -- "A refusal writes nothing to the answer buffer."
    pub refusal_writes_nothing : (n p : ℕ) → says ≡ refused n p → new ≡ old

  -- DEMAND 2. "Its graph is the replicated-data serialization graph .. no edge of that rule is missing and none is added."
  pub record Demand2 : Type 0 where
    -- A log that passes the checks gets a line or a cycle. What is given, and every byte of it, is document 01's line or cycle of the graph
    -- that has just these edges, between just the transactions in the log. So an edge that is left out or added shows wherever it makes a
    -- difference to a line or a cycle.
    pub given_where_passed : check_answer log ≡ passed → most_answer ≤ length old → (o : LineOrCycle ℕ) × (says ≡ gives o)
    pub of_this_graph : (o : LineOrCycle ℕ) → says ≡ gives o
        → let given = sorted transactions (edge (history_of log)) (in_log log) in
        (o ≡ length_of given) × (new ≡ answer_records log (gives given) ++ drop (length (members_of given) * record_size) old)
    -- Without the rule: a line keeps every edge, and a cycle is made of edges.
    pub line_keeps_every_edge : (n : ℕ) → says ≡ gives (line n)
        → (xs : List ℕ) × (new ≡ line_records xs ++ drop (n * record_size) old) × ((i j : ℕ) → edge (history_of log) i j ≡ true → stands_before xs i j ≡ true)
    -- byte 2k is a member of the cycle, with an edge to the member of the next record, and byte 2k + 1 is that edge's true, lowest reason
    pub cycle_of_edges : (n : ℕ) → says ≡ gives (cycle n) → (k : ℕ) → k < n
        → let i = entry new (k * record_size) in
        let j = entry new (round_to n k * record_size) in
        (edge (history_of log) i j ≡ true) × TrueReason (history_of log) i j (entry new (k * record_size + 1))
    -- "The chapter's two conditions therefore hold wherever the graph has no cycle, and its second is not asked of a graph with one"
    pub extends_SG : (i j : ℕ) → serialization_edge (history_of log) i j ≡ true → edge (history_of log) i j ≡ true
    pub induces_write_order : check_answer log ≡ passed → InducesWriteOrder (history_of log) (edge (history_of log))
    pub line_where_acyclic : check_answer log ≡ passed → most_answer ≤ length old → ((n : ℕ) × (says ≡ gives (line n))) ↔ Acyclic (edge (history_of log))
    pub line_is_of_RDSG : (n : ℕ) → says ≡ gives (line n) → RDSG (history_of log) (edge (history_of log))

  -- DEMAND 3. The line given, n its length, which is the number of transactions in the log:
  pub record LineGiven (n : ℕ) : Type 0 where
    pub the_line : List ℕ
    pub by_the_rule : line_or_cycle log ≡ line the_line
    pub its_length : n ≡ length the_line
    pub all_transactions : n ≡ count_below transactions (in_log log)
    pub written : new ≡ line_records the_line ++ drop (n * record_size) old
    -- "The line given is the smallest of these in transaction numbers, read from the left."
    pub smallest : SmallestSerial (history_of log) the_line
    -- "Its last writer of an item made the last write on each copy of the item that it wrote."
    pub last_writes_kept : LastWritesKept (history_of log) the_line

  -- "Where no such line exists, a cycle of the graph is given, each edge with its true reason."
  pub record CycleGiven (n : ℕ) : Type 0 where
    pub the_cycle : List ℕ
    pub by_the_rule : line_or_cycle log ≡ cycle the_cycle
    pub its_length : n ≡ length the_cycle
    pub from_2_to_64 : (2 ≤ n) × (n ≤ transactions)
    pub written : new ≡ cycle_records log the_cycle ++ drop (n * record_size) old
    pub is_cycle : Cycle (edge (history_of log)) (in_log log) the_cycle
    pub starts_lowest : FromLowest the_cycle
    pub true_reasons : (k : ℕ) → k < n → TrueReason (history_of log) (entry the_cycle k) (entry the_cycle (round_to n k)) (entry new (k * record_size + 1))
    pub no_line : (other : List ℕ) → SerialLine (history_of log) other → ⊥

  -- "For each log that passes the checks, a serial line is given exactly if some line of all its transactions exists in which .."
  pub record Demand3 : Type 0 where
    pub line_exactly : check_answer log ≡ passed → most_answer ≤ length old
        → ((xs : List ℕ) × SerialLine (history_of log) xs) ↔ ((n : ℕ) × (says ≡ gives (line n)))
    pub else_cycle : check_answer log ≡ passed → most_answer ≤ length old
        → ((xs : List ℕ) → SerialLine (history_of log) xs → ⊥) ↔ ((n : ℕ) × (says ≡ gives (cycle n)))
    pub line_given : (n : ℕ) → says ≡ gives (line n) → LineGiven n
    pub cycle_given : (n : ℕ) → says ≡ gives (cycle n) → CycleGiven n

-- Demand 2 of the graph by itself: it is given, and refused, exactly where the table of refusals says (number 3 belongs to the verdict); where
-- it is given, bit j of number i is 1 exactly for an edge from i to j, and bit t of the set exactly where t is in the log
pub record GraphExactly (log old : List ℕ) (says : Answer ℕ) (new : List ℕ) : Type 0 where
  pub given_when : ((set : ℕ) × (says ≡ gives set)) ↔ NoneOf (log_rows log)
  pub refused_when : (n p : ℕ) → says ≡ refused n p ↔ FirstOf (log_rows log) n p
  pub refusal_leaves_the_table : (n p : ℕ) → says ≡ refused n p → new ≡ old
  pub edges_exactly : (set : ℕ) → says ≡ gives set → (i j : ℕ) → in_row new i j ≡ edge (history_of log) i j
  pub transactions_exactly : (set : ℕ) → says ≡ gives set → (t : ℕ) → has set t ≡ in_log log t
