-- The verdict of document 01: the order of all refusals, the line or the cycle of a log, and the bytes of its answer records.
use Rattle.std.specs.Prelude.{ℕ, zero, suc, ◌*◌, ◌≡◌, Bool, cond, List, [], ◌∷◌, ◌++◌, ltb, length, get_or}
use Rattle.std.proofs.lemmas.List.Edits.{sets}
use Rattle.histories.specs.Reasons.{edge, reason}
use Rattle.rules.specs.Answer.{Answer, gives, refused, ◌then◌}
use Rattle.rules.specs.Rows.{Row, row, answer_of}
use Rattle.rules.specs.Record.{transactions}
use Rattle.rules.specs.LogHistory.{history_of}
use Rattle.rules.specs.Refusals.{length_rows, content_rows}
use Rattle.lines.specs.Rule.{LineOrCycle, line, cycle, sorted, length_of}

-- "Answer record k, 2 bytes"
abbrev pub record_size : ℕ
record_size = 2

-- 128 bytes: as many records as there can be transactions
abbrev pub most_answer : ℕ
most_answer = transactions * record_size

-- 3: "answer buffer shorter than 128 bytes"
unfoldable pub short_buffer : ℕ → Bool
short_buffer room = ltb room most_answer

-- "1 to 3 come first, in that order. Then records are taken from the first .. 9 comes after all records", for an answer buffer of so
-- many bytes
abbrev pub verdict_rows : List ℕ → ℕ → List Row
verdict_rows log room = length_rows log ++ row 3 (short_buffer room) 0 ∷ content_rows log

unfoldable pub verdict_check : List ℕ → ℕ → Answer (Unit {0})
verdict_check log room = answer_of (verdict_rows log room)

-- "All n transactions in the log", by the edges of the graph: the line or the cycle of document 01's rule
unfoldable pub line_or_cycle : List ℕ → LineOrCycle (List ℕ)
line_or_cycle log = sorted transactions (edge (history_of log)) (history_of log).takes_part

-- "An answer is a serial line, a cycle or a refusal, and a refusal has its own kind and place."
unfoldable pub verdict_answer : List ℕ → ℕ → Answer (LineOrCycle (List ℕ))
verdict_answer log room = verdict_check log room then gives (line_or_cycle log)

-- what stands at place k
abbrev pub entry : List ℕ → ℕ → ℕ
entry xs k = get_or xs k 0

-- n answer records, of which number k is `first k` and `second k`
unfoldable pub pairs : ℕ → (ℕ → ℕ) → (ℕ → ℕ) → List ℕ
pairs zero first second = []
pairs (suc k) first second = pairs k first second ++ first k ∷ second k ∷ []

-- the place after place k of a cycle of n members: the next; "the last one's edge goes back to the first"
unfoldable pub round_to : ℕ → ℕ → ℕ
round_to n k = cond (ltb (suc k) n) (suc k) 0

-- "Answer record k, 2 bytes, is the transaction and 0."
unfoldable pub line_records : List ℕ → List ℕ
line_records xs = pairs (length xs) (entry xs) (λ k. 0)

-- "Answer record k is the transaction and the reason of its edge to the next; the last one's edge goes back to the first."
unfoldable pub cycle_records : List ℕ → List ℕ → List ℕ
cycle_records log xs = pairs (length xs) (entry xs) (λ k. reason (history_of log) (entry xs k) (entry xs (round_to (length xs) k)))

-- the bytes that an answer writes; "Every refusal leaves the answer buffer untouched."
abbrev pub answer_records : List ℕ → Answer (LineOrCycle (List ℕ)) → List ℕ
answer_records log (gives (line xs)) = line_records xs
answer_records log (gives (cycle xs)) = cycle_records log xs
answer_records log (refused number place) = []

-- the answer with "n the length of line or cycle" for its members
abbrev pub how_many : Answer (LineOrCycle (List ℕ)) → Answer (LineOrCycle ℕ)
how_many (gives o) = gives (length_of o)
how_many (refused number place) = refused number place

-- What is promised of a verdict, of the log, the buffer lent, what the answer says and the buffer left: the answer records stand in the front
-- of the buffer, and all other bytes keep their content.
abbrev pub LeavesRecords : (log old new : List ℕ) → Type 0
LeavesRecords log old new = new ≡ sets old 0 (answer_records log (verdict_answer log (length old)))

pub record Judged (log old : List ℕ) (answer : Answer (LineOrCycle ℕ)) (new : List ℕ) : Type 0 where
  pub says : answer ≡ how_many (verdict_answer log (length old))
  pub leaves : LeavesRecords log old new
