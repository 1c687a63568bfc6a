-- What the function that puts a verdict's text together asks of the buffer with its records.
use Rattle.std.specs.Prelude.{ℕ, ◌*◌, ◌≤◌, List, length}
use Rattle.rules.specs.Answer.{Answer, gives, refused}
use Rattle.rules.specs.Record.{transactions}
use Rattle.lines.specs.Rule.{LineOrCycle, line, cycle}
use Rattle.answers.specs.Verdict.{record_size}

-- an answer's records are in the buffer, and there are no more of them than transactions
abbrev pub Recorded : ℕ → List ℕ → Type 0
Recorded n answer = (n ≤ transactions) × (n * record_size ≤ length answer)

-- so they are for a line and for a cycle; a refusal has none
abbrev pub Lent : Answer (LineOrCycle ℕ) → List ℕ → Type 0
Lent (gives (line n)) answer = Recorded n answer
Lent (gives (cycle n)) answer = Recorded n answer
Lent (refused number place) answer = Unit {0}
