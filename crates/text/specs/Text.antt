-- What the program of document 01 prints: the whole text of an answer, and of the bytes of a log.
use Rattle.std.specs.Prelude.{ℕ, true, false, List, [], ◌∷◌, ◌++◌}
use Rattle.rules.specs.Answer.{Answer, gives, refused}
use Rattle.lines.specs.Rule.{LineOrCycle, line, cycle}
use Rattle.answers.specs.Verdict.{most_answer, verdict_answer, answer_records, how_many}
use Rattle.printing.specs.Lines.{first_line, refusal_line, record_lines}

-- "serial"
unfoldable pub serial_word : List ℕ
serial_word = 115 ∷ 101 ∷ 114 ∷ 105 ∷ 97 ∷ 108 ∷ []

-- "cycle"
unfoldable pub cycle_word : List ℕ
cycle_word = 99 ∷ 121 ∷ 99 ∷ 108 ∷ 101 ∷ []

-- the first line, "Then one line an answer record"
unfoldable pub printed_answer : Answer (LineOrCycle ℕ) → List ℕ → List ℕ
printed_answer (gives (line n)) answer = first_line serial_word n ++ record_lines false answer n
printed_answer (gives (cycle n)) answer = first_line cycle_word n ++ record_lines true answer n
printed_answer (refused number place) answer = refusal_line number place

-- what is printed for a log whose answer buffer has so many bytes. Only the bytes that the answer writes are printed, so it does not
-- matter what the buffer held before.
unfoldable pub printed_with : ℕ → List ℕ → List ℕ
printed_with room log = printed_answer (how_many (verdict_answer log room)) (answer_records log (verdict_answer log room))

-- what the program prints for a log: its answer buffer is long enough for any answer
unfoldable pub printed : List ℕ → List ℕ
printed log = printed_with most_answer log
