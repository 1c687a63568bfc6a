-- What the functions that print an answer to a question promise, one definition each, of what was asked and what was answered. The contract
-- in src/ and the theorem that the answer is determined cite the same one.
use Rattle.std.specs.Prelude.{ℕ, ◌<◌, ◌≤◌, Option, Some, None, List, length}
use Rattle.arrayvec.specs.ArrayString.{ArrayString}
use Rattle.printing.specs.Promises.{Prints}
use Rattle.questions.specs.Asked.{head_bytes, printed_asked}
use Rattle.questions.specs.Text.{printed_source, printed_edge}

-- `source_text`
abbrev pub PrintsSource : List ℕ → ℕ → ArrayString → Type 0
PrintsSource log k text = Prints (printed_source log k) text

-- `edge_text`
abbrev pub PrintsEdge : List ℕ → (i j : ℕ) → ArrayString → Type 0
PrintsEdge log i j text = Prints (printed_edge log i j) text

-- `asked_text`, which gives no text exactly where the question is not whole
abbrev pub PrintsAsked : List ℕ → Option ArrayString → Type 0
PrintsAsked input None = length input < head_bytes
PrintsAsked input (Some text) = (head_bytes ≤ length input) × Prints (printed_asked input) text
