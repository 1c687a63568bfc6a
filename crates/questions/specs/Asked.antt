-- A question in bytes with its log behind it, as the program `ask` reads them, and what is printed for it. Byte 0 says which question it is. Bytes
-- 1 and 2 are the record, or the transaction that the edge leads from. Bytes 3 and 4 are the transaction that the edge leads to; in a question
-- about a source nothing looks at them. The log follows.
use Rattle.std.specs.Prelude.{ℕ, ◌+◌, ◌*◌, cond, List, [], length, get_or, drop, eqb, ltb}
use Rattle.questions.specs.Text.{printed_source, printed_edge}

abbrev pub head_bytes : ℕ
head_bytes = 5

-- two bytes as a number, the low one first
unfoldable pub number_at : List ℕ → ℕ → ℕ
number_at input at = get_or input at 0 + get_or input (at + 1) 0 * 256

-- 1 asks for an edge, and any other byte for a source; a question that is not whole has no answer
unfoldable pub printed_asked : List ℕ → List ℕ
printed_asked input =
    cond (ltb (length input) head_bytes) []
    (cond (eqb (get_or input 0 0) 1) (printed_edge (drop head_bytes input) (number_at input 1) (number_at input 3))
    (printed_source (drop head_bytes input) (number_at input 1)))
