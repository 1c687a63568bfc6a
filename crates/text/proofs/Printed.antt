-- What the program prints for the bytes of P2: the lines of the row that the table of marked logs has for it.
use Rattle.std.proofs.Common.{ℕ, ◌≡◌, ap, ap₂, List, [], ◌∷◌}
use Rattle.answers.specs.Marked.{MarkedLog, P2, marked_given}
use Rattle.answers.proofs.Marked.{marked_hold}
use Rattle.printing.specs.Lines.{digit, decimal_within, decimal, space, newline, refused_word, first_line, refusal_line, numbers_line, record_line, record_lines}
use Rattle.text.specs.Text.{serial_word, cycle_word, printed_answer, printed_with, printed}

-- "cycle 2", "1 1", "2 3", with the newline behind each
abbrev P2_lines : List ℕ
P2_lines = 99 ∷ 121 ∷ 99 ∷ 108 ∷ 101 ∷ 32 ∷ 50 ∷ 10 ∷ 49 ∷ 32 ∷ 49 ∷ 10 ∷ 50 ∷ 32 ∷ 51 ∷ 10 ∷ []

-- P2 is the second row of the table
abbrev second : List MarkedLog → MarkedLog
second [] = P2
second (p ∷ []) = P2
second (p ∷ q ∷ ps) = q

-- what is printed for a row's log goes by what the row says and its bytes
printed_by_row : (p : MarkedLog) → marked_given p ≡ p → printed p.log ≡ printed_answer p.says p.bytes
unfolding printed printed_with
printed_by_row p h = ap₂ printed_answer (ap (λ (q : MarkedLog). q.says) h) (ap (λ (q : MarkedLog). q.bytes) h)

-- THEOREM: "For the bytes of P2 below it prints exactly" these three lines
pub P2_printed : printed P2.log ≡ P2_lines
unfolding digit decimal_within decimal space newline serial_word cycle_word refused_word first_line refusal_line numbers_line record_line record_lines
    printed_answer
P2_printed = printed_by_row P2 (ap second marked_hold)
