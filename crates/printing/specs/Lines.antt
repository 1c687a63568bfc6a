-- The lines that the programs print, those of document 01 and those of the two questions, in ASCII, with their numbers in decimal; and the room
-- for them.
use Rattle.std.specs.Prelude.{ℕ, zero, suc, ◌+◌, ◌*◌, ◌/◌, ◌%◌, Bool, true, false, cond, List, [], ◌∷◌, ◌++◌, ltb, Option, Some, None}
use Rattle.rules.specs.Record.{transactions}
use Rattle.answers.specs.Verdict.{record_size, entry}

-- a digit
unfoldable pub digit : ℕ → ℕ
digit d = 48 + d

-- n in decimal, in at most so many digits: those of n / 10, where n has more than one, and then the last
unfoldable pub decimal_within : ℕ → ℕ → List ℕ
decimal_within zero n = []
decimal_within (suc most) n = cond (ltb n 10) [] (decimal_within most (n / 10)) ++ digit (n % 10) ∷ []

-- n in decimal, without zeros in front. n + 1 digits are always enough.
unfoldable pub decimal : ℕ → List ℕ
decimal n = decimal_within (suc n) n

-- " "
unfoldable pub space : List ℕ
space = 32 ∷ []

-- what ends a line
unfoldable pub newline : List ℕ
newline = 10 ∷ []

-- "refused"
unfoldable pub refused_word : List ℕ
refused_word = 114 ∷ 101 ∷ 102 ∷ 117 ∷ 115 ∷ 101 ∷ 100 ∷ []

-- "First line: `serial n`, `cycle n`", by its word
unfoldable pub first_line : List ℕ → ℕ → List ℕ
first_line word n = word ++ space ++ decimal n ++ newline

-- "or `refused number place`"
unfoldable pub refusal_line : ℕ → ℕ → List ℕ
refusal_line number place = refused_word ++ space ++ decimal number ++ space ++ decimal place ++ newline

-- a line of one number, or of two and a space between them
unfoldable pub numbers_line : ℕ → Option ℕ → List ℕ
numbers_line first None = decimal first ++ newline
numbers_line first (Some second) = decimal first ++ space ++ decimal second ++ newline

-- "one line an answer record: the transaction alone for a serial line, the transaction, a space and the reason for a cycle"
unfoldable pub record_line : (reasons : Bool) → ℕ → ℕ → List ℕ
record_line false transaction reason = numbers_line transaction None
record_line true transaction reason = numbers_line transaction (Some reason)

-- the lines of the first n records of an answer's bytes
unfoldable pub record_lines : (reasons : Bool) → List ℕ → ℕ → List ℕ
record_lines reasons answer zero = []
record_lines reasons answer (suc k) =
    record_lines reasons answer k ++ record_line reasons (entry answer (k * record_size)) (entry answer (k * record_size + 1))

-- room for the longest first line: a refusal's word, two numbers of 20 digits, which hold any number of 64 bits, two spaces and the newline
abbrev pub first_room : ℕ
first_room = 50

-- room for the longest line of a record: two bytes of 3 digits, a space and the newline
abbrev pub record_room : ℕ
record_room = 8

-- room for any text
abbrev pub text_room : ℕ
text_room = first_room + transactions * record_room
