-- The numbers and places of document 01 for each case of the code's refusals. Every promise about a refusal speaks through these
-- definitions.
use Rattle.std.specs.Prelude.{ℕ, Result, Ok, Err}
use Rattle.rules.specs.Answer.{Answer, refused, passed}
use Rattle.refusals.specs.declared.refusal.Refusal.{Refusal}
use Rattle.refusals.specs.declared.refusal.Refusal.TheVariants.{TooLong, Ragged, ShortBuffer, BadKind, OutOfRange, AfterCommit}
use Rattle.refusals.specs.declared.refusal.Refusal.TheVariants.{ReadsUnwritten, ReadsPastOwn, NeverCommits, BadQuestion}

abbrev pub number_of : Refusal → ℕ
number_of TooLong = 1
number_of Ragged = 2
number_of ShortBuffer = 3
number_of (BadKind k) = 4
number_of (OutOfRange k) = 5
number_of (AfterCommit k) = 6
number_of (ReadsUnwritten k) = 7
number_of (ReadsPastOwn k) = 8
number_of (NeverCommits k) = 9
number_of BadQuestion = 10

abbrev pub place_of : Refusal → ℕ
place_of TooLong = 0
place_of Ragged = 0
place_of ShortBuffer = 0
place_of (BadKind k) = k
place_of (OutOfRange k) = k
place_of (AfterCommit k) = k
place_of (ReadsUnwritten k) = k
place_of (ReadsPastOwn k) = k
place_of (NeverCommits k) = k
place_of BadQuestion = 0

-- what the answer of a check says
abbrev pub checked_says : Result (Unit {0}) Refusal → Answer (Unit {0})
checked_says (Ok x) = passed
checked_says (Err r) = refused (number_of r) (place_of r)
