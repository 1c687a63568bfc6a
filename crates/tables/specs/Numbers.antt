-- Document 01's number of each reason for an edge.
use Rattle.std.specs.Prelude.{ℕ, Option, Some, None}
use Rattle.tables.specs.declared.reasons.Reason.{Reason}
use Rattle.tables.specs.declared.reasons.Reason.TheVariants.{Conflict, WriteOrder, ReadBefore}

abbrev pub number_of : Reason → ℕ
number_of Conflict = 1
number_of WriteOrder = 2
number_of ReadBefore = 3

-- what the code's answer says: the number of the reason, or 0 where there is none
abbrev pub reason_says : Option Reason → ℕ
reason_says (Some r) = number_of r
reason_says None = 0
