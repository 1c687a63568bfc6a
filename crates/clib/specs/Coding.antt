-- How document 01's answers stand in the numbers of the C face: the refusal's number and place, or number 0 and then the value; a source; a
-- line or a cycle; and a verdict.
use Rattle.std.specs.Prelude.{ℕ}
use Rattle.std.proofs.Math.Option.{Option, none, some}
use Rattle.histories.specs.Source.{Source}
use Rattle.rules.specs.Answer.{Answer, gives, refused}
use Rattle.rules.specs.Record.{most_records}
use Rattle.lines.specs.Rule.{LineOrCycle, line, cycle}
use Rattle.clib.specs.declared.Coded.{Coded}
use Rattle.clib.specs.declared.CodedSource.{CodedSource}
use Rattle.clib.specs.declared.CodedSorted.{CodedSorted}
use Rattle.clib.specs.declared.CodedVerdict.{CodedVerdict}

abbrev pub coded_refusal : ℕ → ℕ → Coded
coded_refusal n p = record { number = n; place = p; value = 0 }

-- an answer whose value is a number by the rule given
abbrev pub coded : {A : Type 0} → (A → ℕ) → Answer A → Coded
coded value (gives a) = record { number = 0; place = 0; value = value a }
coded value (refused n p) = coded_refusal n p

-- a log that passes has the value 0
abbrev pub passed_value : Unit {0} → ℕ
passed_value u = 0

-- "none" in both numbers of a source: above every record, and so above every transaction (theorem `none_alone`)
abbrev pub none_number : ℕ
none_number = most_records

-- a source has its two numbers
abbrev pub coded_source : Answer (Option Source) → CodedSource
coded_source (gives (some s)) = record { number = 0; place = 0; transaction = s.transaction; «record» = s.place }
coded_source (gives none) = record { number = 0; place = 0; transaction = none_number; «record» = none_number }
coded_source (refused n p) = record { number = n; place = p; transaction = 0; «record» = 0 }

-- a reason is its number
abbrev pub reason_value : ℕ → ℕ
reason_value n = n

-- a line or a cycle has the number 0 or 1, and its length
abbrev pub coded_sorted : LineOrCycle ℕ → CodedSorted
coded_sorted (line n) = record { cycle = 0; length = n }
coded_sorted (cycle n) = record { cycle = 1; length = n }

-- a verdict has the refusal's number and place, or else those of the line or the cycle
abbrev pub coded_verdict : Answer (LineOrCycle ℕ) → CodedVerdict
coded_verdict (gives (line n)) = record { number = 0; place = 0; cycle = 0; length = n }
coded_verdict (gives (cycle n)) = record { number = 0; place = 0; cycle = 1; length = n }
coded_verdict (refused n p) = record { number = n; place = p; cycle = 0; length = 0 }
