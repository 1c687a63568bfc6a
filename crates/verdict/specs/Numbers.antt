-- What the code's verdict says, in document 01's numbers.
use Rattle.std.specs.Prelude.{ℕ}
use Rattle.rules.specs.Answer.{Answer, gives, refused}
use Rattle.refusals.specs.Numbers.{number_of, place_of}
use Rattle.lines.specs.Rule.{LineOrCycle, line, cycle}
use Rattle.verdict.specs.declared.answer.Verdict.{Verdict}
use Rattle.verdict.specs.declared.answer.Verdict.TheVariants.{Line, Cycle, Refused}

-- a line or a cycle says how many members it has, a refusal its number and its place
abbrev pub verdict_says : Verdict → Answer (LineOrCycle ℕ)
verdict_says (Line n) = gives (line n)
verdict_says (Cycle n) = gives (cycle n)
verdict_says (Refused r) = refused (number_of r) (place_of r)
