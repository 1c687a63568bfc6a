-- What the code's answer says, in the words of the rule.
use Rattle.std.specs.Prelude.{ℕ}
use Rattle.lines.specs.Rule.{LineOrCycle, line, cycle}
use Rattle.sort.specs.declared.Sorted.{Sorted}
use Rattle.sort.specs.declared.Sorted.TheVariants.{Line, Cycle}

-- a line or a cycle, and how many members it has
abbrev pub sorted_says : Sorted → LineOrCycle ℕ
sorted_says (Line n) = line n
sorted_says (Cycle n) = cycle n
