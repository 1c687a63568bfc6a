-- What the columns of the records' lines are in the definition of those lines.
use Rattle.std.specs.Prelude.{Bool, true, false}
use Rattle.printing.specs.declared.line.Columns.{Columns}
use Rattle.printing.specs.declared.line.Columns.TheVariants.{Transaction, WithReason}

abbrev pub with_reasons : Columns → Bool
with_reasons Transaction = false
with_reasons WithReason = true
