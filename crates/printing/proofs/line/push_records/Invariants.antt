-- `printing::line::push_records` meets its contract. The invariant: the lines of the first records have been put behind the text.
use Rattle.std.proofs.Common.{◌≡◌, ◌++◌}
use Rattle.printing.specs.Lines.{record_lines}
use Rattle.printing.specs.Columns.{with_reasons}
use Rattle.printing.proofs.line.push_records.Given as goal

abbrev pub invariant-loop-transaction : goal.invariant-loop-transaction
invariant-loop-transaction l = l.text.bytes ≡ l.initial.text.bytes ++ record_lines (with_reasons l.columns) l.records l.transaction-index
