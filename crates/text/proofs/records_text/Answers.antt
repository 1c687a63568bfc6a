-- `text::records_text` meets its contract: the first line and the records' lines have room.
use Rattle.std.proofs.Common.{arith, length, length-append, ◌/◌}
use Rattle.answers.specs.Verdict.{record_size}
use Rattle.printing.specs.Columns.{with_reasons}
use Rattle.printing.proofs.Lines.{lines_short}
use Rattle.text.proofs.records_text.Goals as goal

pub returns-clause-fits : goal.returns-clause-fits
returns-clause-fits c =
    let records = c.args.records.now in
    let short = lines_short (with_reasons c.args.columns) records (λ i. omega (arith, c.type_inv.records i)) (length records / record_size) in
    grind (arith, length-append)
