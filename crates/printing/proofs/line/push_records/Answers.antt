-- `printing::line::push_records` meets its contract: each record's line has room, and is put behind those before.
use Rattle.std.proofs.Common.{arith, append_assoc, append-nil, length-append, ap, length, ℕ, ◌<◌, ◌*◌, ◌+◌, ◌/◌, ◌≡◌}
use Rattle.answers.specs.Verdict.{entry, record_size}
use Rattle.printing.specs.Lines.{record_line, record_lines}
use Rattle.printing.specs.Columns.{with_reasons}
use Rattle.printing.proofs.Lines.{lines_more, lines_short, record_short}
use Rattle.printing.proofs.Records.{byte_of_chunk}
use Rattle.printing.proofs.line.push_records.Goals as goal
use Rattle.printing.proofs.line.push_records.Goals.{After-record_line}

-- the line is that of the record at this place
line_at : (c : After-record_line) → c.record_line.result.bytes
    ≡ record_line (with_reasons c.args.columns) (entry c.args.records.now (c.loop-transaction.transaction-index * record_size))
    (entry c.args.records.now (c.loop-transaction.transaction-index * record_size + 1))
line_at c =
    let xs = c.args.records.now in
    let n = length xs / record_size in
    let k = c.loop-transaction.transaction-index in
    let inside : k < n = omega (arith, c.loop-transaction-test.true, c.as_chunks.ensures.front_len) in
    grind (arith, byte_of_chunk record_size n k 0 xs inside (omega arith), byte_of_chunk record_size n k 1 xs inside (omega arith))

pub loop-transaction-init : goal.loop-transaction-init
unfolding record_lines
loop-transaction-init c = grind (arith, append-nil)

pub push_str-requires : goal.push_str-requires
push_str-requires c =
    let xs = c.args.records.now in
    let k = c.loop-transaction.transaction-index in
    let reasons = with_reasons c.args.columns in
    let byte : (i : ℕ) → entry xs i < 256 = λ i. omega (arith, c.type_inv.records i) in
    omega (
      arith,
      c.requires,
      c.loop-transaction-test.true,
      c.as_chunks.ensures.front_len,
      ap length c.loop-transaction.invariant,
      length-append c.args.text.now.bytes (record_lines reasons xs k),
      lines_short reasons xs byte k,
      ap length c.as_str.ensures.value,
      ap length (line_at (goal.at.push_str-requires c).After-record_line),
      record_short reasons (entry xs (k * record_size)) (entry xs (k * record_size + 1)) (byte _) (byte _),
    )

pub loop-transaction-preserved : goal.loop-transaction-preserved
loop-transaction-preserved c =
    let e = line_at (goal.at.loop-transaction-preserved c).After-record_line in
    let more = lines_more (with_reasons c.args.columns) c.args.records.now c.loop-transaction.transaction-index in
    grind (arith, append_assoc)
