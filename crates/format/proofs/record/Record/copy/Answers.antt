-- `Record::copy` meets its contract: the number is made of the record's item and site, which are within their limits.
use Rattle.std.proofs.Common.{ap₂, ◌∙◌}
use Rattle.rules.specs.Record.{copy_number, copy_of}
use Rattle.format.proofs.record.Record.copy.Goals as goal

pub returns-clause-value : goal.returns-clause-value
unfolding copy_of
returns-clause-value c =
    let e = c in
    rw (← c.self.view_is)
    (c.number.ensures.0 ∙ ap₂ copy_number (c.new.ensures.0 ∙ e.bytes_at-bytes.ensures.2) (c.new.ensures.1 ∙ e.bytes_at-bytes.ensures.3))
