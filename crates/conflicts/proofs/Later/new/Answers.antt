-- `Later::new` meets its contract: no record stands at the end of a log or past it.
use Rattle.std.proofs.Common.{◌*◌}
use Rattle.histories.specs.History.{uses_copy, writes_copy}
use Rattle.rules.specs.LogHistory.{history_of}
use Rattle.rules.specs.Record.{items, sites}
use Rattle.tables.proofs.Adding.{empty_table, later_start}
use Rattle.conflicts.proofs.Later.new.Goals as goal

pub returns : goal.returns
returns c = λ log. record {
  users = later_start log (uses_copy (history_of log)) (items * sites) (empty_table (items * sites));
  writers = later_start log (writes_copy (history_of log)) (items * sites) (empty_table (items * sites));
}
