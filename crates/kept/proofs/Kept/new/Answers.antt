-- `Kept::new` meets its contract: before the first record nothing has happened.
use Rattle.std.proofs.Common.{◌*◌}
use Rattle.histories.specs.History.{writes_copy, writes_item}
use Rattle.rules.specs.LogHistory.{history_of}
use Rattle.rules.specs.Record.{items, sites}
use Rattle.kept.proofs.Keeping.{writers_start, names_start, commits_start}
use Rattle.kept.proofs.Kept.new.Goals as goal

pub returns : goal.returns
returns c = λ log. record {
  copies = writers_start log (writes_copy (history_of log)) (items * sites);
  items = writers_start log (writes_item (history_of log)) items;
  names = names_start log;
  commits = commits_start log;
}
