-- `Passed::check` meets its contract: a log in which the check finds nothing to refuse is one that passes.
use Rattle.std.proofs.Common.{sym}
use Rattle.rules.proofs.PassedLogs.{passed_passes}
use Rattle.checked_log.proofs.passed.Passed.check.Goals as goal

pub new-requires : goal.new-requires
new-requires c = passed_passes c.args.log.now (sym c.in_ok-check.ensures)
