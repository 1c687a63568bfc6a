-- What the check leaves to show of `checked_log::check::content_answer`; its invariant stands beside this file.
use Rattle.rules.specs.Refusals.{record_rows}
use Rattle.rules.proofs.Rows.{over_zero}
use Rattle.checked_log.proofs.check.content_answer.Goals as goal

pub loop-k-init : goal.loop-k-init
loop-k-init c = record { passes = over_zero (record_rows c.args.log.now); kept = c.new-kept.ensures c.args.log.now }
