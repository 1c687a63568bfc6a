-- What the functions above the check ask of a log: that it is within the limits, and that its history is sound.
use Rattle.std.specs.Prelude.{ℕ, ◌*◌, ◌<◌, ◌≤◌, ◌≡◌, List, length}
use Rattle.histories.specs.Faults.{CommitsOnce}
use Rattle.histories.specs.Sound.{Sound}
use Rattle.rules.specs.Record.{Within, record_bytes, most_records, records}
use Rattle.rules.specs.LogHistory.{history_of}

-- every record is there and within the limits
abbrev pub InLimits : List ℕ → Type 0
InLimits log = (k : ℕ) → k < records log → Within log k

pub record Passes (log : List ℕ) : Type 0 where
  pub whole : length log ≡ records log * record_bytes
  pub few : records log ≤ most_records
  pub in_limits : InLimits log
  pub commits_once : CommitsOnce (history_of log)
  pub sound : Sound (history_of log)
