-- What the sort keeps true of the predecessors kept: for each transaction, the one that it was last seen to wait for.
use Rattle.std.specs.Prelude.{ℕ, ◌<◌, ◌≡◌, Bool, true, false, List, get_or}
use Rattle.std.proofs.Math.Option.{some}
use Rattle.sets.specs.Bits.{numbers}
use Rattle.lines.specs.Rule.{predecessor, lowest_predecessor}

-- None of its predecessors below the one kept is left. Those left only become fewer, so this stays true, and a search need not begin again.
abbrev pub Searched : (ℕ → ℕ → Bool) → (ℕ → Bool) → List ℕ → Type 0
Searched edge left waits = (t s : ℕ) → s < get_or waits t 0 → predecessor edge left t s ≡ false

-- every transaction left waits, and the one kept is its lowest predecessor
abbrev pub Blocked : (ℕ → ℕ → Bool) → (ℕ → Bool) → List ℕ → Type 0
Blocked edge left waits = (t : ℕ) → left t ≡ true → lowest_predecessor numbers edge left t ≡ some (get_or waits t 0)
