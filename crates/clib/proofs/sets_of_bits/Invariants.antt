-- What the loop keeps of the sets: as many as the table has numbers, and those before i have the numbers of the table.
use Rattle.std.proofs.Common.{◌≡◌, ◌<◌, ℕ, length, get_or}
use Rattle.clib.proofs.sets_of_bits.Given as goal

abbrev pub invariant-loop-i : goal.invariant-loop-i
invariant-loop-i l = (length l.sets ≡ length l.table) × ((j : ℕ) → j < l.i → get_or l.sets j 0 ≡ get_or l.table j 0)
