-- Past the end of three tables of edges there is none.
use Rattle.std.proofs.Common.{ℕ, ◌≤◌, ◌≡◌, List, false, not, eqb, length}
use Rattle.std.proofs.Math.Bool.{and-false}
use Rattle.sets.proofs.Tables.{row_past}
use Rattle.rules.specs.Record.{transactions}
use Rattle.tables.specs.ReasonTables.{any_reason}

pub past_all : (first second third : List ℕ) → length first ≡ transactions → length second ≡ transactions → length third ≡ transactions
    → (i j : ℕ) → transactions ≤ i → any_reason first second third i j ≡ false
past_all first second third a b c i j l =
    rw (row_past first i j (rw a l), row_past second i j (rw b l), row_past third i j (rw c l)) (and-false (not (eqb i j)))
