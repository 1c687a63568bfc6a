-- Tables of edges, a table for each reason: what they say of two transactions.
use Rattle.std.specs.Prelude.{ℕ, List, Bool, not, ◌&&◌, ◌||◌, cond, eqb}
use Rattle.sets.specs.Bits.{in_row}
use Rattle.histories.specs.Reasons.{lowest_reason}

-- an edge for one of the three reasons, from i to another
abbrev pub any_reason : (first second third : List ℕ) (i j : ℕ) → Bool
any_reason first second third i j = not (eqb i j) && (in_row first i j || in_row second i j || in_row third i j)

-- the lowest of its reasons, or 0
abbrev pub lowest_in : (first second third : List ℕ) (i j : ℕ) → ℕ
lowest_in first second third i j = cond (not (eqb i j)) (lowest_reason (in_row first i j) (in_row second i j) (in_row third i j)) 0
