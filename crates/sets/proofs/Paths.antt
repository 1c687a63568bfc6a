-- Laws of the paths of a relation between numbers.
use Rattle.std.proofs.Common.{ℕ, ◌≡◌, Bool, true}
use Rattle.sets.specs.Paths.{Precedes, by_edge, edge_then}

-- paths of a smaller graph are paths of a larger one
pub precedes_more : (small large : ℕ → ℕ → Bool) → ((i j : ℕ) → small i j ≡ true → large i j ≡ true)
    → (i j : ℕ) → Precedes small i j → Precedes large i j
precedes_more small large m i j (by_edge h) = by_edge (m i j h)
precedes_more small large m i j (edge_then {j = k} h p) = edge_then (m i k h) (precedes_more small large m k j p)
