-- Paths and cycles of a relation between numbers: those of any graph.
use Rattle.std.specs.Prelude.{ℕ, ◌≡◌, Bool, true}

-- node i precedes node j, as in the chapter: "there is a path" from i to j, here of one edge or more
pub data Precedes (edge : ℕ → ℕ → Bool) : ℕ → ℕ → Type 0 where
  by_edge : {i j : ℕ} → edge i j ≡ true → Precedes edge i j
  edge_then : {i j k : ℕ} → edge i j ≡ true → Precedes edge j k → Precedes edge i k

-- the graph has no cycle: nothing precedes itself
abbrev pub Acyclic : (ℕ → ℕ → Bool) → Type 0
Acyclic edge = (i : ℕ) → Precedes edge i i → ⊥
