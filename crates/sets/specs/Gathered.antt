-- What a pass over numbers has gathered of what they say, in a set or in a table of sets: a pass forward has met those below k, a pass from the
-- end of n numbers those from k on.
use Rattle.std.specs.Prelude.{ℕ, ◌≡◌, List, Bool, ◌||◌, length}
use Rattle.sets.specs.Search.{some_below, some_from}
use Rattle.sets.specs.Bits.{has, in_row, Holds}

-- `says e j`: number e says that j is in the set
pub record SetBelow (says : ℕ → ℕ → Bool) (k x : ℕ) : Type 0 where
  pub said : (j : ℕ) → has x j ≡ some_below k (λ e. says e j)

pub record SetFrom (says : ℕ → ℕ → Bool) (n k x : ℕ) : Type 0 where
  pub said : (j : ℕ) → has x j ≡ some_from k n (λ e. says e j)

-- `says e i j`: number e says that j is in the set at i of a table of so many sets
abbrev pub TableBelow : (wide : ℕ) → (ℕ → ℕ → ℕ → Bool) → (k : ℕ) → List ℕ → Type 0
TableBelow wide says k = Holds wide (λ i j. some_below k (λ e. says e i j))

abbrev pub TableFrom : (wide : ℕ) → (ℕ → ℕ → ℕ → Bool) → (n k : ℕ) → List ℕ → Type 0
TableFrom wide says n k = Holds wide (λ i j. some_from k n (λ e. says e i j))

-- a table to which what one number says was added, in words of the table as it was
abbrev pub Added : (ℕ → ℕ → Bool) → List ℕ → List ℕ → Type 0
Added says old = Holds (length old) (λ i j. in_row old i j || says i j)
