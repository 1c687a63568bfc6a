-- A set of numbers below 64 is a number of 64 bits: i is in the set where bit i is 1. A table of such sets has one for each
-- number below its length.
use Rattle.std.specs.Prelude.{ℕ, zero, suc, ◌+◌, ◌/◌, ◌%◌, ◌^◌, ◌≡◌, List, [], ◌∷◌, ◌++◌, Bool, cond, eqb, length, get_or}

-- how many numbers there are that a set may have: those below 64
abbrev pub numbers : ℕ
numbers = 64

-- i is in the set x
unfoldable pub has : ℕ → ℕ → Bool
has x i = eqb (x / 2 ^ i % 2) 1

-- the set of the numbers below n that pass the test: the sum of their powers of 2
unfoldable pub set_of : ℕ → (ℕ → Bool) → ℕ
set_of zero p = 0
set_of (suc n) p = cond (p n) (2 ^ n) 0 + set_of n p

-- j is in the set at place i of a table
abbrev pub in_row : List ℕ → ℕ → ℕ → Bool
in_row table i j = has (get_or table i 0) j

-- the table of n sets, of which number i is `row i`
unfoldable pub table_of : ℕ → (ℕ → ℕ) → List ℕ
table_of zero row = []
table_of (suc n) row = table_of n row ++ (row n ∷ [])

-- a table that holds a relation: bit j of number i is 1 exactly where the relation holds from i to j. It is said of every i and j, so
-- the relation holds from nothing past the table's end.
pub record Holds (wide : ℕ) (relation : ℕ → ℕ → Bool) (table : List ℕ) : Type 0 where
  pub whole : length table ≡ wide
  pub said : (i j : ℕ) → in_row table i j ≡ relation i j
