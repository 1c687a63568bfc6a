-- What a line and a cycle mean, without the rule: over any edges and any set.
use Rattle.std.specs.Prelude.{ℕ, ◌<◌, ◌≤◌, ◌≡◌, Bool, true, false, ◌&&◌, ◌||◌, not, List, [], ◌∷◌, ◌++◌, eqb, length, take}
use Rattle.lines.specs.Rule.{among, predecessor, LineOrCycle, line, cycle}

-- the set is of numbers below n
abbrev pub Below : ℕ → (ℕ → Bool) → Type 0
Below n set = (t : ℕ) → set t ≡ true → t < n

-- no number stands twice in the list
abbrev pub NoneTwice : List ℕ → Type 0
NoneTwice [] = Unit {0}
NoneTwice (x ∷ xs) = (among xs x ≡ false) × NoneTwice xs

-- s stands before t in the list
unfoldable pub stands_before : List ℕ → ℕ → ℕ → Bool
stands_before [] s t = false
stands_before (x ∷ xs) s t = (eqb x s && among xs t) || stands_before xs s t

-- an edge that counts: between two different members of the set
unfoldable pub edge_within : (ℕ → ℕ → Bool) → (ℕ → Bool) → ℕ → ℕ → Bool
edge_within edge set s t = (set s && set t) && (not (eqb s t) && edge s t)

-- a line of all members of the set, each once, that keeps every edge
pub record Line (edge : ℕ → ℕ → Bool) (set : ℕ → Bool) (xs : List ℕ) : Type 0 where
  pub none_twice : NoneTwice xs
  pub all_and_only : (t : ℕ) → among xs t ≡ set t
  pub keeps_edges : (s t : ℕ) → edge_within edge set s t ≡ true → stands_before xs s t ≡ true

-- the first list is the second, or smaller than it, read from the left (or ended before it; lines of one set are equally long)
pub data AtMost : List ℕ → List ℕ → Type 0 where
  ended : {ys : List ℕ} → AtMost [] ys
  smaller : {x y : ℕ} {xs ys : List ℕ} → x < y → AtMost (x ∷ xs) (y ∷ ys)
  same_first : {x : ℕ} {xs ys : List ℕ} → AtMost xs ys → AtMost (x ∷ xs) (x ∷ ys)

-- the smallest of the lines that keep every edge
pub record SmallestLine (edge : ℕ → ℕ → Bool) (set : ℕ → Bool) (xs : List ℕ) : Type 0 where
  pub is_line : Line edge set xs
  pub smallest : (ys : List ℕ) → Line edge set ys → AtMost xs ys

-- each number of the list has an edge to the next
abbrev pub Linked : (ℕ → ℕ → Bool) → List ℕ → Type 0
Linked edge [] = Unit {0}
Linked edge (x ∷ []) = Unit {0}
Linked edge (x ∷ y ∷ ys) = (edge x y ≡ true) × Linked edge (y ∷ ys)

-- a cycle of the edges between different members of the set: at least two members, none twice, each with an edge to the next and the last
-- to the first
pub record Cycle (edge : ℕ → ℕ → Bool) (set : ℕ → Bool) (xs : List ℕ) : Type 0 where
  pub at_least_two : 2 ≤ length xs
  pub none_twice : NoneTwice xs
  pub members : (t : ℕ) → among xs t ≡ true → set t ≡ true
  pub round : Linked (edge_within edge set) (xs ++ take 1 xs)

-- it starts with its lowest number
abbrev pub FromLowest : List ℕ → Type 0
FromLowest [] = Unit {0}
FromLowest (x ∷ xs) = (t : ℕ) → among xs t ≡ true → x ≤ t

-- a rest of which none can be placed: it has a member, and every member has a predecessor in it
pub record Stuck (edge : ℕ → ℕ → Bool) (left : ℕ → Bool) : Type 0 where
  pub some_left : (t : ℕ) × (left t ≡ true)
  pub waits : (t : ℕ) → left t ≡ true → (s : ℕ) × (predecessor edge left t s ≡ true)

-- what a line or a cycle says of the edges and the set
abbrev pub Means : ℕ → (ℕ → ℕ → Bool) → (ℕ → Bool) → LineOrCycle (List ℕ) → Type 0
Means n edge set (line xs) = SmallestLine edge set xs
Means n edge set (cycle xs) = Cycle edge set xs × FromLowest xs × (length xs ≤ n) × ((ys : List ℕ) → Line edge set ys → ⊥)
