-- Document 01's rule for the line and the cycle, over any edges between the numbers below n and any set of them. Edges from a transaction
-- to itself, and edges to or from one outside the set, are never asked for.
use Rattle.std.specs.Prelude.{ℕ, zero, suc, min, Bool, false, ◌&&◌, ◌||◌, not, cond, List, [], ◌∷◌, ◌++◌, eqb, length, take, drop}
use Rattle.std.proofs.Math.Option.{Option, Option-elim}
use Rattle.sets.specs.Search.{some_below, first_below, without}

-- s is a predecessor of t among those left: it is left, it is not t, and there is an edge from s to t
unfoldable pub predecessor : (ℕ → ℕ → Bool) → (ℕ → Bool) → ℕ → ℕ → Bool
predecessor edge left t s = left s && (not (eqb s t) && edge s t)

-- x is in the list
unfoldable pub among : List ℕ → ℕ → Bool
among [] x = false
among (y ∷ ys) x = eqb y x || among ys x

-- the place of x in the list, where it is in it: how many stand before it
unfoldable pub place_of : ℕ → List ℕ → ℕ
place_of x [] = 0
place_of x (y ∷ ys) = cond (eqb y x) 0 (suc (place_of x ys))

-- the list up to the first x in it, and x
abbrev pub up_to : ℕ → List ℕ → List ℕ
up_to x xs = take (suc (place_of x xs)) xs

-- the lowest number of a list
unfoldable pub lowest_member : List ℕ → ℕ
lowest_member [] = 0
lowest_member (x ∷ []) = x
lowest_member (x ∷ y ∷ ys) = min x (lowest_member (y ∷ ys))

-- the list from place k on, and then what stands before that place
abbrev pub turned : ℕ → List ℕ → List ℕ
turned k xs = drop k xs ++ take k xs

-- the list turned so that it starts with its lowest number
unfoldable pub to_lowest : List ℕ → List ℕ
to_lowest xs = turned (place_of (lowest_member xs) xs) xs

-- "and so on until a transaction comes again. The transactions from its first coming on form the cycle." A step goes back from t, the
-- front of the path, to some s. Where s is not on the path, it is put in front, so that the path stands along the edges. Where it is, the
-- cycle is the path up to it. At most m steps; where they are used up, or there is no step back, nothing. (Neither occurs where each has
-- a predecessor and m is at least the number of members.)
unfoldable pub walk : (ℕ → Option ℕ) → ℕ → ℕ → List ℕ → List ℕ
walk back zero t path = []
walk back (suc m) t path =
    Option-elim (back t) [] (λ s. cond (among path s) (up_to s path) (walk back m s (s ∷ path)))

-- what the rule gives: a line or a cycle
pub data LineOrCycle (A : Type 0) : Type 0 where
  line : A → LineOrCycle A
  cycle : A → LineOrCycle A

module _ (n : ℕ) (edge : ℕ → ℕ → Bool) where
  -- t is left, and its "predecessors all stand already": none of them is left
  unfoldable pub ready : (ℕ → Bool) → ℕ → Bool
  ready left t = left t && not (some_below n (predecessor edge left t))

  -- "At each place stands the lowest-numbered transaction whose predecessors all stand already."
  unfoldable pub next : (ℕ → Bool) → Option ℕ
  next left = first_below n (ready left)

  -- "Place transactions by the same rule until none can be placed": those placed, in their order, at most m of them. When t is placed, the
  -- others are left,
  unfoldable pub placed : ℕ → (ℕ → Bool) → List ℕ
  placed zero left = []
  placed (suc m) left = Option-elim (next left) [] (λ t. t ∷ placed m (without left t))

  -- and those that are then left
  unfoldable pub rest : ℕ → (ℕ → Bool) → ℕ → Bool
  rest zero left = left
  rest (suc m) left = Option-elim (next left) left (λ t. rest m (without left t))

  -- "its lowest-numbered predecessor among those left"
  unfoldable pub lowest_predecessor : (ℕ → Bool) → ℕ → Option ℕ
  lowest_predecessor left t = first_below n (predecessor edge left t)

  -- From t "go to its lowest-numbered predecessor among those left, and so on": "it is written along the edges and starts with its lowest
  -- number."
  unfoldable pub cycle_from : (ℕ → Bool) → ℕ → List ℕ
  cycle_from left t = to_lowest (walk (lowest_predecessor left) n t (t ∷ []))

  -- the line, where all have been placed; else the cycle that is found "from the lowest-numbered one left"
  unfoldable pub sorted : (ℕ → Bool) → LineOrCycle (List ℕ)
  sorted set =
      Option-elim (first_below n (rest n set)) (line (placed n set)) (λ t. cycle (cycle_from (rest n set) t))

-- the members of the line or the cycle
abbrev pub members_of : LineOrCycle (List ℕ) → List ℕ
members_of (line xs) = xs
members_of (cycle xs) = xs

-- how many they are
abbrev pub length_of : LineOrCycle (List ℕ) → LineOrCycle ℕ
length_of (line xs) = line (length xs)
length_of (cycle xs) = cycle (length xs)
