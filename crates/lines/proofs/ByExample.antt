-- The rule by examples, each computed from the definitions alone: what it says of small graphs, where another rule would say something else.
-- `last_below` is opened too, so that a rule which takes the last where this one takes the first computes to something else.
use Rattle.std.proofs.Common.{ℕ, ◌≡◌, refl, Bool, true, false, ◌&&◌, ◌||◌, List, [], ◌∷◌, eqb, ltb}
use mathlib.Core.Option.{Option-elim}
use Rattle.sets.specs.Search.{some_below, first_below, last_below, without}
use Rattle.lines.specs.Rule.{predecessor, among, place_of, lowest_member, to_lowest, walk, ready, next, placed, rest}
use Rattle.lines.specs.Rule.{lowest_predecessor, cycle_from, sorted, line, cycle}
use Rattle.lines.specs.Lines.{stands_before, edge_within, Line}

-- the graph with these edges, each from the first to the second
abbrev edges : List (ℕ × ℕ) → ℕ → ℕ → Bool
edges [] s t = false
edges (e ∷ es) s t = (eqb e.0 s && eqb e.1 t) || edges es s t

-- the set of the numbers below k
abbrev first_ones : ℕ → ℕ → Bool
first_ones k t = ltb t k

-- 0 waits for 2. The edge from 1 to itself does not count, nor does the one to 3 from 4, which is not in the set. So 1 is the lowest that
-- is ready, then 2; then 0 is, and 3 comes last.
abbrev few : ℕ → ℕ → Bool
few = edges ((2, 0) ∷ (1, 1) ∷ (4, 3) ∷ [])

pub a_line : sorted 5 few (first_ones 4) ≡ line (1 ∷ 2 ∷ 0 ∷ 3 ∷ [])
unfolding sorted placed rest next ready predecessor some_below first_below last_below without Option-elim
a_line = refl

-- and in every line that keeps these edges 2 stands before 0
pub an_edge_kept : (xs : List ℕ) → Line few (first_ones 4) xs → stands_before xs 2 0 ≡ true
unfolding edge_within
an_edge_kept xs l = l.keeps_edges 2 0 refl

-- 1 is placed, and no other can be. From 0, the lowest left, the walk goes back to 3 (1 is no longer left), to 2, to 4 (5 is higher), and to 3
-- again. 0 was met before 3 first came, so it is not on the cycle. Along the edges and from its lowest number this is 2, 3, 4.
pub a_cycle : sorted 6 (edges ((1, 0) ∷ (3, 0) ∷ (2, 3) ∷ (4, 2) ∷ (5, 2) ∷ (3, 4) ∷ (2, 5) ∷ [])) (first_ones 6) ≡ cycle (2 ∷ 3 ∷ 4 ∷ [])
unfolding sorted rest next ready predecessor lowest_predecessor cycle_from to_lowest lowest_member place_of among walk some_below
    first_below last_below without Option-elim
a_cycle = refl

-- of two cycles the rule gives the one that is found from the lowest left
pub first_of_two_cycles : sorted 4 (edges ((0, 1) ∷ (1, 0) ∷ (2, 3) ∷ (3, 2) ∷ [])) (first_ones 4) ≡ cycle (0 ∷ 1 ∷ [])
unfolding sorted rest next ready predecessor lowest_predecessor cycle_from to_lowest lowest_member place_of among walk some_below
    first_below last_below without Option-elim
first_of_two_cycles = refl
