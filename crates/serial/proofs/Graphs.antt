-- A graph whose edges join two different transactions that take part: its lines keep every edge, so they leave no cycle.
use Rattle.std.proofs.Common.{ℕ, arith, ◌≡◌, Bool, true, List, [], ◌∷◌}
use Rattle.sets.specs.Paths.{Acyclic}
use Rattle.sets.proofs.Paths.{precedes_more}
use Rattle.histories.specs.History.{History}
use Rattle.histories.proofs.Edges.{Two}
use Rattle.lines.specs.Lines.{edge_within, stands_before, Line, Cycle}
use Rattle.lines.proofs.Chosen.{is_within, within_edge}
use Rattle.lines.proofs.Placing.{line_acyclic}
use Rattle.lines.proofs.Rings.{cycle_precedes}

module _ (h : History) (graph : ℕ → ℕ → Bool) where
  -- a cycle goes round
  pub cycle_goes_round : (xs : List ℕ) → Cycle graph h.takes_part xs → Acyclic graph → ⊥
  cycle_goes_round [] c acyclic = omega (arith, c.at_least_two)
  cycle_goes_round (x ∷ xs) c acyclic =
      acyclic x
      (precedes_more (edge_within graph h.takes_part) graph (within_edge graph h.takes_part) x x
      (cycle_precedes graph h.takes_part x xs c))

  module _ (joins : (i j : ℕ) → graph i j ≡ true → Two h i j) where
    within : (i j : ℕ) → graph i j ≡ true → edge_within graph h.takes_part i j ≡ true
    within i j b = let w = joins i j b in is_within graph h.takes_part i j w.from_part w.to_part w.other b

    module _ (line : List ℕ) (l : Line graph h.takes_part line) where
      pub line_keeps : (i j : ℕ) → graph i j ≡ true → stands_before line i j ≡ true
      line_keeps i j b = l.keeps_edges i j (within i j b)

      pub line_no_cycle : Acyclic graph
      line_no_cycle t p =
          line_acyclic graph h.takes_part line l t (precedes_more graph (edge_within graph h.takes_part) within t t p)
