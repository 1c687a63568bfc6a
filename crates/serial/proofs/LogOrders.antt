-- The lines in which conflicts keep log order are exactly the lines of SG; so where there is one, SG has no cycle.
use Rattle.std.proofs.Common.{ℕ, arith, ◌≡◌, sym, ◌∙◌, subst₂, true, List, ◌↔◌}
use Rattle.sets.specs.Paths.{Acyclic}
use Rattle.histories.specs.History.{History}
use Rattle.histories.specs.Reasons.{conflict}
use Rattle.histories.specs.Chapter.{serialization_edge}
use Rattle.histories.proofs.Reasons.{conflict_found}
use Rattle.histories.proofs.Edges.{Two}
use Rattle.histories.proofs.Chapter.{conflict_in_SG, counts_of, SG_two, SG_conflict}
use Rattle.lines.specs.Lines.{stands_before, Line}
use Rattle.lines.proofs.Chosen.{within_edge}
use Rattle.serial.specs.Serial.{InLogOrder}
use Rattle.serial.proofs.Graphs.{line_keeps, line_no_cycle}

module _ (h : History) (line : List ℕ) where
  -- of two with a conflict the first stands first
  pub conflict_kept : InLogOrder h line → (i j : ℕ) → Two h i j → conflict h i j ≡ true → stands_before line i j ≡ true
  conflict_kept s i j two b =
      let c = conflict_found h i j b in
      subst₂ (λ (t u : ℕ). stands_before line t u ≡ true) c.from c.to
      (s.keeps_conflicts c.first c.second c.in_order
      (counts_of h c.first i (omega (arith, c.in_order, c.there)) c.from two.from_part)
      (counts_of h c.second j c.there c.to two.to_part) c.conflict_between (λ q. two.other (sym c.from ∙ q ∙ c.to)))

  -- THEOREM: lines in log order are lines of SG
  pub log_order_exactly : InLogOrder h line ↔ Line (serialization_edge h) h.takes_part line
  log_order_exactly = (ahead, back)
    where
      ahead : InLogOrder h line → Line (serialization_edge h) h.takes_part line
      ahead s =
          record {
            none_twice = s.each_once;
            all_and_only = s.all_and_only;
            keeps_edges = λ i j b.
                let g = within_edge (serialization_edge h) h.takes_part i j b in conflict_kept s i j (SG_two h i j g) (SG_conflict h i j g);
          }

      back : Line (serialization_edge h) h.takes_part line → InLogOrder h line
      back l =
          record {
            each_once = l.none_twice;
            all_and_only = l.all_and_only;
            keeps_conflicts = λ e f m v w b d.
                line_keeps h (serialization_edge h) (SG_two h) line l (h.transaction e) (h.transaction f) (conflict_in_SG h e f m v w d b);
          }

  pub log_order_no_cycle : InLogOrder h line → Acyclic (serialization_edge h)
  log_order_no_cycle s = line_no_cycle h (serialization_edge h) (SG_two h) line (log_order_exactly.0 s)
