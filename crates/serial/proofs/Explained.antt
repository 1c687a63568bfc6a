-- For every sound history: what document 01's rule gives explains it, and it gives a line exactly where a serial line exists, which is
-- exactly where the graph has no cycle.
use Rattle.std.proofs.Common.{ℕ, ◌≡◌, refl, subst, List, ◌↔◌}
use Rattle.sets.specs.Paths.{Acyclic}
use Rattle.histories.specs.History.{History}
use Rattle.histories.specs.Reasons.{edge}
use Rattle.histories.specs.Sound.{Sound}
use Rattle.histories.proofs.Edges.{edge_two}
use Rattle.histories.proofs.Chapter.{acyclic_is_RDSG}
use Rattle.lines.specs.Rule.{LineOrCycle, line, cycle, sorted}
use Rattle.lines.specs.Lines.{Below, SmallestLine, Means}
use Rattle.lines.proofs.Placing.{line_length}
use Rattle.lines.proofs.Sorts.{sorted_means, line_where_given}
use Rattle.serial.specs.Serial.{SerialLine}
use Rattle.serial.specs.Explains.{Explains, ExplainsByLine, ExplainsByCycle}
use Rattle.serial.proofs.Graphs.{cycle_goes_round, line_keeps, line_no_cycle}
use Rattle.serial.proofs.SerialLines.{serial_exactly}
use Rattle.serial.proofs.LastWrites.{last_writes}

module _ (h : History) (sound : Sound h) (n : ℕ) (low : Below n h.takes_part) where
  -- what the rule gives
  abbrev given : LineOrCycle (List ℕ)
  given = sorted n (edge h) h.takes_part

  line_explains : (xs : List ℕ) → SmallestLine (edge h) h.takes_part xs → ExplainsByLine h n xs
  line_explains xs w =
      let l = w.is_line in
      let serial = (serial_exactly h sound xs).1 l in
      let acyclic = line_no_cycle h (edge h) (edge_two h) xs l in
      record {
        smallest = record { is_serial = serial; smallest = λ other s. w.smallest other ((serial_exactly h sound other).0 s) };
        last_writes_kept = last_writes h sound xs serial.one_copy.in_log_order;
        keeps_every_edge = line_keeps h (edge h) (edge_two h) xs l;
        is_RDSG = acyclic_is_RDSG h sound acyclic;
        acyclic = acyclic;
        all_of_them = line_length (edge h) n h.takes_part xs low l;
      }

  explains : (o : LineOrCycle (List ℕ)) → Means n (edge h) h.takes_part o → Explains h n o
  explains (line xs) w = line_explains xs w
  explains (cycle xs) (is_cycle, lowest, most, no_line) =
      record {
        is_cycle = is_cycle;
        starts_lowest = lowest;
        at_most = most;
        no_line = λ other s. no_line other ((serial_exactly h sound other).0 s);
        not_acyclic = cycle_goes_round h (edge h) xs is_cycle;
      }

  -- THEOREM: what the rule gives explains the history
  pub rule_explains : Explains h n given
  rule_explains = explains given (sorted_means n (edge h) h.takes_part low)

  -- .. by its case
  pub by_line : (xs : List ℕ) → given ≡ line xs → ExplainsByLine h n xs
  by_line xs q = subst (Explains h n) q rule_explains

  pub by_cycle : (xs : List ℕ) → given ≡ cycle xs → ExplainsByCycle h n xs
  by_cycle xs q = subst (Explains h n) q rule_explains

  -- THEOREM: a line is given "exactly if some line .. exists" that is serial,
  pub line_exactly : ((xs : List ℕ) × SerialLine h xs) ↔ ((xs : List ℕ) × (given ≡ line xs))
  line_exactly = (ahead, back)
    where
      ahead : (xs : List ℕ) × SerialLine h xs → (xs : List ℕ) × (given ≡ line xs)
      ahead (xs, s) = (line_where_given n (edge h) h.takes_part low).0 (xs, (serial_exactly h sound xs).0 s)

      back : (xs : List ℕ) × (given ≡ line xs) → (xs : List ℕ) × SerialLine h xs
      back (xs, q) = (xs, (by_line xs q).smallest.is_serial)

  -- THEOREM: a cycle where there is none,
  pub cycle_exactly : ((xs : List ℕ) → SerialLine h xs → ⊥) ↔ ((xs : List ℕ) × (given ≡ cycle xs))
  cycle_exactly = (λ f. ahead f given refl, back)
    where
      ahead : ((xs : List ℕ) → SerialLine h xs → ⊥) → (o : LineOrCycle (List ℕ)) → given ≡ o → (xs : List ℕ) × (given ≡ cycle xs)
      ahead f (line xs) q = absurd (f xs (by_line xs q).smallest.is_serial)
      ahead f (cycle xs) q = (xs, q)

      back : (xs : List ℕ) × (given ≡ cycle xs) → (ys : List ℕ) → SerialLine h ys → ⊥
      back (xs, q) = (by_cycle xs q).no_line

  -- THEOREM: and a line exactly where the graph has no cycle
  pub acyclic_exactly : ((xs : List ℕ) × (given ≡ line xs)) ↔ Acyclic (edge h)
  acyclic_exactly = (ahead, λ f. back f given refl)
    where
      ahead : (xs : List ℕ) × (given ≡ line xs) → Acyclic (edge h)
      ahead (xs, q) = (by_line xs q).acyclic

      back : Acyclic (edge h) → (o : LineOrCycle (List ℕ)) → given ≡ o → (xs : List ℕ) × (given ≡ line xs)
      back f (line xs) q = (xs, q)
      back f (cycle xs) q = absurd ((by_cycle xs q).not_acyclic f)
