-- For every sound history, the lines that demand 3 describes from the history alone are exactly the lines that keep every edge of the graph.
use Rattle.std.proofs.Common.{ℕ, ◌≡◌, sym, ◌∙◌, subst, true, List, ⊎_elim, ◌↔◌}
use Rattle.histories.specs.Earlier.{Writer}
use Rattle.histories.specs.History.{History}
use Rattle.histories.specs.Order.{comes_before}
use Rattle.histories.specs.Reasons.{conflict, write_order, read_before, edge}
use Rattle.histories.specs.Chapter.{serialization_edge, ReadsFrom}
use Rattle.histories.specs.Sound.{Sound}
use Rattle.histories.proofs.Orders.{one_comes_first}
use Rattle.histories.proofs.Reasons.{InWriteOrder, ReadBefore, write_order_found, read_before_found}
use Rattle.histories.proofs.Edges.{Two, edge_two, edge_reasons}
use Rattle.histories.proofs.Chapter.{ordered_edge, reader_edge, extends_SG, source_writes, counts_of, reads_from}
use Rattle.lines.specs.Lines.{stands_before, Line}
use Rattle.lines.proofs.Chosen.{within_edge}
use Rattle.lines.proofs.Stands.{stands_not_itself, one_stands_first, not_both}
use Rattle.serial.specs.Serial.{KeepsWriteOrder, InLogOrder, SerialLine}
use Rattle.serial.proofs.Graphs.{line_keeps}
use Rattle.serial.proofs.LogOrders.{conflict_kept, log_order_exactly}
use Rattle.serial.proofs.OneCopy.{NoneEverBetween, one_copy_line, one_copy_between}

module _ (h : History) (sound : Sound h) (line : List ℕ) where
  -- a serial line keeps every edge
  module _ (s : SerialLine h line) where
    in_order : InLogOrder h line
    in_order = s.one_copy.in_log_order

    -- .. a reader stands before each writer that comes after its source, since none stands between
    reader_first : (i j : ℕ) → Two h i j → ReadBefore h i j → stands_before line i j ≡ true
    reader_first i j two r =
        ⊎_elim (λ (a : stands_before line i j ≡ true). a) (λ (b : stands_before line j i ≡ true). absurd (between b))
        (one_stands_first line i j (in_order.all_and_only i ∙ two.from_part) (in_order.all_and_only j ∙ two.to_part) two.other)
      where
        from : ReadsFrom h (h.item r.at) (h.transaction r.at) r.origin r.at
        from = reads_from h r.at r.origin (counts_of h r.at i r.there r.reader two.from_part) r.is_real r.from

        writer : Writer h (h.item r.at) j
        writer = record { part = two.to_part; wrote = r.next.wrote }

        source_first : stands_before line r.origin j ≡ true
        source_first =
            s.keeps_write_order (h.item r.at) r.origin j
            (source_writes h sound (h.item r.at) (h.transaction r.at) r.origin r.at from) writer (λ q. r.next.other (sym q)) r.next.comes_after

        between : stands_before line j i ≡ true → ⊥
        between b =
            not_both line r.origin j in_order.each_once source_first
            (one_copy_between h line sound s.one_copy r.at r.origin from j writer r.next.other (subst (λ (t : ℕ). stands_before line j t ≡ true) (sym r.reader) b))

    -- so each of the three reasons puts i before j
    keeps_edge : (i j : ℕ) → edge h i j ≡ true → stands_before line i j ≡ true
    keeps_edge i j b =
        let two = edge_two h i j b in
        ⊎_elim (λ (a : conflict h i j ≡ true). conflict_kept h line in_order i j two a)
        (⊎_elim (λ (a : write_order h i j ≡ true). by_order two (write_order_found h i j a))
        (λ (a : read_before h i j ≡ true). reader_first i j two (read_before_found h i j a)))
        (edge_reasons h i j b)
      where
        by_order : Two h i j → InWriteOrder h i j → stands_before line i j ≡ true
        by_order two w =
            s.keeps_write_order w.of_item i j (record { part = two.from_part; wrote = w.wrote })
            (record { part = two.to_part; wrote = w.next.wrote }) two.other w.next.comes_after

    serial_line : Line (edge h) h.takes_part line
    serial_line =
        record {
          none_twice = in_order.each_once;
          all_and_only = in_order.all_and_only;
          keeps_edges = λ i j b. keeps_edge i j (within_edge (edge h) h.takes_part i j b);
        }

  -- a line that keeps every edge is serial
  module _ (l : Line (edge h) h.takes_part line) where
    kept : (i j : ℕ) → edge h i j ≡ true → stands_before line i j ≡ true
    kept = line_keeps h (edge h) (edge_two h) line l

    -- .. it keeps those of SG
    in_log_order : InLogOrder h line
    in_log_order =
        (log_order_exactly h line).1
        (record {
          none_twice = l.none_twice;
          all_and_only = l.all_and_only;
          keeps_edges = λ i j b. kept i j (extends_SG h i j (within_edge (serialization_edge h) h.takes_part i j b));
        })

    order_kept : KeepsWriteOrder h line
    order_kept x i j v w d b = kept i j (ordered_edge h x i j v w d b)

    -- .. of the writers before a reader none comes after its source, so each stands before it
    none_after : NoneEverBetween h line
    none_after k s r t w d b =
        ⊎_elim (λ (g : comes_before h (h.item k) t s ≡ true). order_kept (h.item k) t s w v d g)
        (λ (g : comes_before h (h.item k) s t ≡ true). absurd (wrong_way g)) (one_comes_first h sound (h.item k) t s w v d)
      where
        v : Writer h (h.item k) s
        v = source_writes h sound (h.item k) (h.transaction k) s k r

        wrong_way : comes_before h (h.item k) s t ≡ true → ⊥
        wrong_way g =
            not_both line t (h.transaction k) l.none_twice b
            (kept (h.transaction k) t
            (reader_edge h (h.item k) s (h.transaction k) t k r w d
            (λ q. stands_not_itself line t l.none_twice (subst (λ (u : ℕ). stands_before line t u ≡ true) (sym q) b)) g))

    line_serial : SerialLine h line
    line_serial = record { one_copy = one_copy_line h line sound in_log_order none_after; keeps_write_order = order_kept }

  -- THEOREM: the lines that demand 3 asks for are the lines of the graph
  pub serial_exactly : SerialLine h line ↔ Line (edge h) h.takes_part line
  serial_exactly = (serial_line, line_serial)
