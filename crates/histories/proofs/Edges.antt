-- Edges and reasons: an edge joins two that take part, for one of the three reasons; its reason is the lowest that applies, and 0 exactly
-- where there is no edge.
use Rattle.std.proofs.Common.{ℕ, ◌<◌, ◌≤◌, arith, ◌≡◌, refl, sym, ap, subst, Bool, true, false, not, ◌&&◌, ◌||◌, cond, true≢false, ◌⊎◌, inl, inr}
use Rattle.std.proofs.Common.{⊎_elim, ◌↔◌, eqb, ne_eqb}
use Rattle.std.proofs.Math.Decide.{dec_lt}
use Rattle.std.proofs.lemmas.Bool.{eqb-false, not-true, cases_Bool, and_parts, or_cases, or_left, or_right}
use Rattle.std.proofs.Math.Bool.{and-false}
use borrow.Author.Clash.{clash}
use Rattle.histories.specs.History.{History}
use Rattle.histories.specs.Earlier.{writes}
use Rattle.histories.specs.Reasons.{lowest_reason, conflict, write_order, read_before, two_of_them, edge, reason}
use Rattle.histories.specs.Reasons.{Applies, by_conflict, by_write_order, by_read_before, TrueReason}
use Rattle.histories.proofs.OfTransactions.{writes_found}
use Rattle.histories.proofs.Reasons.{conflict_found, write_order_found, read_before_found}

-- the lowest of three reasons is 0 exactly where none applies
lowest_zero : (a b c : Bool) → (lowest_reason a b c ≡ 0) ↔ ((a || b || c) ≡ false)
lowest_zero true b c = (λ h. absurd (omega arith), λ h. absurd (true≢false h))
lowest_zero false true c = (λ h. absurd (omega arith), λ h. absurd (true≢false h))
lowest_zero false false true = (λ h. absurd (omega arith), λ h. absurd (true≢false h))
lowest_zero false false false = (λ h. refl, λ h. refl)

module _ (h : History) (i j : ℕ) where
  -- two different transactions that take part
  pub record Two : Type 0 where
    pub from_part : h.takes_part i ≡ true
    pub to_part : h.takes_part j ≡ true
    pub other : i ≡ j → ⊥

  pub two_found : two_of_them h i j ≡ true → Two
  unfolding two_of_them
  two_found b =
      let both = (and_parts (h.takes_part i && h.takes_part j) (not (eqb i j)) b).0 in
      record {
        from_part = (and_parts (h.takes_part i) (h.takes_part j) both).0;
        to_part = (and_parts (h.takes_part i) (h.takes_part j) both).1;
        other = eqb-false i j (not-true (eqb i j) (and_parts (h.takes_part i && h.takes_part j) (not (eqb i j)) b).1);
      }

  pub two_hit : Two → two_of_them h i j ≡ true
  unfolding two_of_them
  two_hit w = rw (w.from_part, w.to_part, ne_eqb i j w.other) refl

  abbrev some_reason : Bool
  some_reason = conflict h i j || write_order h i j || read_before h i j

  -- an edge, taken apart and put together
  pub edge_two : edge h i j ≡ true → Two
  unfolding edge
  edge_two b = two_found (and_parts (two_of_them h i j) some_reason b).0

  pub edge_reasons : edge h i j ≡ true → (conflict h i j ≡ true) ⊎ ((write_order h i j ≡ true) ⊎ (read_before h i j ≡ true))
  unfolding edge
  edge_reasons b =
      ⊎_elim
      (λ (w : (conflict h i j || write_order h i j) ≡ true).
      ⊎_elim (λ (v : conflict h i j ≡ true). inl v) (λ (v : write_order h i j ≡ true). inr (inl v)) (or_cases (conflict h i j) (write_order h i j) w))
      (λ (w : read_before h i j ≡ true). inr (inr w))
      (or_cases (conflict h i j || write_order h i j) (read_before h i j) (and_parts (two_of_them h i j) some_reason b).1)

  module _ (two : Two) where
    edge_for : some_reason ≡ true → edge h i j ≡ true
    unfolding edge
    edge_for b = rw (two_hit two) b

    pub conflict_edge : conflict h i j ≡ true → edge h i j ≡ true
    conflict_edge b =
        edge_for (or_left (conflict h i j || write_order h i j) (read_before h i j) (or_left (conflict h i j) (write_order h i j) b))

    pub write_order_edge : write_order h i j ≡ true → edge h i j ≡ true
    write_order_edge b =
        edge_for (or_left (conflict h i j || write_order h i j) (read_before h i j) (or_right (conflict h i j) (write_order h i j) b))

    pub read_before_edge : read_before h i j ≡ true → edge h i j ≡ true
    read_before_edge b = edge_for (or_right (conflict h i j || write_order h i j) (read_before h i j) b)

  -- THEOREM: the reason is 0 exactly where there is no edge
  pub no_reason_exactly : (reason h i j ≡ 0) ↔ (edge h i j ≡ false)
  unfolding edge reason
  no_reason_exactly = (ahead (two_of_them h i j), back (two_of_them h i j))
    where
      ahead : (b : Bool) → cond b (lowest_reason (conflict h i j) (write_order h i j) (read_before h i j)) 0 ≡ 0 → (b && some_reason) ≡ false
      ahead true q = (lowest_zero (conflict h i j) (write_order h i j) (read_before h i j)).0 q
      ahead false q = refl

      back : (b : Bool) → (b && some_reason) ≡ false → cond b (lowest_reason (conflict h i j) (write_order h i j) (read_before h i j)) 0 ≡ 0
      back true q = (lowest_zero (conflict h i j) (write_order h i j) (read_before h i j)).1 q
      back false q = refl

  -- the lowest number that applies
  none_below : (n : ℕ) → n ≤ 3 → (1 < n → conflict h i j ≡ false) → (2 < n → write_order h i j ≡ false)
      → (m : ℕ) → m < n → Applies h i j m → ⊥
  none_below n l f g m k (by_conflict p) = clash (conflict h i j) p (f k)
  none_below n l f g m k (by_write_order p) = clash (write_order h i j) p (g k)
  none_below n l f g m k (by_read_before p) = omega (arith, l, k)

  is_true_reason : (n : ℕ) → n ≤ 3 → (1 < n → conflict h i j ≡ false) → (2 < n → write_order h i j ≡ false) → Applies h i j n → TrueReason h i j n
  is_true_reason n l f g a = record { applies = a; none_lower = λ m k b. none_below n l f g m (omega (arith, k)) b }

  -- of two that take part
  pub reason_of_two : two_of_them h i j ≡ true → reason h i j ≡ lowest_reason (conflict h i j) (write_order h i j) (read_before h i j)
  unfolding reason
  reason_of_two t = rw t refl

  -- Where every record's transaction takes part, a reason is one for two that do; so who looks for reasons need not ask who takes part.
  module _ (all_part : (k : ℕ) → k < h.size → h.takes_part (h.transaction k) ≡ true) where
    part_of : (t k : ℕ) → k < h.size → h.transaction k ≡ t → h.takes_part t ≡ true
    part_of t k l q = subst (λ (u : ℕ). h.takes_part u ≡ true) q (all_part k l)

    writer_part : (t x : ℕ) → writes h t x ≡ true → h.takes_part t ≡ true
    writer_part t x b = let w = writes_found h t x b in part_of t w.at w.before w.own

    record BothPart : Type 0 where
      from_part : h.takes_part i ≡ true
      to_part : h.takes_part j ≡ true

    reason_parts : some_reason ≡ true → BothPart
    reason_parts b =
        ⊎_elim
        (λ (w : (conflict h i j || write_order h i j) ≡ true).
        ⊎_elim (λ (v : conflict h i j ≡ true). conflict_parts v) (λ (v : write_order h i j ≡ true). order_parts v) (or_cases (conflict h i j) (write_order h i j) w))
        (λ (w : read_before h i j ≡ true). read_parts w) (or_cases (conflict h i j || write_order h i j) (read_before h i j) b)
      where
        conflict_parts : conflict h i j ≡ true → BothPart
        conflict_parts v =
            let c = conflict_found h i j v in
            record { from_part = part_of i c.first (omega (arith, c.in_order, c.there)) c.from; to_part = part_of j c.second c.there c.to }

        order_parts : write_order h i j ≡ true → BothPart
        order_parts v =
            let o = write_order_found h i j v in
            record { from_part = writer_part i o.of_item o.wrote; to_part = writer_part j o.of_item o.next.wrote }

        read_parts : read_before h i j ≡ true → BothPart
        read_parts v =
            let r = read_before_found h i j v in
            record { from_part = part_of i r.at r.there r.reader; to_part = writer_part j (h.item r.at) r.next.wrote }

    -- what says whether an edge is there: the difference and a reason
    plain_two : some_reason ≡ true → two_of_them h i j ≡ not (eqb i j)
    unfolding two_of_them
    plain_two b = let w = reason_parts b in rw (w.from_part, w.to_part) refl

    pub edge_plain : (not (eqb i j) && some_reason) ≡ edge h i j
    unfolding edge
    edge_plain = go (cases_Bool some_reason)
      where
        go : (some_reason ≡ true) ⊎ (some_reason ≡ false) → (not (eqb i j) && some_reason) ≡ (two_of_them h i j && some_reason)
        go (inl b) = ap (λ (a : Bool). a && some_reason) (sym (plain_two b))
        go (inr b) = rw (b, and-false (not (eqb i j)), and-false (two_of_them h i j)) refl

    pub reason_plain : cond (not (eqb i j)) (lowest_reason (conflict h i j) (write_order h i j) (read_before h i j)) 0 ≡ reason h i j
    unfolding reason
    reason_plain = go (cases_Bool some_reason)
      where
        nothing : (b : Bool) → ◌≡◌ {A = ℕ} (cond b 0 0) 0
        nothing true = refl
        nothing false = refl

        go : (some_reason ≡ true) ⊎ (some_reason ≡ false)
            → cond (not (eqb i j)) (lowest_reason (conflict h i j) (write_order h i j) (read_before h i j)) 0
            ≡ cond (two_of_them h i j) (lowest_reason (conflict h i j) (write_order h i j) (read_before h i j)) 0
        go (inl b) = ap (λ (a : Bool). cond a (lowest_reason (conflict h i j) (write_order h i j) (read_before h i j)) 0) (sym (plain_two b))
        go (inr b) =
            rw ((lowest_zero (conflict h i j) (write_order h i j) (read_before h i j)).1 b, nothing (not (eqb i j)), nothing (two_of_them h i j)) refl

  -- THEOREM: there is no more than one true reason
  pub one_reason : (m n : ℕ) → TrueReason h i j m → TrueReason h i j n → m ≡ n
  one_reason m n a b = go (dec_lt m n) (dec_lt n m)
    where
      go : Dec (m < n) → Dec (n < m) → m ≡ n
      go (yes l) d = absurd (b.none_lower m (omega (arith, l)) a.applies)
      go (no l) (yes k) = absurd (a.none_lower n (omega (arith, k)) b.applies)
      go (no l) (no k) = omega (arith, l, k)

  -- THEOREM: an edge has one, which is the one that is reported
  pub edge_has_reason : edge h i j ≡ true → TrueReason h i j (reason h i j)
  edge_has_reason b = subst (TrueReason h i j) is_lowest (go (conflict h i j) refl (write_order h i j) refl (read_before h i j) refl)
    where
      is_lowest : lowest_reason (conflict h i j) (write_order h i j) (read_before h i j) ≡ reason h i j
      is_lowest = sym (reason_of_two (two_hit (edge_two b)))

      go : (a : Bool) → conflict h i j ≡ a → (w : Bool) → write_order h i j ≡ w → (c : Bool) → read_before h i j ≡ c
          → TrueReason h i j (lowest_reason a w c)
      go true p w q c s = is_true_reason 1 (omega arith) (λ l. absurd (omega (arith, l))) (λ l. absurd (omega (arith, l))) (by_conflict p)
      go false p true q c s = is_true_reason 2 (omega arith) (λ l. p) (λ l. absurd (omega (arith, l))) (by_write_order q)
      go false p false q true s = is_true_reason 3 (omega arith) (λ l. p) (λ l. q) (by_read_before s)
      go false p false q false s =
          absurd
          (⊎_elim (λ (w : conflict h i j ≡ true). clash (conflict h i j) w p)
          (⊎_elim (λ (w : write_order h i j ≡ true). clash (write_order h i j) w q) (λ (w : read_before h i j ≡ true). clash (read_before h i j) w s))
          (edge_reasons b))
