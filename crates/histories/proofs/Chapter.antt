-- For every sound history: the chapter's first condition, its second where the graph has no cycle, and its Lemma 8.1. Of two writers one
-- comes first, which is an edge; and so is one from a reader of the first to the second. A path the other way would make a cycle.
use Rattle.std.proofs.Common.{ℕ, ◌<◌, arith, ◌≡◌, refl, sym, ◌∙◌, ap, subst, true, inl, inr, ⊎_elim}
use Rattle.std.proofs.Math.Decide.{ℕ_discrete, dec_lt}
use Rattle.std.proofs.Math.Option.{some}
use Rattle.std.proofs.lemmas.Bool.{and_parts}
use Rattle.sets.specs.Paths.{by_edge, edge_then, Acyclic}
use borrow.Author.Clash.{clash}
use Rattle.histories.specs.History.{History, Counts, conflicting}
use Rattle.histories.specs.Earlier.{wrote_item, Writer}
use Rattle.histories.specs.Source.{shows, source_record, writer_behind}
use Rattle.histories.specs.Order.{comes_before, writer_after}
use Rattle.histories.specs.Reasons.{gives_write_order, gives_read_before, conflict, write_order, read_before, two_of_them, edge}
use Rattle.histories.specs.Chapter.{serialization_edge, ReadsFrom, InducesWriteOrder, InducesReadOrder, RDSG}
use Rattle.histories.specs.Sound.{Sound}
use Rattle.histories.proofs.OfTransactions.{of_hit, WritesCopy, writes_copy_hit, wrote_copy_found, writes_found, writes_hit}
use Rattle.histories.proofs.Sources.{shows_found, shows_hit, Sourced, sourced, writer_of, source_record_of}
use Rattle.histories.proofs.Orders.{one_comes_first, writer_after_hit}
use Rattle.histories.proofs.Conflicts.{read_uses, write_uses, write_then_use, conflict_hit}
use Rattle.histories.proofs.Reasons.{write_gives, sourced_gives}
use Rattle.histories.proofs.Edges.{Two, two_found, two_hit, edge_two, conflict_edge, write_order_edge, read_before_edge}

module _ (h : History) where
  -- two writers in their order, and a reader of the first, are edges
  pub ordered_edge : (x i j : ℕ) → Writer h x i → Writer h x j → (i ≡ j → ⊥) → comes_before h x i j ≡ true → edge h i j ≡ true
  unfolding write_order
  ordered_edge x i j v w d b =
      let e = writes_found h i x v.wrote in
      let k = e.at in
      let after = writer_after_hit h x i j (record { wrote = w.wrote; other = λ q. d (sym q); comes_after = b }) in
      let at_record : writer_after h (h.item k) (h.transaction k) j ≡ true = rw (e.of_item, e.own) after in
      write_order_edge h i j (record { from_part = v.part; to_part = w.part; other = d })
      (of_hit h i (λ f. gives_write_order h f j) k e.before e.own (write_gives h k j e.is_one ∙ at_record))

  pub reader_edge : (x i j k e : ℕ) → ReadsFrom h x j i e → Writer h x k → (k ≡ i → ⊥) → (k ≡ j → ⊥) → comes_before h x i k ≡ true
      → edge h j k ≡ true
  unfolding read_before
  reader_edge x i j k e r w d f b =
      let after = writer_after_hit h x i k (record { wrote = w.wrote; other = d; comes_after = b }) in
      let at_record : writer_after h (h.item e) i k ≡ true = rw r.of_item after in
      let part = subst (λ (t : ℕ). h.takes_part t ≡ true) r.its_own r.counts.part in
      read_before_edge h j k (record { from_part = part; to_part = w.part; other = λ q. f (sym q) })
      (of_hit h j (λ g. gives_read_before h g k) e r.counts.there r.its_own (sourced_gives h e k i r.is_real r.from ∙ at_record))

  -- a record of one that takes part counts
  pub counts_of : (e t : ℕ) → e < h.size → h.transaction e ≡ t → h.takes_part t ≡ true → Counts h e
  counts_of e t l q p = record { there = l; part = subst (λ (u : ℕ). h.takes_part u ≡ true) (sym q) p }

  -- only a read has a source; and where it counts and is real, its transaction reads from there
  pub source_reads : (k s : ℕ) → writer_behind h k ≡ some s → h.is_read k ≡ true
  source_reads k s q = let r = source_record_of h k s q in (sourced h k r.at r.found).reads

  pub reads_from : (k s : ℕ) → Counts h k → h.real k ≡ true → writer_behind h k ≡ some s → ReadsFrom h (h.item k) (h.transaction k) s k
  reads_from k s c real q = record { counts = c; its_own = refl; of_item = refl; is_real = real; from = q }

  -- an edge of SG joins two that take part, by a conflict; and the graph has every one
  pub SG_two : (i j : ℕ) → serialization_edge h i j ≡ true → Two h i j
  unfolding serialization_edge
  SG_two i j b = two_found h i j (and_parts (two_of_them h i j) (conflict h i j) b).0

  pub SG_conflict : (i j : ℕ) → serialization_edge h i j ≡ true → conflict h i j ≡ true
  unfolding serialization_edge
  SG_conflict i j b = (and_parts (two_of_them h i j) (conflict h i j) b).1

  pub conflict_in_SG : (e f : ℕ) → e < f → Counts h e → Counts h f → (h.transaction e ≡ h.transaction f → ⊥) → conflicting h e f ≡ true
      → serialization_edge h (h.transaction e) (h.transaction f) ≡ true
  unfolding serialization_edge
  conflict_in_SG e f l v w d b =
      rw (two_hit h (h.transaction e) (h.transaction f) (record { from_part = v.part; to_part = w.part; other = d }), conflict_hit h e f l w.there b)
      refl

  pub extends_SG : (i j : ℕ) → serialization_edge h i j ≡ true → edge h i j ≡ true
  extends_SG i j b = conflict_edge h i j (SG_two i j b) (SG_conflict i j b)

  -- another's write, between an own write of a copy and a read of it, would come after the own one and before it
  between : Acyclic (serialization_edge h) → (e f k : ℕ) → Counts h k → h.is_read k ≡ true → e < f → f < k
      → WritesCopy h e (h.copy k) → WritesCopy h f (h.copy k) → h.transaction e ≡ h.transaction k → h.takes_part (h.transaction f) ≡ true
      → (h.transaction f ≡ h.transaction k → ⊥) → ⊥
  between acyclic e f k c r a b v w own part other =
      let first = counts_of e (h.transaction k) (omega (arith, a, b, c.there)) own c.part in
      let second : Counts h f = record { there = omega (arith, b, c.there); part = part } in
      let there = rw own at (conflict_in_SG e f a first second (λ q. other (sym q ∙ own))
      (write_then_use h e f v.is_one (write_uses h f w.is_one) (w.of_copy ∙ sym v.of_copy))) in
      let back = conflict_in_SG f k b second c other (write_then_use h f k w.is_one (read_uses h k r) (sym w.of_copy)) in
      acyclic (h.transaction k) (edge_then there (by_edge back))

module _ (h : History) (sound : Sound h) where
  -- the source of a read writes the item that is read, and takes part
  pub source_writes : (x j i e : ℕ) → ReadsFrom h x j i e → Writer h x i
  source_writes x j i e r =
      let found = source_record_of h e i r.from in
      let f = found.at in
      let s = sourced h e f found.found in
      let there : f < h.size = omega (arith, s.earlier, r.counts.there) in
      let w = shows_found h e f s.shown in
      let one_item = sound.of_copies.one_item f e there r.counts.there (write_uses h f w.is_one) (read_uses h e s.reads) w.of_copy in
      record {
        part = source_part (sound.has_source e r.counts s.reads).origin (sound.has_source e r.counts s.reads).from (sound.has_source e r.counts s.reads).part;
        wrote = writes_hit h i x f there found.own w.is_one (one_item ∙ r.of_item);
      }
    where
      source_part : (s : ℕ) → writer_behind h e ≡ some s → h.takes_part s ≡ true → h.takes_part i ≡ true
      source_part s q p = let same : s ≡ i = cc in subst (λ (t : ℕ). h.takes_part t ≡ true) same p

  -- THEOREM: the graph induces a write order, with cycles or without
  pub induces_write_order : InducesWriteOrder h (edge h)
  induces_write_order x i k v w d =
      ⊎_elim (λ (b : comes_before h x i k ≡ true). inl (by_edge (ordered_edge h x i k v w d b)))
      (λ (b : comes_before h x k i ≡ true). inr (by_edge (ordered_edge h x k i w v (λ q. d (sym q)) b)))
      (one_comes_first h sound x i k v w d)

  -- THEOREM: where it has no cycle it induces a read order ..
  pub induces_read_order : Acyclic (edge h) → InducesReadOrder h (edge h)
  induces_read_order acyclic x i j k e r w d f p =
      let v = source_writes x j i e r in
      ⊎_elim (λ (b : comes_before h x i k ≡ true). by_edge (reader_edge h x i j k e r w d f b))
      (λ (b : comes_before h x k i ≡ true). absurd (acyclic k (edge_then (ordered_edge h x k i w v d b) p)))
      (one_comes_first h sound x i k v w (λ q. d (sym q)))

  -- .. and so is an RDSG
  pub acyclic_is_RDSG : Acyclic (edge h) → RDSG h (edge h)
  acyclic_is_RDSG acyclic =
      record {
        of_its_transactions = λ i j b. let w = edge_two h i j b in (w.from_part, w.to_part);
        extends_SG = extends_SG h;
        induces_write_order = induces_write_order;
        induces_read_order = induces_read_order acyclic;
      }

  -- THEOREM: Lemma 8.1. "If SG(H) is acyclic and for some x wi[x] <i ri[x], then Ti reads-x-from Ti in H"
  pub lemma_8_1 : Acyclic (serialization_edge h) → (k : ℕ) → Counts h k → h.is_read k ≡ true
      → wrote_item h (h.transaction k) (h.item k) k ≡ true → writer_behind h k ≡ some (h.transaction k)
  lemma_8_1 acyclic k c r w =
      let own = wrote_copy_found h (h.transaction k) (h.copy k) k (sound.own_copies k c r w) in
      let has = sound.has_source k c r in
      let at = source_record_of h k has.origin has.from in
      let part = subst (λ (t : ℕ). h.takes_part t ≡ true) (sym at.own) has.part in
      go own.at at.at own.before own.own (record { is_one = own.is_one; of_copy = own.of_copy }) part at.found
      (sourced h k at.at at.found) (ℕ_discrete (h.transaction at.at) (h.transaction k)) (dec_lt own.at at.at)
    where
      go : (e f : ℕ) → e < k → h.transaction e ≡ h.transaction k → WritesCopy h e (h.copy k) → h.takes_part (h.transaction f) ≡ true
          → source_record h k ≡ some f → Sourced h k f → Dec (h.transaction f ≡ h.transaction k) → Dec (e < f) → writer_behind h k ≡ some (h.transaction k)
      go e f a b v p q s (yes same) d = writer_of h k f q ∙ ap some same
      go e f a b v p q s (no d) (yes l) = absurd (between h acyclic e f k c r l s.earlier v (shows_found h k f s.shown) b p d)
      go e f a b v p q s (no d) (no l) = absurd (clash (shows h k e) shown (s.between e (later (ℕ_discrete e f)) a))
        where
          -- the own write takes part, so it is not passed over
          shown : shows h k e ≡ true
          shown =
              let writes = writes_copy_hit h e (h.copy k) v.is_one v.of_copy in
              shows_hit h k e (sound.of_copies.none_passed e k a c r (subst (λ (t : ℕ). h.takes_part t ≡ true) (sym b) c.part) writes) writes

          later : Dec (e ≡ f) → f < e
          later (yes x) = absurd (d (ap h.transaction (sym x) ∙ b))
          later (no x) = omega (arith, l, x)
