-- When a read has the same writer as in a run on a single copy: in a line in log order, exactly where no other writer of the item stands
-- between its source and the reader. So a graph without the write order too has only that to show.
use Rattle.std.proofs.Common.{ℕ, arith, ◌≡◌, refl, sym, ◌∙◌, subst, true, false, List, ◌⊎◌, inl, inr, ⊎_elim, ◌↔◌}
use Rattle.std.proofs.Math.Decide.{ℕ_discrete}
use Rattle.std.proofs.Math.Option.{some}
use Rattle.std.proofs.lemmas.Bool.{cases_Bool}
use borrow.Author.Clash.{clash}
use Rattle.histories.specs.History.{History}
use Rattle.histories.specs.Earlier.{wrote_item, writes, Writer}
use Rattle.histories.specs.Source.{writer_behind}
use Rattle.histories.specs.Chapter.{ReadsFrom}
use Rattle.histories.specs.Sound.{Sound}
use Rattle.histories.proofs.OfTransactions.{wrote_item_hit}
use Rattle.histories.proofs.Sources.{shows_found, sourced, source_record_of}
use Rattle.histories.proofs.Conflicts.{read_uses, write_uses, write_then_use}
use Rattle.histories.proofs.Chapter.{source_writes, lemma_8_1, counts_of, source_reads, reads_from}
use Rattle.lines.specs.Lines.{stands_before}
use Rattle.serial.specs.Run.{before, last_writer, run_writer}
use Rattle.serial.specs.Serial.{InLogOrder, OneCopyLine}
use Rattle.serial.proofs.Runs.{stands_there, LastBefore, last_before_found, last_before_is}
use Rattle.serial.proofs.LogOrders.{log_order_no_cycle}

module _ (h : History) (line : List ℕ) (k : ℕ) where
  -- the writer of a read in a run on a single copy, case by case
  run_own : wrote_item h (h.transaction k) (h.item k) k ≡ true → run_writer h line k ≡ some (h.transaction k)
  unfolding run_writer
  run_own b = rw b refl

  run_other : wrote_item h (h.transaction k) (h.item k) k ≡ false
      → run_writer h line k ≡ last_writer h (h.item k) (before (h.transaction k) line)
  unfolding run_writer
  run_other b = rw b refl

  -- every other writer of the item that stands before the reader stands before s
  abbrev pub NoneBetween : ℕ → Type 0
  NoneBetween s =
      (t : ℕ) → Writer h (h.item k) t → (t ≡ s → ⊥) → stands_before line t (h.transaction k) ≡ true → stands_before line t s ≡ true

  -- the read k, its source s, in a line in log order
  module _ (sound : Sound h) (o : InLogOrder h line) (s : ℕ) (r : ReadsFrom h (h.item k) (h.transaction k) s k) where
    abbrev reader : ℕ
    reader = h.transaction k

    abbrev title : ℕ
    title = h.item k

    abbrev own_write : Type 0
    own_write = wrote_item h reader title k ≡ true

    abbrev no_own_write : Type 0
    no_own_write = wrote_item h reader title k ≡ false

    source_writer : Writer h title s
    source_writer = source_writes h sound title reader s k r

    reads : h.is_read k ≡ true
    reads = source_reads h k s r.from

    -- who has not written the item earlier reads another's title, and the two records conflict
    source_first : no_own_write → stands_before line s reader ≡ true
    source_first other =
        let found = source_record_of h k s r.from in
        let e = found.at in
        let v = sourced h k e found.found in
        let w = shows_found h k e v.shown in
        let counts = counts_of h e s (omega (arith, v.earlier, r.counts.there)) found.own source_writer.part in
        let one_item = sound.of_copies.one_item e k counts.there r.counts.there (write_uses h e w.is_one) (read_uses h k reads) w.of_copy in
        subst (λ (t : ℕ). stands_before line t reader ≡ true) found.own
        (o.keeps_conflicts e k v.earlier counts r.counts (write_then_use h e k w.is_one (read_uses h k reads) (sym w.of_copy))
        (λ q. clash (wrote_item h reader title k) (wrote_item_hit h reader title e k v.earlier q w.is_one one_item) other))

    -- LAW: where none stands between, the run's writer is the source. A reader that wrote the item reads its own title (Lemma 8.1), any
    -- other the last one before it.
    pub read_kept : NoneBetween s → writer_behind h k ≡ run_writer h line k
    read_kept f = ⊎_elim own other (cases_Bool (wrote_item h reader title k))
      where
        own : own_write → writer_behind h k ≡ run_writer h line k
        own b = lemma_8_1 h sound (log_order_no_cycle h line o) k r.counts reads b ∙ sym (run_own b)

        before_source : (t : ℕ) → stands_before line t reader ≡ true → writes h t title ≡ true → Dec (t ≡ s)
            → (t ≡ s) ⊎ (stands_before line t s ≡ true)
        before_source t b w (yes q) = inl q
        before_source t b w (no d) =
            let part = sym (o.all_and_only t) ∙ stands_there line reader t o.each_once b in inr (f t (record { part = part; wrote = w }) d b)

        other : no_own_write → writer_behind h k ≡ run_writer h line k
        other b =
            let last : LastBefore (λ u. writes h u title) line o.each_once reader s = record {
              passes = source_writer.wrote;
              stands = source_first b;
              others = λ t g w. before_source t g w (ℕ_discrete t s);
            } in
            r.from ∙ sym (last_before_is (λ u. writes h u title) line o.each_once reader s last) ∙ sym (run_other b)

    -- .. and back: the run's writer is the last one before the reader, or the reader itself
    kept_none_between : writer_behind h k ≡ run_writer h line k → NoneBetween s
    kept_none_between q = ⊎_elim own other (cases_Bool (wrote_item h reader title k))
      where
        on_one_copy : some s ≡ run_writer h line k
        on_one_copy = sym r.from ∙ q

        own : own_write → NoneBetween s
        own b t w d g =
            let whole : some s ≡ some reader = on_one_copy ∙ run_own b in
            let same : s ≡ reader = cc in
            subst (λ (u : ℕ). stands_before line t u ≡ true) (sym same) g

        other : no_own_write → NoneBetween s
        other b t w d g =
            let last = last_before_found (λ u. writes h u title) line o.each_once reader (o.all_and_only reader ∙ r.counts.part) s
            (sym (run_other b) ∙ sym on_one_copy) in
            ⊎_elim (λ (e : t ≡ s). absurd (d e)) (λ (e : stands_before line t s ≡ true). e) (last.others t g w.wrote)

    -- THEOREM: the read has the writer of a run on a single copy exactly where no other writer stands between
    pub read_kept_exactly : (writer_behind h k ≡ run_writer h line k) ↔ NoneBetween s
    read_kept_exactly = (kept_none_between, read_kept)

-- So of a whole line, over the reads that count and are real.
module _ (h : History) (line : List ℕ) where
  -- of no read another writer stands between
  abbrev pub NoneEverBetween : Type 0
  NoneEverBetween = (k s : ℕ) → ReadsFrom h (h.item k) (h.transaction k) s k → NoneBetween h line k s

  module _ (sound : Sound h) where
    -- THEOREM: a line in log order is one of a single copy exactly where that is so
    pub one_copy_line : InLogOrder h line → NoneEverBetween → OneCopyLine h line
    one_copy_line o f =
        record {
          in_log_order = o;
          keeps_reads = λ k c read real.
              let has = sound.has_source k c read in
              let r = reads_from h k has.origin c real has.from in read_kept h line k sound o has.origin r (f k has.origin r);
        }

    pub one_copy_between : OneCopyLine h line → NoneEverBetween
    one_copy_between l k s r =
        (read_kept_exactly h line k sound l.in_log_order s r).0 (l.keeps_reads k r.counts (source_reads h k s r.from) r.is_real)
