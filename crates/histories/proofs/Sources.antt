-- The source of a record: the last write of its copy that the record does not pass over, with none between.
use Rattle.std.proofs.Common.{ℕ, ◌<◌, ◌≡◌, refl, ◌∙◌, ap, subst, Bool, true, false, cond, ◌↔◌}
use Rattle.std.proofs.Math.Option.{Option, none, some, map}
use Rattle.std.proofs.lemmas.Bool.{and_from, and_parts}
use Rattle.sets.specs.Search.{last_below}
use borrow.Author.Clash.{clash}
use Rattle.sets.proofs.Searches.{Last, last_none, last_some, last_hit, last_miss, last_found, last_view, some_none}
use Rattle.histories.specs.History.{History, writes_copy}
use Rattle.histories.specs.Source.{Source, shows, is_written, source_record, write_record, source, writer_behind}
use Rattle.histories.proofs.OfTransactions.{WritesCopy, writes_copy_found}

module _ (h : History) (k : ℕ) where
  -- a write that the read k does not pass over
  pub shows_found : (e : ℕ) → shows h k e ≡ true → WritesCopy h e (h.copy k)
  unfolding shows
  shows_found e b = writes_copy_found h e (h.copy k) (and_parts (h.seen e k) (writes_copy h e (h.copy k)) b).1

  pub shows_hit : (e : ℕ) → h.seen e k ≡ true → writes_copy h e (h.copy k) ≡ true → shows h k e ≡ true
  unfolding shows
  shows_hit e s w = and_from (h.seen e k) (writes_copy h e (h.copy k)) s w

  pub source_other : h.is_read k ≡ false → source_record h k ≡ none
  unfolding source_record
  source_other r = rw r refl

  pub source_hit : h.is_read k ≡ true → (e : ℕ) → e < k → ((i : ℕ) → e < i → i < k → shows h k i ≡ false) → shows h k e ≡ true
      → source_record h k ≡ some e
  unfolding source_record
  source_hit r e l f w = rw r (last_hit (shows h k) k e l f w)

  pub source_missing : h.is_read k ≡ true → ((i : ℕ) → i < k → shows h k i ≡ false) → source_record h k ≡ none
  unfolding source_record
  source_missing r f = rw r (last_miss (shows h k) k f)

  -- what a source record is
  pub record Sourced (e : ℕ) : Type 0 where
    pub reads : h.is_read k ≡ true
    pub earlier : e < k
    pub shown : shows h k e ≡ true
    pub between : (i : ℕ) → e < i → i < k → shows h k i ≡ false

  pub sourced : (e : ℕ) → source_record h k ≡ some e → Sourced e
  unfolding source_record
  sourced e = go (h.is_read k) refl
    where
      from : h.is_read k ≡ true → Last (shows h k) k (some e) → Sourced e
      from r (last_some l w f) = record { reads = r; earlier = l; shown = w; between = f }

      go : (b : Bool) → h.is_read k ≡ b → cond b (last_below k (shows h k)) none ≡ some e → Sourced e
      go true r q = from r (last_found (shows h k) k q)
      go false r q = cc

  -- the source has the two numbers of that record, and the writer behind the read is the first of them
  pub source_of : (e : ℕ) → source_record h k ≡ some e → source h k ≡ some (write_record h e)
  unfolding source
  source_of e q = ap (map (write_record h)) q

  pub source_absent : source_record h k ≡ none → source h k ≡ none
  unfolding source
  source_absent q = rw q refl

  pub writer_of : (e : ℕ) → source_record h k ≡ some e → writer_behind h k ≡ some (h.transaction e)
  unfolding write_record writer_behind
  writer_of e q = ap (map (λ (s : Source). s.transaction)) (source_of e q)

  pub writer_none : source_record h k ≡ none → writer_behind h k ≡ none
  unfolding writer_behind
  writer_none q = rw (source_absent q) refl

  -- and back: who wrote has a record there
  pub record SourceAt (t : ℕ) : Type 0 where
    pub at : ℕ
    pub found : source_record h k ≡ some at
    pub own : h.transaction at ≡ t

  pub source_record_of : (t : ℕ) → writer_behind h k ≡ some t → SourceAt t
  unfolding write_record source writer_behind
  source_record_of t = go (source_record h k) refl
    where
      go : (o : Option ℕ) → source_record h k ≡ o → map (λ (s : Source). s.transaction) (map (write_record h) o) ≡ some t → SourceAt t
      go none q b = cc
      go (some e) q b = let same : h.transaction e ≡ t = cc in record { at = e; found = q; own = same }

  -- what the two numbers of a source say
  pub record Named (s : Source) : Type 0 where
    pub placed : Sourced s.place
    pub own : h.transaction s.place ≡ s.transaction

  -- THEOREM: two numbers are the source of k exactly where k is a read, the second is the place of the last earlier write of its copy that k
  -- does not pass over, and the first is the transaction of that write
  pub source_exactly : (s : Source) → (source h k ≡ some s) ↔ Named s
  unfolding write_record source
  source_exactly s = (go (source_record h k) refl, back)
    where
      go : (o : Option ℕ) → source_record h k ≡ o → map (write_record h) o ≡ some s → Named s
      go none q b = cc
      go (some e) q b =
          let same : write_record h e ≡ s = cc in subst Named same (record { placed = sourced e q; own = refl })

      back : Named s → source h k ≡ some s
      back n =
          let p = n.placed in
          source_of s.place (source_hit p.reads s.place p.earlier p.between p.shown)
          ∙ ap (λ (t : ℕ). some (record { transaction = t; place = s.place })) n.own

  -- a read of a copy that is written has a source
  pub record SourceFound : Type 0 where
    pub at : ℕ
    pub found : source_record h k ≡ some at

  pub written_sourced : h.is_read k ≡ true → is_written h k ≡ true → SourceFound
  unfolding source_record is_written
  written_sourced r w = go (last_below k (shows h k)) (last_view (shows h k) k) refl
    where
      go : (o : Option ℕ) → Last (shows h k) k o → last_below k (shows h k) ≡ o → SourceFound
      go none (last_none f) q = absurd (clash (is_written h k) w (some_none (shows h k) k f))
      go (some e) v q = let s : source_record h k ≡ some e = rw r q in record { at = e; found = s }
