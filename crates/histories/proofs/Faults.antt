-- A history without faults is sound, and no transaction of it commits twice.
use Rattle.std.proofs.Common.{ℕ, ◌<◌, ◌≡◌, refl, sym, true, false}
use Rattle.std.proofs.lemmas.Bool.{not-false}
use borrow.Author.Clash.{clash}
use Rattle.sets.proofs.Searches.{only_between}
use Rattle.histories.specs.History.{History, Counts}
use Rattle.histories.specs.Earlier.{committed, wrote_copy, wrote_item}
use Rattle.histories.specs.Source.{is_written}
use Rattle.histories.specs.Faults.{after_commit, reads_unwritten, reads_past_own, CommitsOnce, Faultless}
use Rattle.histories.specs.Sound.{Commits, HasSource, Sound}
use Rattle.histories.proofs.OfTransactions.{before_found, before_hit, first_of_some}
use Rattle.histories.proofs.Sources.{writer_of, written_sourced}

module _ (h : History) where
  -- a record after a commit of its transaction
  pub after_commit_hit : (c k : ℕ) → c < k → h.is_commit c ≡ true → h.transaction c ≡ h.transaction k → after_commit h k ≡ true
  unfolding after_commit committed
  after_commit_hit c k l b q = before_hit h (h.transaction k) h.is_commit k c l q b

  -- 6: so of two commits neither stands before the other
  pub commits_once : ((k : ℕ) → k < h.size → after_commit h k ≡ false) → CommitsOnce h
  commits_once no_6 c d l m b e q =
      only_between c d (λ (w : c < d). clash (after_commit h d) (after_commit_hit c d w b q) (no_6 d m))
      (λ (w : d < c). clash (after_commit h c) (after_commit_hit d c w e (sym q)) (no_6 c l))

  -- 7 and 8 are about reads
  pub not_unwritten : (k : ℕ) → h.is_read k ≡ false → reads_unwritten h k ≡ false
  unfolding reads_unwritten
  not_unwritten k r = rw r refl

  pub not_past_own : (k : ℕ) → h.is_read k ≡ false → reads_past_own h k ≡ false
  unfolding reads_past_own
  not_past_own k r = rw r refl

  -- 7: a read has a source
  pub read_written : (k : ℕ) → reads_unwritten h k ≡ false → h.is_read k ≡ true → is_written h k ≡ true
  unfolding reads_unwritten
  read_written k b r = not-false (is_written h k) (rw r at b)

  -- 8: a read of an item that its transaction wrote earlier is of a copy that it wrote earlier
  pub read_own : (k : ℕ) → reads_past_own h k ≡ false → h.is_read k ≡ true → wrote_item h (h.transaction k) (h.item k) k ≡ true
      → wrote_copy h (h.transaction k) (h.copy k) k ≡ true
  unfolding reads_past_own
  read_own k b r w = not-false (wrote_copy h (h.transaction k) (h.copy k) k) (rw (r, w) at b)

  module _ (w : Faultless h) where
    its_commit : (t : ℕ) → h.takes_part t ≡ true → Commits h t
    unfolding committed
    its_commit t p =
        let c = before_found h t h.is_commit h.size (w.has_committed t p) in
        let f = first_of_some h t h.is_commit c.at c.before c.own c.passes in
        record { at = f.first; first = f.is_first }

    its_source : (k : ℕ) → Counts h k → h.is_read k ≡ true → HasSource h k
    its_source k c r =
        let s = written_sourced h k r (read_written k (w.no_7 k c.there) r) in
        let from = writer_of h k s.at s.found in
        record { origin = h.transaction s.at; from = from; part = w.source_part k (h.transaction s.at) c from }

    -- THEOREM: a history without faults is sound
    pub faultless_sound : Sound h
    faultless_sound =
        record {
          commits = its_commit;
          has_source = its_source;
          of_copies = w.of_copies;
          own_copies = λ k c r o. read_own k (w.no_8 k c.there) r o;
        }
