-- Numbers 6 to 8 at a record, by what is kept of the records before it: each test is one look at a set.
use Rattle.std.proofs.Common.{ℕ, ◌<◌, ◌≡◌, refl, sym, ◌∙◌, ap, List, Bool, true, false, not, ◌&&◌, ⊎_elim, get_or, ◌*◌, eqb, eqb-true}
use Rattle.std.proofs.Math.Bool.{and-false}
use Rattle.std.proofs.lemmas.Bool.{cases_Bool, eqb-false}
use Rattle.std.proofs.lemmas.Grind.{get_or_default_zero}
use Rattle.sets.specs.Search.{some_below}
use Rattle.sets.specs.Bits.{has}
use Rattle.sets.proofs.Searches.{some_none, none_some}
use Rattle.sets.proofs.Members.{has_zero, no_member}
use Rattle.histories.specs.Faults.{after_commit, reads_unwritten, reads_past_own}
use Rattle.histories.specs.Earlier.{some_before, committed, wrote_copy, wrote_item}
use Rattle.histories.specs.History.{is_by, writes_copy}
use Rattle.histories.specs.Source.{shows, is_written}
use Rattle.histories.proofs.OfTransactions.{by_hit}
use Rattle.rules.specs.Answer.{refused, passed}
use Rattle.rules.specs.LogHistory.{history_of}
use Rattle.rules.specs.Record.{items, sites, transaction, item, copy_of, is_read}
use Rattle.rules.specs.Refusals.{read_rows, history_rows}
use Rattle.rules.specs.Rows.{answer_of}
use Rattle.rules.proofs.PassedLogs.{shows_all}
use Rattle.rules.proofs.Table.{gives_6, skips_6, gives_7, gives_8, gives_none}
use Rattle.kept.specs.Kept.{KeptCopies, KeptItems, KeptCommits}

module _ (log : List ℕ) (k : ℕ) where
  -- 6, from the set of those that have committed
  pub after_kept : (commits t : ℕ) → KeptCommits log k commits → t ≡ transaction log k → has commits t ≡ after_commit (history_of log) k
  unfolding after_commit committed some_before
  after_kept commits t w own = w.said t ∙ ap (λ (x : ℕ). committed (history_of log) x k) own

  module _ (commits t : ℕ) (w : KeptCommits log k commits) (own : t ≡ transaction log k) where
    pub refuses_6 : has commits t ≡ true → answer_of (history_rows (history_of log) k) ≡ refused 6 k
    refuses_6 h = gives_6 (history_of log) k (sym (after_kept commits t w own) ∙ h)

    pub not_6 : has commits t ≡ false → answer_of (history_rows (history_of log) k) ≡ answer_of (read_rows (history_of log) k)
    not_6 h = skips_6 (history_of log) k (sym (after_kept commits t w own) ∙ h)

  -- 7 and 8 at a read, from the sets of its copy and of its item
  module _ (table : List ℕ) (c : ℕ) (w : KeptCopies log k table) (copy : c ≡ copy_of log k) (r : is_read log k ≡ true) where
    -- 7: nobody has written the copy where its set is 0
    shown : (e : ℕ) → shows (history_of log) k e ≡ writes_copy (history_of log) e c
    shown e = shows_all log k e ∙ ap (writes_copy (history_of log) e) (sym copy)

    pub unwritten_kept : get_or table c 0 ≡ 0 → reads_unwritten (history_of log) k ≡ true
    unfolding reads_unwritten is_written
    unwritten_kept z = rw (r, some_none (shows (history_of log) k) k (λ e l. shown e ∙ nobody e l)) refl
      where
        own : (e : ℕ) → e < k → (is_by (history_of log) e (transaction log e) && writes_copy (history_of log) e c) ≡ false
        own e =
            none_some (λ i. is_by (history_of log) i (transaction log e) && writes_copy (history_of log) i c) k
            (sym (w.said c (transaction log e)) ∙ ap (λ (x : ℕ). has x (transaction log e)) z ∙ has_zero (transaction log e)) e

        nobody : (e : ℕ) → e < k → writes_copy (history_of log) e c ≡ false
        nobody e l = rw (by_hit (history_of log) e (transaction log e) refl) at (own e l)

    pub written_kept : (get_or table c 0 ≡ 0 → ⊥) → reads_unwritten (history_of log) k ≡ false
    unfolding reads_unwritten is_written
    written_kept f =
        ⊎_elim (λ (t : some_below k (shows (history_of log) k) ≡ true). rw (r, t) refl)
        (λ (n : some_below k (shows (history_of log) k) ≡ false). absurd (f (no_member (get_or table c 0) (nobody n))))
        (cases_Bool (some_below k (shows (history_of log) k)))
      where
        nobody : some_below k (shows (history_of log) k) ≡ false → (i : ℕ) → has (get_or table c 0) i ≡ false
        nobody n i =
            w.said c i
            ∙ some_none (λ e. is_by (history_of log) e i && writes_copy (history_of log) e c) k
            (λ e l.
            ap (λ (b : Bool). is_by (history_of log) e i && b) (sym (shown e) ∙ none_some (shows (history_of log) k) k n e l)
            ∙ and-false (is_by (history_of log) e i))

    -- 8: the item's set has the transaction, and the copy's set has it not
    pub past_kept : (items : List ℕ) (x t : ℕ) → KeptItems log k items → x ≡ item log k → t ≡ transaction log k
        → (has (get_or items x 0) t && not (has (get_or table c 0) t)) ≡ reads_past_own (history_of log) k
    unfolding reads_past_own wrote_item wrote_copy some_before
    past_kept items x t v of_item own = rw (r, v.said x t, w.said c t, of_item, own, copy) refl

  -- 7 and 8 by the entries as the code reads them, each at a default of its own
  module _
      (table : List ℕ) (w : KeptCopies log k table) (r : is_read log k ≡ true) (c any : ℕ) (copy : (c ≡ copy_of log k) × (c < items * sites))
    where
      abbrev writers : ℕ
      writers = get_or table c any

      same_copy : writers ≡ get_or table c 0
      same_copy = get_or_default_zero table c any (rw w.whole copy.1)

      pub refuses_7 : eqb writers 0 ≡ true → answer_of (read_rows (history_of log) k) ≡ refused 7 k
      refuses_7 h = gives_7 (history_of log) k (unwritten_kept table c w copy.0 r (sym same_copy ∙ eqb-true writers 0 h))

      module _
          (written : eqb writers 0 ≡ false) (item_table : List ℕ) (v : KeptItems log k item_table) (x any_item t : ℕ)
          (of_item : (x ≡ item log k) × (x < items)) (own : t ≡ transaction log k)
        where
          abbrev item_writers : ℕ
          item_writers = get_or item_table x any_item

          past : (has item_writers t && not (has writers t)) ≡ reads_past_own (history_of log) k
          past =
              rw (get_or_default_zero item_table x any_item (rw v.whole of_item.1), same_copy)
              (past_kept table c w copy.0 r item_table x t v of_item.0 own)

          is_written_7 : reads_unwritten (history_of log) k ≡ false
          is_written_7 = written_kept table c w copy.0 r (λ z. eqb-false writers 0 written (same_copy ∙ z))

          pub refuses_8 : has item_writers t ≡ true → has writers t ≡ false → answer_of (read_rows (history_of log) k) ≡ refused 8 k
          refuses_8 a b = gives_8 (history_of log) k is_written_7 (sym past ∙ rw (a, b) refl)

          pub passes_others : has item_writers t ≡ false → answer_of (read_rows (history_of log) k) ≡ passed
          passes_others a = gives_none (history_of log) k is_written_7 (sym past ∙ rw a refl)

          pub passes_own : has writers t ≡ true → answer_of (read_rows (history_of log) k) ≡ passed
          passes_own b = gives_none (history_of log) k is_written_7 (sym past ∙ rw b (and-false (has item_writers t)))
