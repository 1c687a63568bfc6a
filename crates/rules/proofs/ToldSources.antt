-- What the answer to "source of record k" says of a log's bytes: which write record it names, and when it is none.
use Rattle.std.proofs.Common.{ℕ, ◌<◌, arith, ◌≡◌, sym, ◌∙◌, ap₂, List, [], ◌∷◌, ◌↔◌, true, false, leb, leb-false}
use Rattle.std.proofs.Math.Option.{none, some}
use Rattle.std.proofs.lemmas.Bool.{false_from_ne_true}
use borrow.Author.Clash.{clash}
use Rattle.histories.specs.Source.{Source, shows, source}
use Rattle.histories.proofs.OfTransactions.{writes_copy_found, writes_copy_hit}
use Rattle.histories.proofs.Sources.{Named, source_exactly, source_of, source_absent, source_other, source_record_of}
use Rattle.rules.specs.Answer.{gives}
use Rattle.rules.specs.Rows.{NoneOf, row}
use Rattle.rules.specs.Record.{transactions, most_records, transaction, item, site, copy_of, copy_number, records, is_read, is_write}
use Rattle.rules.specs.LogHistory.{history_of}
use Rattle.rules.specs.Refusals.{log_rows}
use Rattle.rules.specs.Passes.{Passes}
use Rattle.rules.specs.Questions.{source_rows, source_answer}
use Rattle.rules.proofs.Rows.{gives_exactly, none_left, none_right, none_here}
use Rattle.rules.proofs.PassedLogs.{none_passes, source_low, shows_all, same_copy, all_part}

module _ (log : List ℕ) (k : ℕ) where
  -- record e writes the copy that record k names: the same item at the same site
  pub record WritesThere (e : ℕ) : Type 0 where
    pub writes : is_write log e ≡ true
    pub same_item : item log e ≡ item log k
    pub same_site : site log e ≡ site log k

  -- the write record behind the read k: it stands before k, no other write of the copy stands between, and its transaction is the one named
  pub record WriteBehind (s : Source) : Type 0 where
    pub reads : is_read log k ≡ true
    pub earlier : s.place < k
    pub writes_there : WritesThere s.place
    pub none_between : (i : ℕ) → s.place < i → i < k → WritesThere i → ⊥
    pub own : transaction log s.place ≡ s.transaction

  module _ (none_of : NoneOf (source_rows log k)) where
    passes : Passes log
    passes = none_passes log (none_left (log_rows log) (row 10 (leb (records log) k) 0 ∷ []) none_of)

    there : k < records log
    there = leb-false (records log) k (none_here (row 10 (leb (records log) k) 0) [] (none_right (log_rows log) (row 10 (leb (records log) k) 0 ∷ []) none_of))

    -- what a record before k shows it, by item and site
    shown : (e : ℕ) → e < k → shows (history_of log) k e ≡ true → WritesThere e
    shown e l b =
        let w = writes_copy_found (history_of log) e (copy_of log k) (sym (shows_all log k e) ∙ b) in
        let same = same_copy log e k (passes.in_limits e (omega (arith, there))) (passes.in_limits k there) w.of_copy in
        record { writes = w.is_one; same_item = same.0; same_site = same.1 }

    shows_it : (e : ℕ) → WritesThere e → shows (history_of log) k e ≡ true
    unfolding copy_of
    shows_it e w =
        shows_all log k e
        ∙ writes_copy_hit (history_of log) e (copy_of log k) w.writes (ap₂ copy_number w.same_item w.same_site)

    behind : (s : Source) → Named (history_of log) k s → WriteBehind s
    behind s n =
        let p = n.placed in
        record {
          reads = p.reads;
          earlier = p.earlier;
          writes_there = shown s.place p.earlier p.shown;
          none_between = λ i l m w. clash (shows (history_of log) k i) (shows_it i w) (p.between i l m);
          own = n.own;
        }

    is_named : (s : Source) → WriteBehind s → Named (history_of log) k s
    is_named s w =
        record {
          placed =
              record {
                reads = w.reads;
                earlier = w.earlier;
                shown = shows_it s.place w.writes_there;
                between = λ i l m. false_from_ne_true (shows (history_of log) k i) (λ b. w.none_between i l m (shown i m b));
              };
          own = w.own;
        }

    -- every read of a log that passes has a source
    none_where : source (history_of log) k ≡ none → is_read log k ≡ false
    none_where q = false_from_ne_true (is_read log k) no_source
      where
        no_source : is_read log k ≡ true → ⊥
        no_source r =
            let has = passes.sound.has_source k (record { there = there; part = all_part log k there }) r in
            let at = source_record_of (history_of log) k has.origin has.from in
            let some_one = sym q ∙ source_of (history_of log) k at.at at.found in
            cc

  -- THEOREM: two numbers are answered exactly where no row of the table applies, and they are those of the write record behind the read k
  pub told_exactly : (s : Source) → (source_answer log k ≡ gives (some s)) ↔ NoneOf (source_rows log k) × WriteBehind s
  unfolding source_answer
  told_exactly s =
      let given = gives_exactly (source_rows log k) (source (history_of log) k) (some s) in
      let exactly = source_exactly (history_of log) k s in (
        λ e. let w = given.0 e in (w.0, behind w.0 s (exactly.0 w.1)),
        λ w. given.1 (w.0, exactly.1 (is_named w.0 s w.1)),
      )

  -- THEOREM: no transaction and no record that is answered is above the limits of document 01
  pub record BelowLimits (s : Source) : Type 0 where
    pub transaction_below : s.transaction < transactions
    pub place_below : s.place < most_records

  pub told_below : (s : Source) → source_answer log k ≡ gives (some s) → BelowLimits s
  unfolding source_answer
  told_below s e =
      let w = (gives_exactly (source_rows log k) (source (history_of log) k) (some s)).0 e in
      let low = source_low log (passes w.0).in_limits k s (there w.0) w.1 in
      record { transaction_below = low.of_a_transaction; place_below = omega (arith, low.at_a_record, (passes w.0).few) }

  -- THEOREM: none is answered exactly where no row applies and record k is no read
  pub told_none_exactly : (source_answer log k ≡ gives none) ↔ NoneOf (source_rows log k) × (is_read log k ≡ false)
  unfolding source_answer
  told_none_exactly =
      let given = gives_exactly (source_rows log k) (source (history_of log) k) none in (
        λ e. let w = given.0 e in (w.0, none_where w.0 w.1),
        λ w. given.1 (w.0, source_absent (history_of log) k (source_other (history_of log) k w.1)),
      )
