-- `tables::add::add_to_row` meets its contract: one row is stored, the old one with the set joined to it.
use Rattle.std.proofs.Common.{Bool, ap, eqb, length, refl, ◌<◌, ◌||◌, sym, ℕ, ◌&&◌, ◌∙◌, ◌≡◌}
use Rattle.sets.specs.Bits.{has}
use Rattle.histories.specs.History.{is_by}
use Rattle.sets.proofs.Tables.{row_read}
use Rattle.sets.proofs.Gathered.{added_store}
use Rattle.histories.proofs.OfTransactions.{by_is}
use Rattle.rules.specs.LogHistory.{history_of}
use Rattle.tables.proofs.add.add_to_row.Goals as goal

pub returns : goal.returns
returns c =
    let log = c.args.r.now.log in
    let k = c.args.r.now.place in
    let old = c.args.table.now in
    let to = c.args.to in
    let t = c.transaction-i in
    let own : (i : ℕ) → is_by (history_of log) k i ≡ eqb t.result i = λ i. by_is (history_of log) k i ∙ ap (λ (x : ℕ). eqb x i) (sym t.ensures.value) in
    let there : t.result < length old = rw c.requires.whole t.ensures.below in
    added_store (λ i j. is_by (history_of log) k i && has to j) old t.result c.union.result (has to) there
    (λ j. c.union.ensures j ∙ ap (λ (b : Bool). b || has to j) (row_read old t.result _ refl there j))
    (λ i j. ap (λ (b : Bool). b && has to j) (own i))
