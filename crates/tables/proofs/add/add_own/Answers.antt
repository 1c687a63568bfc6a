-- `tables::add::add_own` meets its contract: one set is stored, the old one with the transaction added where the record counts.
use Rattle.std.proofs.Common.{Bool, ap, ap₂, eqb, false, refl, sym, true, ℕ, ◌&&◌, ◌||◌, ◌∙◌, ◌≡◌}
use Rattle.sets.specs.Bits.{has}
use Rattle.sets.proofs.Members.{has_zero}
use Rattle.sets.proofs.Tables.{row_read}
use Rattle.sets.proofs.Gathered.{added_store}
use Rattle.histories.specs.History.{is_by}
use Rattle.histories.proofs.OfTransactions.{by_is}
use Rattle.rules.specs.LogHistory.{history_of}
use Rattle.tables.proofs.add.add_own.Goals as goal

-- three tests in another order
turned_round : (own counts here : Bool) → (own && (counts && here)) ≡ (here && (counts && own))
turned_round true true true = refl
turned_round true true false = refl
turned_round true false true = refl
turned_round true false false = refl
turned_round false true true = refl
turned_round false true false = refl
turned_round false false true = refl
turned_round false false false = refl

pub returns : goal.returns
returns c =
    let log = c.args.r.now.log in
    let k = c.args.r.now.place in
    let old = c.args.table.now in
    let at = c.args.c in
    let counts = c.args.counts in
    let t = c.transaction in
    let own : (j : ℕ) → has c.with-own.result j ≡ is_by (history_of log) k j =
    λ j.
    c.with-own.ensures j
    ∙ ap (λ (b : Bool). b || eqb t.result j) (has_zero j)
    ∙ ap (λ (x : ℕ). eqb x j) t.ensures.value
    ∙ sym (by_is (history_of log) k j) in
    let joined : (j : ℕ) → has c.only_if.result j ≡ (counts && is_by (history_of log) k j) =
    λ j. c.only_if.ensures j ∙ ap (λ (b : Bool). counts && b) (own j) in
    added_store (λ d j. is_by (history_of log) k j && (counts && eqb at d)) old at c.union.result (λ j. counts && is_by (history_of log) k j) c.requires.row_there
    (λ j. c.union.ensures j ∙ ap₂ (λ (a b : Bool). a || b) (row_read old at _ c.index-table-c.is c.requires.row_there j) (joined j))
    (λ d j. turned_round (is_by (history_of log) k j) counts (eqb at d))
