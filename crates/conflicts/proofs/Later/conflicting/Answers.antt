-- `Later::conflicting` meets its contract, by what is kept of the records after k.
use Rattle.std.proofs.Common.{Bool, List, ap, ap₂, get_or, refl, ℕ, ◌&&◌, ◌*◌, ◌+◌, ◌<◌, ◌||◌, ◌∙◌, ◌≡◌}
use Rattle.sets.specs.Bits.{has}
use Rattle.sets.specs.Search.{some_from}
use Rattle.sets.proofs.Tables.{row_read}
use Rattle.histories.specs.History.{is_by, uses_copy, writes_copy}
use Rattle.histories.proofs.Conflicts.{conflicts_by_kind}
use Rattle.rules.specs.LogHistory.{history_of}
use Rattle.rules.specs.Record.{copy_of, items, records, sites}
use Rattle.rules.proofs.KindBytes.{read_no_write}
use Rattle.tables.specs.Kept.{LaterSets}
use Rattle.conflicts.proofs.Later.conflicting.Goals as goal

-- what is read at the copy of record k
at_copy : (log : List ℕ) (k : ℕ) (test : ℕ → ℕ → Bool) {table : List ℕ} → LaterSets log test (items * sites) (k + 1) table → (c d j : ℕ)
    → (c ≡ copy_of log k) × (c < items * sites)
    → has (get_or table c d) j ≡ some_from (k + 1) (records log) (λ f. is_by (history_of log) f j && test f (copy_of log k))
at_copy log k test {table} w c d j e =
    row_read table c d refl (rw w.whole e.1) j
    ∙ w.said c j
    ∙ ap (λ (x : ℕ). some_from (k + 1) (records log) (λ f. is_by (history_of log) f j && test f x)) e.0

pub returns : goal.returns
returns c j =
    let log = c.args.r.now.log in
    let k = c.args.r.now.place in
    let later = c.args.self.now in
    let at = c.copy-c.result in
    let here : (at ≡ copy_of log k) × (at < items * sites) = (c.copy-c.ensures.value, c.copy-c.ensures.below) in
    let writers = has (get_or later.writers at c.index-self-c.result) j in
    let users = has (get_or later.users at c.index-self-c-2.result) j in
    c.union.ensures j
    ∙ ap₂ (λ (a b : Bool). a || b) (c.only_if-after_read.ensures j ∙ ap (λ (b : Bool). b && writers) c.is.ensures)
    (c.only_if-after_write.ensures j ∙ ap (λ (b : Bool). b && users) c.is-2.ensures)
    ∙ conflicts_by_kind (history_of log) k (read_no_write log k) j writers users
    (at_copy log k (writes_copy (history_of log)) c.requires.writers at c.index-self-c.result j here)
    (at_copy log k (uses_copy (history_of log)) c.requires.users at c.index-self-c-2.result j here)
