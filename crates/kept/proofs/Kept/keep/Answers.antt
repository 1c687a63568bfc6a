-- `Kept::keep` meets its contract: first what a write writes is kept, or a commit, and then the name.
use Rattle.std.proofs.Common.{ap, arith, eqb, sym, ℕ, ◌*◌, ◌∙◌}
use Rattle.histories.specs.History.{writes_copy, writes_item}
use Rattle.histories.proofs.OfTransactions.{copy_writes, item_writes}
use Rattle.rules.specs.LogHistory.{history_of}
use Rattle.rules.specs.Record.{items, sites}
use Rattle.kept.proofs.Keeping.{NameLeft, names_add, names_stay, writers_add, same_copies, same_items, write_no_commit, commits_add, commits_stay}
use Rattle.kept.proofs.Kept.keep.Goals as goal
use Rattle.kept.proofs.Kept.keep.Goals.{Joined-is, then-is, else-is+then-is-2, else-is+else-is-2}

name_left : (c : Joined-is) → NameLeft c.args.r.now.log c.args.r.now.place c.args.self.now c.if-is.self
name_left c =
    let log = c.args.r.now.log in
    let k = c.args.r.now.place in
    let kept = c.args.self.now in
    let t = c.transaction-t.result in
    let own = c.transaction-t.ensures.value in
    elim c.if-is.branch [
      | then-is w ↦
          let writes = sym w.if-is.ensures in
          rw w.self-is
          (record {
            copies = λ old. writers_add log (writes_copy (history_of log)) (items * sites) k kept.copy_writers old w.copy-c.result t w.with.result
                w.index-self-c.result w.copy-c.ensures.below (λ x. copy_writes (history_of log) k writes x ∙ ap (λ (y : ℕ). eqb y x) (sym w.copy-c.ensures.value))
                own w.with.ensures;
            items = λ old. writers_add log (writes_item (history_of log)) items k kept.item_writers old w.item-x.result t w.with-then-is.result
                w.index-self-x.result w.item-x.ensures.below (λ x. item_writes (history_of log) k writes x ∙ ap (λ (y : ℕ). eqb y x) (sym w.item-x.ensures.value))
                own w.with-then-is.ensures;
            names = λ old. old;
            commits = λ old. commits_stay log k kept.committed old (write_no_commit log k writes);
          })
      | else-is+then-is-2 w ↦
          let silent = sym w.if-is.ensures in
          rw w.self-is
          (record {
            copies = same_copies log k kept.copy_writers silent;
            items = same_items log k kept.item_writers silent;
            names = λ old. old;
            commits = λ old. commits_add log k kept.committed old t w.with-self.result (sym w.if-is-2.ensures) own w.with-self.ensures;
          })
      | else-is+else-is-2 w ↦
          let silent = sym w.if-is.ensures in
          rw w.self-is
          (record {
            copies = same_copies log k kept.copy_writers silent;
            items = same_items log k kept.item_writers silent;
            names = λ old. old;
            commits = λ old. commits_stay log k kept.committed old (sym w.if-is-2.ensures);
          })
    ]

pub returns-then-not-has-clause-copies : goal.returns-then-not-has-clause-copies
returns-then-not-has-clause-copies c = (name_left (goal.at.returns-then-not-has-clause-copies c).Joined-is).copies

pub returns-else-not-has-clause-copies : goal.returns-else-not-has-clause-copies
returns-else-not-has-clause-copies c = (name_left (goal.at.returns-else-not-has-clause-copies c).Joined-is).copies

pub returns-then-not-has-clause-items : goal.returns-then-not-has-clause-items
returns-then-not-has-clause-items c = (name_left (goal.at.returns-then-not-has-clause-items c).Joined-is).items

pub returns-else-not-has-clause-items : goal.returns-else-not-has-clause-items
returns-else-not-has-clause-items c = (name_left (goal.at.returns-else-not-has-clause-items c).Joined-is).items

pub returns-then-not-has-clause-commits : goal.returns-then-not-has-clause-commits
returns-then-not-has-clause-commits c = (name_left (goal.at.returns-then-not-has-clause-commits c).Joined-is).commits

pub returns-else-not-has-clause-commits : goal.returns-else-not-has-clause-commits
returns-else-not-has-clause-commits c = (name_left (goal.at.returns-else-not-has-clause-commits c).Joined-is).commits

-- the name, which the last lines keep
pub returns-then-not-has-clause-names : goal.returns-then-not-has-clause-names
returns-then-not-has-clause-names c = λ old.
    names_add c.args.r.now.log c.args.r.now.place c.if-is.self.named c.if-is.self.firsts
    ((name_left (goal.at.returns-then-not-has-clause-names c).Joined-is).names old) c.transaction-t.result
    c.with-self-then-not-has.result c.transaction-t.ensures.value c.transaction-t.ensures.below (sym c.if-not-has.ensures)
    c.with-self-then-not-has.ensures (omega (arith, c.place.ensures.place))

pub returns-else-not-has-clause-names : goal.returns-else-not-has-clause-names
returns-else-not-has-clause-names c = λ old.
    names_stay c.args.r.now.log c.args.r.now.place c.if-is.self.named c.if-is.self.firsts
    ((name_left (goal.at.returns-else-not-has-clause-names c).Joined-is).names old) c.transaction-t.result
    c.transaction-t.ensures.value (sym c.if-not-has.ensures)
