-- `checked_log::source::writes_copy` meets its contract: a write writes the copy that it names, and no other.
use Rattle.std.proofs.Common.{Bool, ap, eq-eqb, eqb, ne_eqb, sym, ◌&&◌, ◌∙◌, ◌≡◌}
use Rattle.std.proofs.Math.Bool.{and-false, and-true}
use Rattle.histories.specs.History.{writes_copy}
use Rattle.histories.proofs.OfTransactions.{writes_copy_of}
use Rattle.rules.specs.LogHistory.{history_of}
use Rattle.rules.specs.Record.{is_write}
use Rattle.checked_log.proofs.source.writes_copy.Goals as goal
use Rattle.checked_log.proofs.source.writes_copy.Goals.{After-copy}

-- what the record writes, by the copy that was read
by_copy : (c : After-copy) → writes_copy (history_of c.args.r.now.log) c.args.r.now.place c.args.copy
    ≡ (is_write c.args.r.now.log c.args.r.now.place && eqb c.copy.result c.args.copy)
by_copy c = writes_copy_of (history_of c.args.r.now.log) c.args.r.now.place c.args.copy c.copy.ensures.value

pub returns-then-copy : goal.returns-then-copy
returns-then-copy c =
    let own = is_write c.args.r.now.log c.args.r.now.place in
    c.is.ensures
    ∙ sym (by_copy (goal.at.returns-then-copy c).After-copy
    ∙ ap (λ (b : Bool). own && b) (eq-eqb c.copy.result c.args.copy c.if-copy.true)
    ∙ and-true own)

pub returns-else-copy : goal.returns-else-copy
returns-else-copy c =
    let own = is_write c.args.r.now.log c.args.r.now.place in
    let other = ne_eqb c.copy.result c.args.copy c.if-copy.false in
    sym
    (by_copy (goal.at.returns-else-copy c).After-copy
    ∙ ap (λ (b : Bool). own && b) other
    ∙ and-false own
    ∙ sym other)
