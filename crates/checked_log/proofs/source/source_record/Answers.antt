-- `checked_log::source::source_record` meets its contract: what the walk back finds is the last write of the copy.
use Rattle.std.proofs.Common.{ap, refl, rules, sym, ℕ, ◌∙◌}
use Rattle.sets.specs.Search.{last_below}
use Rattle.sets.proofs.WalkBack.{last_found}
use Rattle.histories.specs.History.{writes_copy}
use Rattle.histories.specs.Source.{shows, source_record}
use Rattle.histories.proofs.Sources.{source_other}
use Rattle.rules.specs.LogHistory.{history_of}
use Rattle.checked_log.proofs.source.source_record.Goals as goal

pub returns-then-not-is : goal.returns-then-not-is
returns-then-not-is c =
    let e = c.if-not-is.ensures in sym (source_other (history_of c.args.log.now) c.args.k (sym (rw c.record-r.ensures at e)))

pub returns : goal.returns
unfolding source_record shows
returns c =
    let log = c.args.log.now in
    let e = c.if-not-is.ensures in
    last_found (λ x. writes_copy (history_of log) x c.copy-copy.result) _ (λ x b q h. search rules) c.args.k _ _ _ c.rev.ensures.source c.find.ensures.ran
    ∙ ap (λ (d : ℕ). last_below c.args.k (λ x. writes_copy (history_of log) x d)) (rw c.record-r.ensures at c.copy-copy.ensures.value)
    ∙ sym (rw (sym (rw c.record-r.ensures at e)) refl)
