-- `checked_log::source::source_of_record` meets its contract: the check's refusal is passed on, then 10 is tried, and then the source record
-- that the walk back finds is earlier than k, and so there.
use Rattle.std.proofs.Common.{List, ap, arith, sym, ℕ, ◌<◌, ◌∙◌, ◌≡◌}
use Rattle.std.proofs.Math.Option.{Option, some, none, map}
use Rattle.std.proofs.lemmas.Result.{err_from_is_err_and}
use Rattle.histories.specs.Source.{source, source_record, write_record}
use Rattle.histories.proofs.Sources.{sourced}
use Rattle.rules.specs.Answer.{gives, passed}
use Rattle.rules.specs.LogHistory.{history_of}
use Rattle.rules.specs.Questions.{source_answer}
use Rattle.rules.specs.Record.{records, transaction}
use Rattle.rules.specs.Refusals.{check_answer}
use Rattle.rules.proofs.Answers.{then_refused, then_given, then_same}
use Rattle.rules.proofs.Asked.{asked_refused, asked_past, asked}
use Rattle.checked_log.proofs.source.source_of_record.Goals as goal
use Rattle.checked_log.proofs.source.source_of_record.Goals.{After-records, Else-records-k}

pub returns-in_err-check : goal.returns-in_err-check
returns-in_err-check c =
    let p = err_from_is_err_and c.from_residual.result c.from_residual.ensures.1 in
    rw (p.1, p.2) (sym (asked_refused c.args.log.now c.args.k (then_refused _ _ _ _ (sym c.in_err-check.ensures))))

-- the log has passed, and is handed on as it is
passes : (c : After-records) → check_answer c.args.log.now ≡ passed
passes c = then_given _ _ _ (sym c.in_ok-check.ensures)

same : (c : After-records) → c.log-log.result ≡ c.args.log.now
same c = c.log-log.ensures.same ∙ sym (then_same _ _ _ (sym c.in_ok-check.ensures))

counted : (c : After-records) → c.records.result ≡ records c.args.log.now
counted c = c.records.ensures ∙ ap records (same c)

pub returns-then-records-k : goal.returns-then-records-k
returns-then-records-k c =
    let read = (goal.at.returns-then-records-k c).After-records in
    sym (asked_past c.args.log.now c.args.k (passes read) (rw (← counted read) c.if-records-k.true))

-- where record k is there
there : (c : Else-records-k) → c.args.k < records c.args.log.now
there c = rw (← counted (goal.at.Else-records-k c).After-records) c.if-records-k.false

-- the answer is the write record of what the walk back finds
answered : (c : Else-records-k) (o : Option ℕ) → o ≡ source_record (history_of c.args.log.now) c.args.k
    → gives (map (write_record (history_of c.args.log.now)) o) ≡ source_answer c.args.log.now c.args.k
unfolding source
answered c o e =
    ap (λ (x : Option ℕ). gives (map (write_record (history_of c.args.log.now)) x)) e
    ∙ sym (asked c.args.log.now c.args.k (passes (goal.at.Else-records-k c).After-records) (there c))

pub record-requires : goal.record-requires
record-requires c =
    let at = (goal.at.record-requires c).Else-records-k in
    let s = sourced (history_of c.log-log.result) c.args.k c.in-Some.e (sym c.in-Some.ensures) in
    rw (same (goal.at.record-requires c).After-records) (omega (arith, s.earlier, there at))

pub returns-in-Some : goal.returns-in-Some
unfolding write_record
returns-in-Some c =
    let log = same (goal.at.returns-in-Some c).After-records in
    let at = rw c.record.ensures at c.transaction.ensures.value in
    ap (λ (t : ℕ). gives (some (record { transaction = t; place = c.in-Some.e }))) (at ∙ ap (λ (l : List ℕ). transaction l c.in-Some.e) log)
    ∙ answered (goal.at.returns-in-Some c).Else-records-k (some c.in-Some.e) (rw log at c.in-Some.ensures)

pub returns-in-None : goal.returns-in-None
returns-in-None c =
    answered (goal.at.returns-in-None c).Else-records-k none (rw (same (goal.at.returns-in-None c).After-records) at c.in-None.ensures)
