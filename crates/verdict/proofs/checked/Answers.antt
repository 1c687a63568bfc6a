-- `verdict::checked` meets its contract: the length's refusal, then number 3, then the content's; and a log that none of them refuses passes.
use Rattle.std.proofs.Common.{refl, sym, ◌∙◌, ◌≡◌}
use Rattle.std.proofs.lemmas.Result.{err_from_is_err_and}
use Rattle.rules.specs.Answer.{passed}
use Rattle.rules.specs.Refusals.{content_answer}
use Rattle.answers.specs.Verdict.{verdict_check}
use Rattle.answers.proofs.VerdictRows.{short, roomy, by_length, by_room, by_content, check_passes}
use Rattle.verdict.proofs.checked.Goals as goal
use Rattle.verdict.proofs.checked.Goals.{Else-room-lt-MOST_ANSWER, In_ok-content_answer}

pub returns-in_err-length_answer : goal.returns-in_err-length_answer
returns-in_err-length_answer c =
    let p = err_from_is_err_and c.from_residual.result c.from_residual.ensures.1 in
    rw (p.1, p.2, by_length c.args.log.now c.args.room _ _ (sym c.in_err-length_answer.ensures)) refl

pub returns-then-room-lt-MOST_ANSWER : goal.returns-then-room-lt-MOST_ANSWER
returns-then-room-lt-MOST_ANSWER c =
    rw (by_room c.args.log.now c.args.room (sym c.in_ok-length_answer.ensures) (short c.args.room c.if-room-lt-MOST_ANSWER.true)) refl

-- where there is room, it is the content that is asked
by_rest : (c : Else-room-lt-MOST_ANSWER) → verdict_check c.args.log.now c.args.room ≡ content_answer c.args.log.now
by_rest c = by_content c.args.log.now c.args.room (sym c.in_ok-length_answer.ensures) (roomy c.args.room c.if-room-lt-MOST_ANSWER.false)

pub returns-in_err-content_answer : goal.returns-in_err-content_answer
returns-in_err-content_answer c =
    let p = err_from_is_err_and c.from_residual-in_err-content_answer.result c.from_residual-in_err-content_answer.ensures.1 in
    rw (p.1, p.2, by_rest (goal.at.returns-in_err-content_answer c).Else-room-lt-MOST_ANSWER, sym c.in_err-content_answer.ensures) refl

passes : (c : In_ok-content_answer) → verdict_check c.args.log.now c.args.room ≡ passed
passes c = by_rest (goal.at.In_ok-content_answer c).Else-room-lt-MOST_ANSWER ∙ sym c.in_ok-content_answer.ensures

pub new-requires : goal.new-requires
new-requires c = check_passes c.args.log.now c.args.room (passes (goal.at.new-requires c).In_ok-content_answer)

pub returns : goal.returns
returns c = rw (c.new.ensures, passes (goal.at.returns c).In_ok-content_answer) refl
