-- `verdict::verdict` meets its contract: a refusal is passed on before the buffer is touched, and else the log's line or cycle is given.
use Rattle.std.proofs.Common.{ap, length, List, sym, ℕ, ◌∙◌}
use Rattle.std.proofs.lemmas.List.Edits.{sets}
use Rattle.rules.specs.Answer.{Answer}
use Rattle.rules.proofs.Answers.{then_refused, then_given, then_same}
use Rattle.lines.specs.Rule.{LineOrCycle}
use Rattle.answers.specs.Verdict.{answer_records, how_many}
use Rattle.answers.proofs.VerdictRows.{enough_room, answer_refused, answer_given}
use Rattle.verdict.proofs.verdict.Goals as goal

pub ordered-requires : goal.ordered-requires
ordered-requires c = enough_room c.args.log.now (length c.args.answer.now) (then_given _ _ _ (sym c.in-Ok.ensures))

-- what is said and written of an answer
module _ (log old : List ℕ) where
  abbrev written : Answer (LineOrCycle (List ℕ)) → List ℕ
  written a = sets old 0 (answer_records log a)

pub returns-in-Err : goal.returns-in-Err
returns-in-Err c =
    let is = answer_refused c.args.log.now (length c.args.answer.now) (then_refused _ _ _ _ (sym c.in-Err.ensures)) in
    record { says = sym (ap how_many is); leaves = sym (ap (written c.args.log.now c.args.answer.now) is) }

pub returns-in-Ok : goal.returns-in-Ok
returns-in-Ok c =
    let same = sym (then_same _ _ _ (sym c.in-Ok.ensures)) in
    let says = rw same at c.ordered.ensures.says in
    let writes = rw same at c.ordered.ensures.written in
    let is = answer_given c.args.log.now (length c.args.answer.now) (then_given _ _ _ (sym c.in-Ok.ensures)) in
    record {
      says = says ∙ sym (ap how_many is);
      leaves = writes ∙ sym (ap (written c.args.log.now c.args.answer.now) is);
    }
