-- `text::judged_text` meets its contract: the text of what the verdict says, with its records in the buffer, is what is printed.
use Rattle.std.proofs.Common.{◌∙◌}
use Rattle.text.proofs.Answers.{lent, judged}
use Rattle.text.proofs.judged_text.Goals as goal

pub answer_text-requires : goal.answer_text-requires
answer_text-requires c = lent c.args.log.now c.args.answer.now c.verdict-found.ensures.says c.verdict-found.ensures.leaves

pub returns : goal.returns
returns c =
    let found = c.verdict-found.ensures in
    let text = c.answer_text.ensures in
    record {
      prints = record { is = text.is ∙ judged c.args.log.now c.args.answer.now found.says found.leaves; fits = text.fits };
      keeps = found.leaves;
    }
