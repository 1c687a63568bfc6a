-- What the functions that print promise, one definition each, of what was asked, what was lent, what was answered and what was left. The
-- contract in src/ and the theorem that the answer is determined cite the same one.
use Rattle.std.specs.Prelude.{ℕ, List, length}
use Rattle.arrayvec.specs.ArrayString.{ArrayString}
use Rattle.verdict.specs.Numbers.{verdict_says}
use Rattle.answers.specs.Verdict.{LeavesRecords}
use Rattle.verdict.specs.declared.answer.Verdict.{Verdict}
use Rattle.printing.specs.Promises.{Prints}
use Rattle.text.specs.Text.{printed_answer, printed_with, printed}

-- `answer_text`, of a verdict and its records
abbrev pub PrintsAnswer : Verdict → (answer : List ℕ) → ArrayString → Type 0
PrintsAnswer verdict answer text = Prints (printed_answer (verdict_says verdict) answer) text

-- `judged_text`: the answer buffer, which held `answer`, now holds `kept`
pub record PrintsJudged (log answer : List ℕ) (text : ArrayString) (kept : List ℕ) : Type 0 where
  pub prints : Prints (printed_with (length answer) log) text
  pub keeps : LeavesRecords log answer kept

-- `log_text`
abbrev pub PrintsLog : (log : List ℕ) → ArrayString → Type 0
PrintsLog log text = Prints (printed log) text
