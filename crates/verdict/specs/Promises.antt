-- What the verdict promises, as one definition of the log, the buffer lent, the answer and the buffer left. The contract in src/ and the
-- theorem that the answer is determined cite it, and so do the crates above.
use Rattle.std.specs.Prelude.{ℕ, List}
use Rattle.answers.specs.Verdict.{Judged}
use Rattle.verdict.specs.Numbers.{verdict_says}
use Rattle.verdict.specs.declared.answer.Verdict.{Verdict}

abbrev pub JudgesLog : (log old : List ℕ) → Verdict → (new : List ℕ) → Type 0
JudgesLog log old answer new = Judged log old (verdict_says answer) new
