-- The promise of the verdict determines its answer and every byte of the buffer that was lent.
use Rattle.std.proofs.Common.{ℕ, arith, ◌≡◌, sym, ◌∙◌, ap, List}
use Rattle.rules.proofs.Answers.{said_place}
use Rattle.refusals.proofs.Determined.{same_refusal}
use Rattle.verdict.specs.Numbers.{verdict_says}
use Rattle.verdict.specs.Promises.{JudgesLog}
use Rattle.verdict.specs.declared.answer.Verdict.{Verdict}
use Rattle.verdict.specs.declared.answer.Verdict.TheVariants.{Line, Cycle, Refused}

pub same_verdict : (a b : Verdict) → verdict_says a ≡ verdict_says b → a ≡ b
same_verdict (Line m) (Line n) e = cc
same_verdict (Line m) (Cycle n) e = cc
same_verdict (Line m) (Refused s) e = cc
same_verdict (Cycle m) (Line n) e = cc
same_verdict (Cycle m) (Cycle n) e = cc
same_verdict (Cycle m) (Refused s) e = cc
same_verdict (Refused r) (Line n) e = cc
same_verdict (Refused r) (Cycle n) e = cc
same_verdict (Refused r) (Refused s) e = ap Refused (same_refusal r s (cc) (omega (arith, ap said_place e)))

-- THEOREM: any two answers that `verdict` promises for a log and a buffer are equal, and so are the buffers left
pub verdict_determined : (log old : List ℕ) (a b : Verdict) (left right : List ℕ) → JudgesLog log old a left → JudgesLog log old b right
    → (a ≡ b) × (left ≡ right)
verdict_determined log old a b left right p q = (same_verdict a b (p.says ∙ sym q.says), p.leaves ∙ sym q.leaves)
