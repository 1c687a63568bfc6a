-- What the functions of the C face promise, one definition each, of what was asked, what was lent, what was answered and what was left. The
-- contract in src/ and the theorem that the answer is determined cite the same one.
use Rattle.std.specs.Prelude.{ℕ, ◌≡◌, List, length}
use Rattle.std.proofs.lemmas.List.Edits.{sets}
use Rattle.rules.specs.Questions.{source_answer, edge_answer}
use Rattle.rules.specs.Refusals.{check_answer}
use Rattle.lines.specs.Rule.{members_of, length_of}
use Rattle.sort.specs.Promises.{sorted_table}
use Rattle.answers.specs.Verdict.{verdict_answer, how_many}
use Rattle.answers.specs.Verdict.{LeavesRecords}
use Rattle.clib.specs.Coding.{coded, passed_value, coded_source, reason_value, coded_sorted, coded_verdict}
use Rattle.clib.specs.declared.Coded.{Coded}
use Rattle.clib.specs.declared.CodedSource.{CodedSource}
use Rattle.clib.specs.declared.CodedSorted.{CodedSorted}
use Rattle.clib.specs.declared.CodedVerdict.{CodedVerdict}

abbrev pub ChecksInC : List ℕ → Coded → Type 0
ChecksInC log answer = answer ≡ coded passed_value (check_answer log)

abbrev pub TellsSourceInC : List ℕ → ℕ → CodedSource → Type 0
TellsSourceInC log k answer = answer ≡ coded_source (source_answer log k)

abbrev pub TellsEdgeInC : List ℕ → (i j : ℕ) → Coded → Type 0
TellsEdgeInC log i j answer = answer ≡ coded reason_value (edge_answer log i j)

pub record SortsInC (table : List ℕ) (set : ℕ) (old : List ℕ) (answer : CodedSorted) (new : List ℕ) : Type 0 where
  pub says : answer ≡ coded_sorted (length_of (sorted_table table set))
  pub leaves : new ≡ sets old 0 (members_of (sorted_table table set))

pub record JudgesInC (log old : List ℕ) (answer : CodedVerdict) (new : List ℕ) : Type 0 where
  pub says : answer ≡ coded_verdict (how_many (verdict_answer log (length old)))
  pub leaves : LeavesRecords log old new
