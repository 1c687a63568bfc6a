-- What is printed for the two questions: one line each.
use Rattle.std.specs.Prelude.{ℕ, Some, None, List, [], ◌∷◌, ◌++◌}
use Rattle.std.proofs.Math.Option.{Option, none, some}
use Rattle.histories.specs.Source.{Source}
use Rattle.rules.specs.Answer.{Answer, gives, refused}
use Rattle.rules.specs.Questions.{source_answer, edge_answer}
use Rattle.printing.specs.Lines.{newline, numbers_line, refusal_line}

-- "none"
unfoldable pub none_word : List ℕ
none_word = 110 ∷ 111 ∷ 110 ∷ 101 ∷ []

-- the transaction and the place on one line, `none`, or `refused number place`
unfoldable pub source_line : Answer (Option Source) → List ℕ
source_line (gives (some s)) = numbers_line s.transaction (Some s.place)
source_line (gives none) = none_word ++ newline
source_line (refused number place) = refusal_line number place

-- the reason, or `refused number place`
unfoldable pub edge_line : Answer ℕ → List ℕ
edge_line (gives n) = numbers_line n None
edge_line (refused number place) = refusal_line number place

-- what is printed for a log, of record k and of the edge from i to j
unfoldable pub printed_source : List ℕ → ℕ → List ℕ
printed_source log k = source_line (source_answer log k)

unfoldable pub printed_edge : List ℕ → (i j : ℕ) → List ℕ
printed_edge log i j = edge_line (edge_answer log i j)
