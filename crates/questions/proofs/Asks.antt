-- What is printed for a question in bytes, case by case.
use Rattle.std.proofs.Common.{ℕ, ◌-◌, ◌<◌, ◌≤◌, arith, ◌≡◌, List, [], length, get_or, take, drop, length-drop, take_all}
use Rattle.questions.specs.Text.{printed_source, printed_edge}
use Rattle.questions.specs.Asked.{head_bytes, number_at, printed_asked}

-- as many bytes as there are from place k on are all that stand behind the first k
pub part_behind : (k : ℕ) (xs : List ℕ) → take (length xs - k) (drop k xs) ≡ drop k xs
part_behind k xs = take_all (length xs - k) (drop k xs) (omega (arith, length-drop k xs))

module _ (input : List ℕ) where
  pub no_question : length input < head_bytes → printed_asked input ≡ []
  unfolding printed_asked
  no_question l = grind arith

  pub edge_asked : head_bytes ≤ length input → get_or input 0 0 ≡ 1
      → printed_asked input ≡ printed_edge (drop head_bytes input) (number_at input 1) (number_at input 3)
  unfolding printed_asked
  edge_asked l e = grind arith

  pub source_asked : head_bytes ≤ length input → (get_or input 0 0 ≡ 1 → ⊥)
      → printed_asked input ≡ printed_source (drop head_bytes input) (number_at input 1)
  unfolding printed_asked
  source_asked l e = grind arith
