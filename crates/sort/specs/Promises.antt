-- What the sort promises, and what its parts do: each as one definition whose fields have names. The contracts in src/ cite them, and the
-- theorem that the answer is determined.
use Rattle.std.specs.Prelude.{ℕ, ◌≡◌, Bool, List}
use Rattle.std.specs.Prelude.{Option as Found}
use Rattle.std.proofs.Math.Option.{none}
use Rattle.std.proofs.lemmas.List.Edits.{sets}
use Rattle.sets.specs.Bits.{numbers, has, in_row}
use Rattle.sets.specs.Search.{found_says}
use Rattle.lines.specs.Rule.{LineOrCycle, next, placed, rest, sorted, members_of, length_of}
use Rattle.sort.specs.Numbers.{sorted_says}
use Rattle.sort.specs.Searched.{Searched, Blocked}
use Rattle.sort.specs.declared.Sorted.{Sorted}

-- the line or the cycle of a table's edges and a set's members
abbrev pub sorted_table : List ℕ → ℕ → LineOrCycle (List ℕ)
sorted_table table set = sorted numbers (in_row table) (has set)

-- the sort: of the table and the set, the buffer lent, the answer and the buffer left
pub record SortsTable (table : List ℕ) (set : ℕ) (old : List ℕ) (answer : Sorted) (new : List ℕ) : Type 0 where
  pub says : sorted_says answer ≡ length_of (sorted_table table set)
  pub leaves : new ≡ sets old 0 (members_of (sorted_table table set))

-- a search for the ready one: of those left, the answer and the predecessors kept
pub record FindsReady (edge : ℕ → ℕ → Bool) (left : ℕ → Bool) (answer : Found ℕ) (waits : List ℕ) : Type 0 where
  pub says : found_says answer ≡ next numbers edge left
  pub searched : Searched edge left waits
  pub blocked : next numbers edge left ≡ none → Blocked edge left waits

-- the placing: of a set, the line of those placed, those left and the predecessors kept
pub record PlacesAll (edge : ℕ → ℕ → Bool) (set : ℕ → Bool) (line : List ℕ) (left : ℕ → Bool) (waits : List ℕ) : Type 0 where
  pub is_placed : line ≡ placed numbers edge numbers set
  pub same_rest : (t : ℕ) → left t ≡ rest numbers edge numbers set t
  pub blocked : Blocked edge left waits
