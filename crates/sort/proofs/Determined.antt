-- The promise of the sort determines its answer and the buffer that was lent; and what is promised means, of every table and every set,
-- the smallest line or a cycle where there is none.
use Prim.Native.Nat.{ℕ, ◌<◌, ◌^◌}
use native.Mathlib.Omega.{arith}
use native.Mathlib.Nat.{zero-add}
use mathlib.Core.Path.{◌≡◌, sym, ◌∙◌, ap}
use mathlib.Core.List.{List, ◌++◌}
use lib.ListN.{length, drop}
use lib.Seq.{sets, sets-eq}
use Rattle.sets.specs.Bits.{numbers, has, in_row}
use Rattle.sets.proofs.Members.{has_low}
use Rattle.lines.specs.Rule.{members_of}
use Rattle.lines.specs.Lines.{Below, Means}
use Rattle.sort.specs.Numbers.{sorted_says}
use Rattle.sort.specs.Promises.{SortsTable, sorted_table}
use Rattle.sort.specs.declared.Sorted.{Sorted}
use Rattle.sort.specs.declared.Sorted.TheVariants.{Line, Cycle}
use Rattle.lines.proofs.Sorts.{sorted_means, means_fit}

-- the code's answer is told by what it says
pub same_sorted : (a b : Sorted) → sorted_says a ≡ sorted_says b → a ≡ b
same_sorted (Line m) (Line n) e = cc
same_sorted (Line m) (Cycle n) e = cc
same_sorted (Cycle m) (Line n) e = cc
same_sorted (Cycle m) (Cycle n) e = cc

-- THEOREM: any two answers that `sort` promises for a table, a set and a buffer are equal, and so are the buffers left
pub sort_determined : (table : List ℕ) (set : ℕ) (old : List ℕ) (a b : Sorted) (left right : List ℕ)
    → SortsTable table set old a left → SortsTable table set old b right → (a ≡ b) × (left ≡ right)
sort_determined table set old a b left right p q = (same_sorted a b (p.says ∙ sym q.says), p.leaves ∙ sym q.leaves)

-- what the machine's 64 bits can say
module _ (table : List ℕ) (set : ℕ) (fits : set < 2 ^ numbers) where
  low : Below numbers (has set)
  low t h = has_low set numbers t fits h

  -- THEOREM: what `sort` promises for a table and a set is the smallest line, or a cycle where there is no line
  pub sort_means : Means numbers (in_row table) (has set) (sorted_table table set)
  sort_means = sorted_means numbers (in_row table) (has set) low

  -- THEOREM: it fits the buffer, so that the members stand in its front, and behind them is what was there
  pub sort_written : (old : List ℕ) → length old ≡ numbers
      → let xs = members_of (sorted_table table set) in sets old 0 xs ≡ xs ++ drop (length xs) old
  sort_written old w =
      let xs = members_of (sorted_table table set) in
      sets-eq xs old 0 (omega (arith, w, means_fit numbers (in_row table) (has set) low (sorted_table table set) sort_means))
      ∙ ap (λ (k : ℕ). xs ++ drop k old) (zero-add (length xs))
