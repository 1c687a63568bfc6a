-- The write order of an item. What it is stands in `comes_before` alone; everything else goes by the laws of proofs/Orders.antt and never
-- opens it.
use Rattle.std.specs.Prelude.{ℕ, Bool, false, not, ◌&&◌, eqb, ltb}
use Rattle.std.proofs.Math.Option.{Option, none, some}
use Rattle.histories.specs.History.{History}
use Rattle.histories.specs.Earlier.{first_of, writes}

-- of two records, where both are there, the first "stands earlier"
abbrev pub earlier : Option ℕ → Option ℕ → Bool
earlier (some e) (some f) = ltb e f
earlier (some e) none = false
earlier none o = false

module _ (h : History) where
  -- "Write order of an item: of two transactions that write the item, the one whose commit stands earlier comes first": of the two
  -- writers i and j of the item x, i comes first. In a log that passes, the first commit of a transaction is its only one.
  unfoldable pub comes_before : (x i j : ℕ) → Bool
  comes_before x i j = earlier (first_of h i h.is_commit) (first_of h j h.is_commit)

  -- "j writes that item, j is not s, and s comes before j in the write order"
  unfoldable pub writer_after : (x s j : ℕ) → Bool
  writer_after x s j = writes h j x && not (eqb j s) && comes_before x s j
