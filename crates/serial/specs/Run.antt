-- A run of a line of transactions on a single copy: the last writer of an item, and the writer that a read gets.
use Rattle.std.specs.Prelude.{ℕ, Bool, cond, List, [], ◌∷◌, eqb}
use Rattle.std.proofs.Math.Option.{Option, none, some}
use Rattle.sets.specs.Search.{or_else}
use Rattle.histories.specs.History.{History}
use Rattle.histories.specs.Earlier.{wrote_item, writes}

-- what stands in the line before j
unfoldable pub before : ℕ → List ℕ → List ℕ
before j [] = []
before j (t ∷ ts) = cond (eqb t j) [] (t ∷ before j ts)

-- the last of the line that passes the test, if there is one
unfoldable pub last_of : (ℕ → Bool) → List ℕ → Option ℕ
last_of p [] = none
last_of p (t ∷ ts) = or_else (last_of p ts) (cond (p t) (some t) none)

module _ (h : History) where
  -- the last transaction of the line "that writes the item"; only those that take part stand in a line
  abbrev pub last_writer : ℕ → List ℕ → Option ℕ
  last_writer x = last_of (λ t. writes h t x)

  -- "A run on a single copy of a line of transactions: a read by j of an item gets j itself if j has an earlier write record of that item in
  -- the log, otherwise the last transaction before j in the line that writes the item." Here of the read record k.
  unfoldable pub run_writer : List ℕ → ℕ → Option ℕ
  run_writer line k =
      let j = h.transaction k in
      let x = h.item k in
      cond (wrote_item h j x k) (some j) (last_writer x (before j line))
