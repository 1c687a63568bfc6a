-- What the theorems need of a history, in one record. It is shown once for the logs that pass, from the absence of refusals.
use Rattle.std.specs.Prelude.{ℕ, ◌≡◌, true}
use Rattle.std.proofs.Math.Option.{some}
use Rattle.histories.specs.History.{History, Counts}
use Rattle.histories.specs.Earlier.{first_of, wrote_copy, wrote_item}
use Rattle.histories.specs.Source.{writer_behind}
use Rattle.histories.specs.Faults.{PlainCopies}

module _ (h : History) where
  -- the first commit of t
  pub record Commits (t : ℕ) : Type 0 where
    pub at : ℕ
    pub first : first_of h t h.is_commit ≡ some at

  -- the read k has a source, whose transaction takes part
  pub record HasSource (k : ℕ) : Type 0 where
    pub origin : ℕ
    pub from : writer_behind h k ≡ some origin
    pub part : h.takes_part origin ≡ true

  pub record Sound : Type 0 where
    -- who takes part commits
    pub commits : (t : ℕ) → h.takes_part t ≡ true → Commits t
    -- each read that counts has a source, whose transaction takes part
    pub has_source : (k : ℕ) → Counts h k → h.is_read k ≡ true → HasSource k
    pub of_copies : PlainCopies h
    -- who has written an item reads only copies that it wrote
    pub own_copies : (k : ℕ) → Counts h k → h.is_read k ≡ true → wrote_item h (h.transaction k) (h.item k) k ≡ true
        → wrote_copy h (h.transaction k) (h.copy k) k ≡ true
