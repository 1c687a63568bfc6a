-- What the check keeps of the records before k. Only the contracts of its own steps cite this file.
use Rattle.std.specs.Prelude.{ℕ, ◌*◌, ◌≡◌, List, Bool, true, ◌&&◌, eqb, length, get_or}
use Rattle.std.proofs.Math.Option.{some}
use Rattle.sets.specs.Search.{first_below}
use Rattle.sets.specs.Bits.{has}
use Rattle.sets.specs.Gathered.{SetBelow, TableBelow}
use Rattle.histories.specs.History.{is_by, writes_copy, writes_item}
use Rattle.rules.specs.LogHistory.{named, history_of}
use Rattle.rules.specs.Record.{transactions, items, sites, transaction, is_commit}
use Rattle.kept.specs.declared.Kept.{Kept}

-- a table that has, for each copy or each item c, the set of the transactions with a record before k that writes c. It is said
-- of every number c and t, so also that none past the table's end is written or writes.
abbrev pub KeptWriters : List ℕ → (ℕ → ℕ → Bool) → (wide k : ℕ) → List ℕ → Type 0
KeptWriters log writes wide k = TableBelow wide (λ e c t. is_by (history_of log) e t && writes e c) k

abbrev pub KeptCopies : List ℕ → ℕ → List ℕ → Type 0
KeptCopies log = KeptWriters log (writes_copy (history_of log)) (items * sites)

abbrev pub KeptItems : List ℕ → ℕ → List ℕ → Type 0
KeptItems log = KeptWriters log (writes_item (history_of log)) items

-- the set of the transactions that have committed
abbrev pub KeptCommits : List ℕ → (k commits : ℕ) → Type 0
KeptCommits log = SetBelow (λ e t. is_by (history_of log) e t && is_commit log e)

-- the set of the transactions that are named, and the first record of each of them
pub record KeptNames (log : List ℕ) (k names : ℕ) (firsts : List ℕ) : Type 0 where
  pub whole : length firsts ≡ transactions
  pub said : (t : ℕ) → has names t ≡ named log t k
  pub first : (t : ℕ) → named log t k ≡ true → first_below k (λ e. eqb (transaction log e) t) ≡ some (get_or firsts t 0)

-- all of it: what is kept is what has happened before record k
pub record KeptBefore (log : List ℕ) (k : ℕ) (kept : Kept) : Type 0 where
  pub copies : KeptCopies log k kept.copy_writers
  pub items : KeptItems log k kept.item_writers
  pub names : KeptNames log k kept.named kept.firsts
  pub commits : KeptCommits log k kept.committed
