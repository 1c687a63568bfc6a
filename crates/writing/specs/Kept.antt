-- What is kept while a cycle's reasons are found. No promise of an entry point cites this file.
use Rattle.std.specs.Prelude.{ℕ, ◌<◌, ◌≡◌, List, length}
use Rattle.rules.specs.Record.{transactions}
use Rattle.answers.specs.Verdict.{entry, round_to}

-- the first n of a list are transactions
abbrev pub Low : ℕ → List ℕ → Type 0
Low n xs = (k : ℕ) → k < n → entry xs k < transactions

-- 64 places, of which the first m hold the reasons from one to the next, round a cycle of n
pub record Along (reason : ℕ → ℕ → ℕ) (xs : List ℕ) (n m : ℕ) (reasons : List ℕ) : Type 0 where
  pub whole : length reasons ≡ transactions
  pub said : (k : ℕ) → k < m → entry reasons k ≡ reason (entry xs k) (entry xs (round_to n k))
