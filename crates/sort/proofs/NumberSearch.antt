-- Laws of a search for the first number from k on, told by a number, n where there is none. No proof of the code cites them: the code's own
-- search answers with an Option, and `found_after` and `found_low` are said of that.
use Rattle.std.proofs.Common.{ℕ, ◌≤◌, arith, Bool}
use Rattle.std.proofs.Math.Option.{Option, get_or}
use Rattle.sets.specs.Search.{next_from}
use Rattle.sets.proofs.From.{NextFrom, next_miss, next_hit, next_view}

-- the first number below n, from k on, that passes the test; n where there is none
abbrev pub first_from : ℕ → ℕ → (ℕ → Bool) → ℕ
first_from k n p = get_or (next_from k n p) n

-- it is not past the end of the numbers, and not below k
pub first_within : (k n : ℕ) (p : ℕ → Bool) → first_from k n p ≤ n
first_within k n p = go (next_view p k n)
  where
    go : {o : Option ℕ} → NextFrom p k n o → get_or o n ≤ n
    go (next_miss f) = omega arith
    go (next_hit m l h f) = omega (arith, l)

pub first_above : (k n : ℕ) (p : ℕ → Bool) → k ≤ n → k ≤ first_from k n p
first_above k n p b = go (next_view p k n)
  where
    go : {o : Option ℕ} → NextFrom p k n o → k ≤ get_or o n
    go (next_miss f) = b
    go (next_hit m l h f) = m
