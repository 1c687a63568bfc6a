-- Searches among the numbers below n, by a test that says yes or no of each number. All definitions of "some", "first" and
-- "last" of numbers in the crates above are one of these.
use Rattle.std.specs.Prelude.{ℕ, zero, suc, ◌+◌, Bool, false, ◌&&◌, ◌||◌, not, cond, eqb, leb}
use Rattle.std.specs.Prelude.{Some, None, Option as Found}
use Rattle.std.proofs.Math.Option.{Option, none, some}

-- some number below n passes the test
unfoldable pub some_below : ℕ → (ℕ → Bool) → Bool
some_below zero p = false
some_below (suc n) p = some_below n p || p n

-- some number below n, from k on, passes the test
unfoldable pub some_from : ℕ → ℕ → (ℕ → Bool) → Bool
some_from k n p = some_below n (λ e. leb k e && p e)

-- the last number below n that passes the test, if there is one
unfoldable pub last_below : ℕ → (ℕ → Bool) → Option ℕ
last_below zero p = none
last_below (suc n) p = cond (p n) (some n) (last_below n p)

-- what was found, or else a second choice
abbrev pub or_else : Option ℕ → Option ℕ → Option ℕ
or_else (some k) o = some k
or_else none o = o

-- the first number below n that passes the test, if there is one
unfoldable pub first_below : ℕ → (ℕ → Bool) → Option ℕ
first_below zero p = none
first_below (suc n) p = or_else (first_below n p) (cond (p n) (some n) none)

-- the first number below n, from k on, that passes the test, if there is one
unfoldable pub next_from : ℕ → ℕ → (ℕ → Bool) → Option ℕ
next_from k n p = first_below n (λ e. leb k e && p e)

-- what the answer of a search in the code says
abbrev pub found_says : Found ℕ → Option ℕ
found_says (Some k) = some k
found_says None = none

-- how many numbers below n pass the test
unfoldable pub count_below : ℕ → (ℕ → Bool) → ℕ
count_below zero p = 0
count_below (suc n) p = cond (p n) 1 0 + count_below n p

-- the test that t no longer passes, and everything else as before
unfoldable pub without : (ℕ → Bool) → ℕ → ℕ → Bool
without p t s = p s && not (eqb t s)
