-- Tables of refusals, "No. | Given exactly when | Place": their rows in the order in which they are tried, and what they answer.
use Rattle.std.specs.Prelude.{ℕ, zero, suc, ◌≡◌, Bool, true, false, cond, List, [], ◌∷◌, ◌++◌, ◌⊎◌}
use Rattle.rules.specs.Answer.{Answer, refused, passed}

pub record Row : Type 0 where
  pub number : ℕ
  pub applies : Bool
  pub place : ℕ

-- a row as the table has it
abbrev pub row : ℕ → Bool → ℕ → Row
row n b p = record { number = n; applies = b; place = p }

-- what one row answers by itself
abbrev pub row_answer : ℕ → Bool → ℕ → Answer (Unit {0})
row_answer n b p = cond b (refused n p) passed

-- "tried in order, and the first that applies is the answer"; passed where none does
unfoldable pub answer_of : List Row → Answer (Unit {0})
answer_of [] = passed
answer_of (r ∷ rest) = cond r.applies (refused r.number r.place) (answer_of rest)

-- "records are taken from the first": the rows of record 0, then those of record 1, to those of record n - 1
unfoldable pub over : (ℕ → List Row) → ℕ → List Row
over rows zero = []
over rows (suc n) = over rows n ++ rows n

-- a row for each of the numbers below n, from the lowest
abbrev pub one_each : (ℕ → Row) → ℕ → List Row
one_each row_of = over (λ t. row_of t ∷ [])

-- no row applies
unfoldable pub NoneOf : List Row → Type 0
NoneOf [] = Unit {0}
NoneOf (r ∷ rest) = (r.applies ≡ false) × NoneOf rest

-- the first row that applies has number n and place p: it is this one, or this one does not apply and it is the first of the rest
unfoldable pub FirstOf : List Row → ℕ → ℕ → Type 0
FirstOf [] n p = ⊥
FirstOf (r ∷ rest) n p = ((r.applies ≡ true) × (r.number ≡ n) × (r.place ≡ p)) ⊎ ((r.applies ≡ false) × FirstOf rest n p)
