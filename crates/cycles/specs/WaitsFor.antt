-- Whom each transaction waits for, in the list that says it, and the walk back from one to the next.
use Rattle.std.specs.Prelude.{ℕ, ◌<◌, ◌≡◌, List, [], ◌∷◌, length, get_or}
use Rattle.std.proofs.Math.Option.{Option, some}
use Rattle.sets.specs.Bits.{numbers}
use Rattle.lines.specs.Rule.{walk}

-- 64 places, in each a transaction
pub record Kept (waits : List ℕ) : Type 0 where
  pub whole : length waits ≡ numbers
  pub low : (t : ℕ) → get_or waits t 0 < numbers

-- whom t waits for
abbrev pub whom : List ℕ → ℕ → ℕ
whom waits t = get_or waits t 0

-- the step back from t, and the walk from it
abbrev pub back : List ℕ → ℕ → Option ℕ
back waits t = some (whom waits t)

abbrev pub walked : List ℕ → ℕ → List ℕ
walked waits t = walk (back waits) numbers t (t ∷ [])
