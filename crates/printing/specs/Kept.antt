-- What the functions that put something behind a text, or into the front of bytes that are lent, say of it.
use Rattle.std.specs.Prelude.{◌≡◌, List, ℕ, ◌++◌, length}
use Rattle.std.proofs.lemmas.List.Edits.{sets}
use Rattle.arrayvec.specs.ArrayString.{ArrayString}

-- the text had the bytes of `old`, and now has these behind them
abbrev pub Put : (old : ArrayString) → (bytes : List ℕ) → (new : ArrayString) → Type 0
Put old bytes new = new.bytes ≡ old.bytes ++ bytes

-- these bytes stand in the front of what was lent, where `behind` is the place behind them, and all other bytes keep their content
pub record PutInFront (old bytes new : List ℕ) (behind : ℕ) : Type 0 where
  pub written : new ≡ sets old 0 bytes
  pub ends : behind ≡ length bytes
