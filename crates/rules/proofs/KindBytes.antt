-- A record's kind, from its kind byte.
use Rattle.std.proofs.Common.{ℕ, arith, ◌≡◌, refl, sym, ◌∙◌, List, Bool, true, false, eqb, eq-eqb, ne_eqb, eqb-true}
use Rattle.rules.specs.Record.{kind, is_read, is_write, is_commit, read_kind, write_kind, commit_kind}

-- a test of the kind byte, by a byte that was read and compared
pub byte_is : {test : Bool} {kind byte n : ℕ} → test ≡ eqb kind n → byte ≡ kind → byte ≡ n → test ≡ true
byte_is {kind = kind} {n = n} t e q = t ∙ eq-eqb kind n (sym e ∙ q)

pub byte_is_not : {test : Bool} {kind byte n : ℕ} → test ≡ eqb kind n → byte ≡ kind → (byte ≡ n → ⊥) → test ≡ false
byte_is_not {kind = kind} {n = n} t e q = t ∙ ne_eqb kind n (λ r. q (e ∙ r))

module _ (log : List ℕ) (k : ℕ) where
  pub read_byte : is_read log k ≡ eqb (kind log k) 1
  unfolding is_read read_kind
  read_byte = refl

  pub write_byte : is_write log k ≡ eqb (kind log k) 2
  unfolding is_write write_kind
  write_byte = refl

  pub commit_byte : is_commit log k ≡ eqb (kind log k) 3
  unfolding is_commit commit_kind
  commit_byte = refl

  -- a record has one kind, as its kind byte is one number
  pub read_no_write : is_read log k ≡ true → is_write log k ≡ false
  unfolding is_read is_write read_kind write_kind
  read_no_write r = let e = eqb-true (kind log k) 1 r in ne_eqb (kind log k) 2 (λ q. absurd (omega arith))
