-- Laws of a text's lines: how long they are, that the records' lines are put one after another, and that they read only the records.
use Rattle.std.proofs.Common.{ℕ, zero, suc, ◌+◌, ◌*◌, ◌<◌, ◌≤◌, arith, add-one, ◌≡◌, refl, ap, ap₂, Bool, true, false, List, [], ◌++◌, length}
use Rattle.std.proofs.Common.{length-append}
use Rattle.answers.specs.Verdict.{record_size, entry}
use Rattle.printing.specs.Lines.{space, newline, numbers_line, record_line, record_lines, record_room}
use Rattle.printing.proofs.Decimals.{byte_short}

-- the line of a record fits its room
pub record_short : (reasons : Bool) (t r : ℕ) → t < 256 → r < 256 → length (record_line reasons t r) ≤ record_room
unfolding record_line numbers_line space newline
record_short true t r l m = simp length-append (omega (arith, byte_short t l, byte_short r m))
record_short false t r l m = simp length-append (omega (arith, byte_short t l))

module _ (reasons : Bool) (answer : List ℕ) where
  -- no record has no line
  pub lines_none : [] ≡ record_lines reasons answer 0
  unfolding record_lines
  lines_none = refl

  -- one more record's line
  pub lines_more : (k : ℕ) → record_lines reasons answer (k + 1)
      ≡ record_lines reasons answer k ++ record_line reasons (entry answer (k * record_size)) (entry answer (k * record_size + 1))
  unfolding record_lines
  lines_more k = ap (record_lines reasons answer) (add-one k)

  -- room for all
  pub lines_short : ((i : ℕ) → entry answer i < 256) → (n : ℕ) → length (record_lines reasons answer n) ≤ n * record_room
  unfolding record_lines
  lines_short bytes zero = omega arith
  lines_short bytes (suc k) =
      let t = k * record_size in
      omega (
        arith,
        length-append (record_lines reasons answer k) (record_line reasons (entry answer t) (entry answer (t + 1))),
        lines_short bytes k,
        record_short reasons (entry answer t) (entry answer (t + 1)) (bytes t) (bytes (t + 1)),
      )

-- buffers with the same records have the same lines
pub lines_same : (reasons : Bool) (n : ℕ) (xs ys : List ℕ) → ((i : ℕ) → i < n * record_size → entry xs i ≡ entry ys i)
    → record_lines reasons xs n ≡ record_lines reasons ys n
unfolding record_lines
lines_same reasons zero xs ys f = refl
lines_same reasons (suc k) xs ys f =
    ap₂ ◌++◌ (lines_same reasons k xs ys (λ i l. f i (omega (arith, l))))
    (ap₂ (record_line reasons) (f (k * record_size) (omega arith)) (f (k * record_size + 1) (omega arith)))
