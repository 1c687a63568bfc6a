-- Laws of numbers in decimal: they are what std says `{}` prints, and how many digits they have. The only file that opens `decimal`.
use Rattle.std.proofs.Common.{ℕ, suc, ◌-◌, ◌^◌, ◌<◌, ◌≤◌, arith, ◌≡◌, refl, length, length-append, lt-ltb, le-ltb, mod-eq_of_lt}
use Rattle.std.proofs.lemmas.Fmt.{AppendsLastDigit, decimal_from_appends, length-decimal-le, length-decimal-le_succ}
use Rattle.std.specs.Fmt as std
use Rattle.printing.specs.Lines.{digit, decimal_within, decimal}

-- the last digit goes behind the others
appends : AppendsLastDigit decimal_within
unfolding decimal_within digit
appends =
    record {
      one = λ k n l. rw (lt-ltb n 10 l, mod-eq_of_lt l) refl;
      more = λ k n l. rw (le-ltb n 10 l) refl;
    }

pub printed_by_std : (n : ℕ) → n < 2 ^ 64 → decimal n ≡ std.decimal n
unfolding decimal
printed_by_std n l = decimal_from_appends decimal_within appends (suc n) n l (omega (arith, length-decimal-le_succ n l))

-- a number of 64 bits has at most 20, and a byte 3
pub number_short : (n : ℕ) → n < 2 ^ 64 → length (decimal n) ≤ 20
number_short n l = rw (printed_by_std n l) (length-decimal-le 20 n (omega arith) (omega (arith, l)) l)

pub byte_short : (n : ℕ) → n < 256 → length (decimal n) ≤ 3
byte_short n l = rw (printed_by_std n (omega (arith, l))) (length-decimal-le 3 n (omega arith) (omega (arith, l)) (omega (arith, l)))

-- a byte is a number of 64 bits
pub byte_wide : {n : ℕ} → n < 256 → n < 2 ^ 64
byte_wide l = omega (arith, l)

-- how long a line is whose parts are known
pub ruleset lengths = (length-append, number_short)
