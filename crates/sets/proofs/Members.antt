-- Laws of the sets of numbers below 64: a bit of 0, of a power of two, of an or and of an and; with a number added or taken out; and that
-- sets with the same members are one number.
use Rattle.std.proofs.Common.{ℕ, zero, suc, ◌+◌, ◌*◌, ◌/◌, ◌%◌, ◌^◌, ◌<◌, max, min, arith, ◌≡◌, refl, sym, ◌∙◌, ap, Bool, true, false, not, ◌&&◌, ◌||◌}
use Rattle.std.proofs.Common.{one-mul, shr-shr, true≢false, eqb, bit_or, bit_and, bit_xor, eq-eqb, ne_eqb}
use Rattle.std.proofs.lemmas.Nat.Bits.{bit_at-zero, bit_at_and, bit_at_or, bit_at_xor, bit_at-pow_same, bit_at-pow_other, bit_at-lt, same_from_bits}
use Rattle.std.proofs.lemmas.Nat.Bits.{bit_at_above}
use Rattle.std.proofs.Math.Decide.{ℕ_discrete, dec_lt}
use Rattle.std.proofs.lemmas.Bool.Decides.{nat_tests}
use Rattle.std.specs.Int.{bit_at}
use lib.Pow.{shl_exact}
use borrow.Author.Clash.{clash}
use Rattle.sets.specs.Bits.{numbers, has}

-- what holds of the four pairs of binary digits holds of bit i of any two numbers
digits : (P : ℕ → ℕ → Type 0) → P 0 0 → P 0 1 → P 1 0 → P 1 1 → (x y : ℕ) → x < 2 → y < 2 → P x y
digits P a b c d zero zero h k = a
digits P a b c d zero (suc zero) h k = b
digits P a b c d (suc zero) zero h k = c
digits P a b c d (suc zero) (suc zero) h k = d
digits P a b c d zero (suc (suc y)) h k = absurd (omega arith)
digits P a b c d (suc zero) (suc (suc y)) h k = absurd (omega arith)
digits P a b c d (suc (suc x)) y h k = absurd (omega arith)

of_bits : (P : ℕ → ℕ → Type 0) → P 0 0 → P 0 1 → P 1 0 → P 1 1 → (x y i : ℕ) → P (bit_at x i) (bit_at y i)
of_bits P a b c d x y i = digits P a b c d (bit_at x i) (bit_at y i) (bit_at-lt x i) (bit_at-lt y i)

pub has_or : (a b i : ℕ) → has (bit_or a b) i ≡ (has a i || has b i)
unfolding has
has_or a b i = ap (λ (z : ℕ). eqb z 1) (bit_at_or a b i) ∙ of_bits (λ x y. eqb (max x y) 1 ≡ (eqb x 1 || eqb y 1)) refl refl refl refl a b i

pub has_and : (a b i : ℕ) → has (bit_and a b) i ≡ (has a i && has b i)
unfolding has
has_and a b i = ap (λ (z : ℕ). eqb z 1) (bit_at_and a b i) ∙ of_bits (λ x y. eqb (min x y) 1 ≡ (eqb x 1 && eqb y 1)) refl refl refl refl a b i

-- one of the two and not the other
differs : Bool → Bool → Bool
differs a b = (a && not b) || (not a && b)

has_xor : (a b i : ℕ) → has (bit_xor a b) i ≡ differs (has a i) (has b i)
unfolding has differs
has_xor a b i =
    ap (λ (z : ℕ). eqb z 1) (bit_at_xor a b i)
    ∙ of_bits (λ x y. eqb ((x + y) % 2) 1 ≡ differs (eqb x 1) (eqb y 1)) refl refl refl refl a b i

pub has_zero : (i : ℕ) → has 0 i ≡ false
unfolding has
has_zero i = ap (λ (x : ℕ). eqb x 1) (bit_at-zero i)

pub has_power : (i j : ℕ) → has (2 ^ i) j ≡ eqb i j
unfolding has
has_power i j = go (ℕ_discrete i j)
  where
    go : Dec (i ≡ j) → has (2 ^ i) j ≡ eqb i j
    go (yes q) = rw (← q) (ap (λ (x : ℕ). eqb x 1) (bit_at-pow_same i) ∙ sym (eq-eqb i i refl))
    go (no q) = ap (λ (x : ℕ). eqb x 1) (bit_at-pow_other i j (λ e. q (sym e))) ∙ sym (ne_eqb i j q)

-- 1 shifted by i, as the machine computes it
pub shifted : (i : ℕ) → i < 64 → 1 * 2 ^ i % 2 ^ 64 ≡ 2 ^ i
shifted i h = shl_exact {a = 1} 1 i 64 (omega arith) (omega arith) ∙ one-mul (2 ^ i)

-- the set with every number one lower
pub half_has : (x i : ℕ) → has (x / 2) i ≡ has x (suc i)
unfolding has
half_has x i = ap (λ (y : ℕ). eqb (y % 2) 1) (shr-shr x 1 i ∙ ap (λ (j : ℕ). x / 2 ^ j) (omega arith))

-- the set with one number added
pub has_with : (x i j : ℕ) → has (bit_or x (2 ^ i)) j ≡ (has x j || eqb i j)
has_with x i j = has_or x (2 ^ i) j ∙ ap (λ (b : Bool). has x j || b) (has_power i j)

-- a set without what is in another: added first, it is in both
taken_out : (a b : Bool) → differs (a || b) b ≡ (a && not b)
unfolding differs
taken_out a b = grind (arith, nat_tests)

pub has_minus : (x y j : ℕ) → has (bit_xor (bit_or x y) y) j ≡ (has x j && not (has y j))
has_minus x y j =
    has_xor (bit_or x y) y j ∙ ap (λ (b : Bool). differs b (has y j)) (has_or x y j) ∙ taken_out (has x j) (has y j)

-- and so with one number taken out
pub has_without : (x i j : ℕ) → has (bit_xor (bit_or x (2 ^ i)) (2 ^ i)) j ≡ (has x j && not (eqb i j))
has_without x i j = has_minus x (2 ^ i) j ∙ ap (λ (b : Bool). has x j && not b) (has_power i j)

-- a number of k digits has no members from k on
pub has_low : (x k i : ℕ) → x < 2 ^ k → has x i ≡ true → i < k
unfolding has
has_low x k i l h = go (dec_lt i k)
  where
    go : Dec (i < k) → i < k
    go (yes m) = m
    go (no m) = clash (has x i) h (ap (λ (y : ℕ). eqb y 1) (bit_at_above x k i l (omega (arith, m))))

-- so a set, seen as the number of its bits, has only numbers below 64
pub members_low : (bits self : ℕ) → bits ≡ self → bits < 2 ^ 64 → (t : ℕ) → has self t ≡ true → t < numbers
members_low bits self e l t h = has_low self 64 t (omega (arith, e, l)) h

-- two sets with the same members are one number
pub same_members : (x y : ℕ) → ((i : ℕ) → has x i ≡ has y i) → x ≡ y
unfolding has
same_members x y h =
    same_from_bits x y
    (λ i. of_bits (λ a b. eqb a 1 ≡ eqb b 1 → a ≡ b) (λ e. refl) (λ e. absurd (true≢false (sym e))) (λ e. absurd (true≢false e)) (λ e. refl) x y i (h i))

-- a set without members is 0
pub no_member : (x : ℕ) → ((i : ℕ) → has x i ≡ false) → x ≡ 0
no_member x h = same_members x 0 (λ i. h i ∙ sym (has_zero i))
