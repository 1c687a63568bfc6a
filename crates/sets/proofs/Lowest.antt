-- The zeros below the lowest 1 of a number are the numbers below the lowest member of the set; so it is found from k on by dropping the k
-- lowest digits.
use Rattle.std.proofs.Common.{ℕ, ◌+◌, ◌-◌, ◌<◌, ◌≤◌, ◌/◌, ◌%◌, ◌^◌, arith, ◌≡◌, sym, ◌∙◌, ap, true, false, eqb, pos_of_ne-zero, lt_of_le_of_lt}
use Rattle.std.proofs.Common.{shr-shr}
use Rattle.std.proofs.lemmas.Nat.{shr_le}
use Rattle.std.proofs.lemmas.Nat.Bits.{bit_at-trailing_zeros}
use Rattle.std.proofs.Math.Option.{none, some}
use Rattle.std.specs.Int.{bit_at, trailing_zeros}
use mir.Syntax.{Width}
use mir.Val.{bits}
use Rattle.sets.specs.Bits.{has}
use Rattle.sets.proofs.Members.{has_low, has_zero}
use Rattle.sets.specs.Search.{next_from}
use Rattle.sets.proofs.From.{next_none, next_some}

-- a member of what is left when the k lowest digits are dropped
above : (x k i : ℕ) → has (x / 2 ^ k) i ≡ has x (k + i)
unfolding has
above x k i = ap (λ (y : ℕ). eqb (y % 2) 1) (shr-shr x k i)

-- the lowest member from k on, in a set of any width: where something is left above, its zeros lead to it
module _ (w : Width) (x k : ℕ) (fits : x < 2 ^ bits w) (something : x / 2 ^ k ≡ 0 → ⊥) where
  abbrev zeros : ℕ
  zeros = trailing_zeros w (x / 2 ^ k)

  lowest : (zeros < bits w) × (bit_at (x / 2 ^ k) zeros ≡ 1) × ((i : ℕ) → i < zeros → bit_at (x / 2 ^ k) i ≡ 0)
  lowest = bit_at-trailing_zeros w (x / 2 ^ k) (pos_of_ne-zero something) (lt_of_le_of_lt (shr_le x k) fits)

  there : has x (k + zeros) ≡ true
  unfolding has
  there = sym (above x k zeros) ∙ ap (λ (d : ℕ). eqb d 1) lowest.1

  pub lowest_from : next_from k (bits w) (has x) ≡ some (k + zeros)
  unfolding has
  lowest_from = next_some (has x) k (bits w) (k + zeros) (omega arith) (has_low x (bits w) (k + zeros) fits there) there before
    where
      before : (e : ℕ) → k ≤ e → e < k + zeros → has x e ≡ false
      before e m l = ap (has x) (omega (arith, m)) ∙ sym (above x k (e - k)) ∙ ap (λ (d : ℕ). eqb d 1) (lowest.2 (e - k) (omega (arith, m, l)))

-- nothing above
pub none_from : (x k w : ℕ) → x / 2 ^ k ≡ 0 → next_from k w (has x) ≡ none
none_from x k w z = next_none (has x) k w (λ e m l. lacks e m)
  where
    lacks : (e : ℕ) → k ≤ e → has x e ≡ false
    lacks e m = ap (has x) (omega (arith, m)) ∙ sym (above x k (e - k)) ∙ ap (λ (y : ℕ). has y (e - k)) z ∙ has_zero (e - k)

-- nothing from w on
pub none_past : (x k w : ℕ) → w ≤ k → next_from k w (has x) ≡ none
none_past x k w m = next_none (has x) k w (λ e a l. absurd (omega (arith, m, a, l)))
