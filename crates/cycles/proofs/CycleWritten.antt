-- What copies into parts of a buffer leave in it: a list, or a cycle that is written in two parts, from its lowest number on.
use Prim.Native.Nat.{ℕ, ◌+◌, ◌-◌, ◌≤◌}
use native.Mathlib.Omega.{arith}
use mathlib.Core.Path.{◌≡◌, refl, sym, ◌∙◌, ap}
use mathlib.Core.List.{List, ◌++◌}
use lib.ListN.{length, take, drop, length-drop}
use lib.Seq.{sets, sets-eq, drop-drop, length-sets, length-take-le}
use borrow.Rule.Slice.PartMut.{put_mid}
use Rattle.std.proofs.Common.{append_assoc}
use Rattle.lines.specs.Rule.{place_of, lowest_member, turned, to_lowest}
use Rattle.lines.proofs.Turned.{length_turned, to_lowest_said}
use Rattle.lines.proofs.Lists.{sets_append}
use Rattle.cycles.proofs.Parts.{place_le}

-- a list that was copied over k places of a buffer, from `at` on
pub copied : (xs to : List ℕ) (at k : ℕ) → k ≡ length xs → at + length xs ≤ length to → put_mid at k to xs ≡ sets to at xs
copied xs to at k e l =
    ap (λ (ys : List ℕ). take at to ++ (xs ++ ys)) (drop-drop k at to ∙ ap (λ (m : ℕ). drop (at + m) to) e)
    ∙ sym (append_assoc (take at to) xs (drop (at + length xs) to))
    ∙ sym (sets-eq xs to at l)

-- the part from place p on, copied to the front, and the part before that place, copied behind it
module _ (xs to : List ℕ) (p : ℕ) (p_low : p ≤ length xs) (fits : length xs ≤ length to) where
  abbrev start : List ℕ
  start = drop p xs

  abbrev k : ℕ
  k = length start

  turned_copied : put_mid k (length xs - k) (put_mid 0 k to start) (take p xs) ≡ sets to 0 (turned p xs)
  turned_copied =
      ap (λ (ys : List ℕ). put_mid k (length xs - k) ys (take p xs)) (copied start to 0 k refl (omega (arith, length-drop p xs)))
      ∙ copied (take p xs) (sets to 0 start) k (length xs - k) (omega (arith, length-drop p xs, length-take-le p xs p_low))
      (rw length-sets (omega (arith, length-drop p xs, length-take-le p xs p_low)))
      ∙ sym (sets_append start (take p xs) to 0 ∙ ap (λ (m : ℕ). sets (sets to 0 start) m (take p xs)) (omega arith))

-- of a cycle p is the place of its lowest number
module _ (xs walk : List ℕ) (is_walk : xs ≡ walk) where
  pub cycle_count : length xs ≡ length (to_lowest walk)
  cycle_count =
      sym (length_turned xs (place_of (lowest_member xs) xs) (place_le (lowest_member xs) xs))
      ∙ ap length (to_lowest_said xs)
      ∙ ap (λ (ys : List ℕ). length (to_lowest ys)) is_walk

  pub cycle_written : (to : List ℕ) (p : ℕ) {start end first second : List ℕ} → p ≡ place_of (lowest_member xs) xs → length xs ≤ length to
      → start ≡ drop p xs → end ≡ take p xs → first ≡ start → second ≡ end
      → put_mid (length start) (length xs - length start) (put_mid 0 (length start) to first) second ≡ sets to 0 (to_lowest walk)
  cycle_written to p is_place fits is_start is_end is_first is_second =
      rw (is_first, is_second, is_start, is_end)
      (turned_copied xs to p (rw is_place (place_le (lowest_member xs) xs)) fits
      ∙ ap (λ (m : ℕ). sets to 0 (turned m xs)) is_place
      ∙ ap (sets to 0) (to_lowest_said xs)
      ∙ ap (λ (ys : List ℕ). sets to 0 (to_lowest ys)) is_walk)
