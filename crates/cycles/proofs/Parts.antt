-- Laws of places in a list, as the code finds them.
use Prim.Native.Nat.{ℕ, ◌≤◌, min}
use native.Mathlib.Omega.{arith}
use mathlib.Core.Path.{◌≡◌, refl, ◌∙◌}
use mathlib.Core.List.{List, [], ◌∷◌}
use lib.ListN.{length}
use Rattle.std.specs.Prelude.{◌==◌, unwrap_or, position}
use Rattle.std.specs.List.{position_or_len, fold, reduce}
use Rattle.std.proofs.lemmas.List.Recursion.{is_position_or_len}
use Rattle.std.proofs.lemmas.List.Sums.{prefix_len-le-length}
use Rattle.std.proofs.lemmas.Bool.Decides.{nat_tests}
use Rattle.lines.specs.Rule.{place_of, lowest_member}

-- the place is the first where t is found, or else the length
place_is_first : (t : ℕ) (xs : List ℕ) → place_of t xs ≡ position_or_len (λ x. x == t) xs
unfolding place_of
place_is_first t xs = is_position_or_len (place_of t) (λ x. x == t) refl (λ x ys. grind arith) xs

pub place_le : (t : ℕ) (xs : List ℕ) → place_of t xs ≤ length xs
place_le t xs = rw place_is_first (prefix_len-le-length _ xs)

pub place_found : (t : ℕ) (xs : List ℕ) → unwrap_or (position (λ x. x == t) xs) (length xs) ≡ place_of t xs
place_found t xs = grind (arith, nat_tests, place_is_first, place_le)

-- the lowest number is the least one met
pub least_found : (xs : List ℕ) → unwrap_or (reduce min xs) 0 ≡ lowest_member xs
unfolding lowest_member
least_found [] = refl
least_found (x ∷ xs) = go x xs
  where
    first : (a b : ℕ) (ys : List ℕ) → lowest_member (min a b ∷ ys) ≡ min a (lowest_member (b ∷ ys))
    first a b [] = refl
    first a b (y ∷ ys) = omega arith

    go : (a : ℕ) (ys : List ℕ) → fold min a ys ≡ lowest_member (a ∷ ys)
    go a [] = refl
    go a (y ∷ ys) = go (min a y) ys ∙ first a y ys
