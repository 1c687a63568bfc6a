-- The lowest number of a list, where it stands, and the list turned so that it starts with it.
use Rattle.std.proofs.Common.{ℕ, suc, ◌<◌, ◌≤◌, min, arith, ◌≡◌, refl, sym, ◌∙◌, ap, subst, true, ⊎_elim, List, [], ◌∷◌, ◌++◌, length, take, drop}
use Rattle.std.proofs.Common.{get_or, length-append, length-drop, take-append-drop, drop-cons, length-take-le}
use Rattle.std.proofs.Math.Decide.{dec_lt}
use Rattle.std.proofs.Math.Bool.{or_comm}
use borrow.Author.Clash.{clash}
use Rattle.lines.specs.Rule.{among, place_of, lowest_member, turned, to_lowest}
use Rattle.lines.specs.Lines.{FromLowest}
use Rattle.lines.proofs.Lists.{among_nil, among_first, among_later, among_cases, among_append, among_entry}
use Rattle.lines.proofs.Lists.{place_low, place_entry, place_is}

-- the lowest number of a list is in it, and nothing in it is below
pub lowest_member_among : (x : ℕ) (xs : List ℕ) → among (x ∷ xs) (lowest_member (x ∷ xs)) ≡ true
unfolding lowest_member
lowest_member_among x [] = among_first x []
lowest_member_among x (y ∷ ys) = go (dec_lt (lowest_member (y ∷ ys)) x) (lowest_member_among y ys)
  where
    go : Dec (lowest_member (y ∷ ys) < x) → among (y ∷ ys) (lowest_member (y ∷ ys)) ≡ true → among (x ∷ y ∷ ys) (min x (lowest_member (y ∷ ys))) ≡ true
    go (yes l) a = subst (λ (z : ℕ). among (x ∷ y ∷ ys) z ≡ true) (omega (arith, l)) (among_later x (y ∷ ys) (lowest_member (y ∷ ys)) a)
    go (no l) a = subst (λ (z : ℕ). among (x ∷ y ∷ ys) z ≡ true) (omega (arith, l)) (among_first x (y ∷ ys))

pub lowest_member_low : (xs : List ℕ) (t : ℕ) → among xs t ≡ true → lowest_member xs ≤ t
unfolding lowest_member
lowest_member_low [] t a = absurd (clash (among [] t) a (among_nil t))
lowest_member_low (x ∷ []) t a =
    ⊎_elim (λ (e : x ≡ t). omega (arith, e)) (λ (e : among [] t ≡ true). absurd (clash (among [] t) e (among_nil t))) (among_cases x [] t a)
lowest_member_low (x ∷ y ∷ ys) t a =
    ⊎_elim
    (λ (e : x ≡ t). omega (arith, e))
    (λ (e : among (y ∷ ys) t ≡ true). omega (arith, lowest_member_low (y ∷ ys) t e))
    (among_cases x (y ∷ ys) t a)

-- two lists in the other order
pub among_swap : (xs ys : List ℕ) (t : ℕ) → among (ys ++ xs) t ≡ true → among (xs ++ ys) t ≡ true
among_swap xs ys t a = among_append xs ys t ∙ or_comm (among xs t) (among ys t) ∙ sym (among_append ys xs t) ∙ a

-- a list turned to its lowest number starts with it, and has the same members
module _ (xs : List ℕ) where
  pub to_lowest_said : turned (place_of (lowest_member xs) xs) xs ≡ to_lowest xs
  unfolding to_lowest
  to_lowest_said = refl

  turned_among : (k t : ℕ) → among (turned k xs) t ≡ true → among xs t ≡ true
  turned_among k t a =
      sym (ap (λ (zs : List ℕ). among zs t) (take-append-drop k xs)) ∙ among_swap (take k xs) (drop k xs) t a

  turned_starts : (k : ℕ) → k < length xs → turned k xs ≡ get_or xs k 0 ∷ (drop (suc k) xs ++ take k xs)
  turned_starts k l = ap (λ (zs : List ℕ). zs ++ take k xs) (drop-cons xs k 0 l)

  module _ (some_one : 1 ≤ length xs) where
    pub lowest_member_in : among xs (lowest_member xs) ≡ true
    lowest_member_in = go xs some_one
      where
        go : (ys : List ℕ) → 1 ≤ length ys → among ys (lowest_member ys) ≡ true
        go [] l = absurd (omega (arith, l))
        go (y ∷ ys) l = lowest_member_among y ys

    pub lowest_place : place_of (lowest_member xs) xs < length xs
    lowest_place = place_low (lowest_member xs) xs lowest_member_in

    pub from_lowest : FromLowest (to_lowest xs)
    from_lowest = subst FromLowest to_lowest_said (go (place_of (lowest_member xs) xs) lowest_place (place_entry (lowest_member xs) xs lowest_member_in))
      where
        go : (k : ℕ) → k < length xs → get_or xs k 0 ≡ lowest_member xs → FromLowest (turned k xs)
        go k l e = subst FromLowest (sym (turned_starts k l)) (λ t a. rw e (lowest_member_low xs t (turned_among k t (after_first t a))))
          where
            after_first : (t : ℕ) → among (drop (suc k) xs ++ take k xs) t ≡ true → among (turned k xs) t ≡ true
            after_first t a =
                ap (λ (zs : List ℕ). among zs t) (turned_starts k l)
                ∙ among_later (get_or xs k 0) (drop (suc k) xs ++ take k xs) t a

-- the place of the lowest: nothing is lower, and nothing before it is as low
pub lowest_place_is : (xs : List ℕ) (k : ℕ) → k < length xs → ((j : ℕ) → j < length xs → get_or xs k 0 ≤ get_or xs j 0)
    → ((j : ℕ) → j < k → get_or xs k 0 < get_or xs j 0) → place_of (lowest_member xs) xs ≡ k
lowest_place_is xs k l f g = place_is (lowest_member xs) xs k l same (λ j m e. omega (arith, g j m, e, same))
  where
    there : among xs (lowest_member xs) ≡ true
    there = lowest_member_in xs (omega (arith, l))

    same : get_or xs k 0 ≡ lowest_member xs
    same =
        omega (
          arith,
          lowest_member_low xs (get_or xs k 0) (among_entry xs k l),
          f (place_of (lowest_member xs) xs) (place_low (lowest_member xs) xs there),
          place_entry (lowest_member xs) xs there,
        )

-- a turned list is as long
pub length_turned : (xs : List ℕ) (p : ℕ) → p ≤ length xs → length (turned p xs) ≡ length xs
length_turned xs p l = length-append (drop p xs) (take p xs) ∙ omega (arith, length-drop p xs, length-take-le p xs l, l)
