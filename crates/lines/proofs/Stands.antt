-- Laws of what stands before what in a list: at its front and later, only before what is in it, never before itself where none stands
-- twice, through a third, and at a lower place.
use Rattle.std.proofs.Common.{ℕ, suc, ◌<◌, arith, ◌≡◌, refl, sym, ◌∙◌, ap, subst, true, false, ◌&&◌, ◌⊎◌, inl, inr, ⊎_elim, List, [], ◌∷◌, eqb}
use Rattle.std.proofs.Common.{eq-eqb, eqb-true}
use Rattle.std.proofs.Math.Decide.{ℕ_discrete}
use Rattle.std.proofs.lemmas.Bool.{and_from, and_parts, or_cases, or_left, or_right}
use borrow.Author.Clash.{clash}
use Rattle.lines.specs.Rule.{among, place_of}
use Rattle.lines.specs.Lines.{NoneTwice, stands_before}
use Rattle.lines.proofs.Lists.{among_nil, among_later, among_other, place_same, place_other, among_cases}

-- what stands before what
stands_nil : (s t : ℕ) → stands_before [] s t ≡ false
unfolding stands_before
stands_nil s t = refl

pub stands_first : (x : ℕ) (xs : List ℕ) (t : ℕ) → among xs t ≡ true → stands_before (x ∷ xs) x t ≡ true
unfolding stands_before
stands_first x xs t a =
    or_left (eqb x x && among xs t) (stands_before xs x t) (and_from (eqb x x) (among xs t) (eq-eqb x x refl) a)

pub stands_later : (x : ℕ) (xs : List ℕ) (s t : ℕ) → stands_before xs s t ≡ true → stands_before (x ∷ xs) s t ≡ true
unfolding stands_before
stands_later x xs s t h = or_right (eqb x s && among xs t) (stands_before xs s t) h

pub stands_cases : (x : ℕ) (xs : List ℕ) (s t : ℕ) → stands_before (x ∷ xs) s t ≡ true
    → ((x ≡ s) × (among xs t ≡ true)) ⊎ (stands_before xs s t ≡ true)
unfolding stands_before
stands_cases x xs s t h =
    ⊎_elim
    (λ (a : (eqb x s && among xs t) ≡ true). inl (eqb-true x s (and_parts (eqb x s) (among xs t) a).0, (and_parts (eqb x s) (among xs t) a).1))
    (λ (b : stands_before xs s t ≡ true). inr b)
    (or_cases (eqb x s && among xs t) (stands_before xs s t) h)

-- what stands after something is in the list, and not first in it
pub stands_among : (xs : List ℕ) (s t : ℕ) → stands_before xs s t ≡ true → among xs t ≡ true
stands_among [] s t h = absurd (clash (stands_before [] s t) h (stands_nil s t))
stands_among (x ∷ xs) s t h =
    ⊎_elim
    (λ (w : (x ≡ s) × (among xs t ≡ true)). among_later x xs t w.1)
    (λ (w : stands_before xs s t ≡ true). among_later x xs t (stands_among xs s t w))
    (stands_cases x xs s t h)

pub after_first : (x : ℕ) (xs : List ℕ) (s t : ℕ) → stands_before (x ∷ xs) s t ≡ true → among xs t ≡ true
after_first x xs s t h =
    ⊎_elim
    (λ (w : (x ≡ s) × (among xs t ≡ true)). w.1)
    (λ (w : stands_before xs s t ≡ true). stands_among xs s t w)
    (stands_cases x xs s t h)

pub stands_not_itself : (xs : List ℕ) (t : ℕ) → NoneTwice xs → stands_before xs t t ≡ true → ⊥
stands_not_itself [] t d h = clash (stands_before [] t t) h (stands_nil t t)
stands_not_itself (x ∷ xs) t d h =
    ⊎_elim (λ (w : (x ≡ t) × (among xs t ≡ true)). clash (among xs x) (ap (among xs) w.0 ∙ w.1) d.0)
    (λ (w : stands_before xs t t ≡ true). stands_not_itself xs t d.1 w)
    (stands_cases x xs t t h)

pub stands_through : (xs : List ℕ) (r s t : ℕ) → NoneTwice xs → stands_before xs r s ≡ true → stands_before xs s t ≡ true
    → stands_before xs r t ≡ true
stands_through [] r s t d h k = absurd (clash (stands_before [] r s) h (stands_nil r s))
stands_through (x ∷ xs) r s t d h k =
    ⊎_elim
    (λ (w : (x ≡ s) × (among xs t ≡ true)). absurd (clash (among xs x) (ap (among xs) w.0 ∙ after_first x xs r s h) d.0))
    (λ (w : stands_before xs s t ≡ true). both_later w (λ v. stands_through xs r s t d.1 v w))
    (stands_cases x xs s t k)
  where
    from_first : x ≡ r → among xs t ≡ true → stands_before (x ∷ xs) r t ≡ true
    from_first q a = subst (λ (y : ℕ). stands_before (x ∷ xs) y t ≡ true) q (stands_first x xs t a)

    both_later : stands_before xs s t ≡ true → (stands_before xs r s ≡ true → stands_before xs r t ≡ true)
        → stands_before (x ∷ xs) r t ≡ true
    both_later w ih =
        ⊎_elim
        (λ (v : (x ≡ r) × (among xs s ≡ true)). from_first v.0 (stands_among xs s t w))
        (λ (v : stands_before xs r s ≡ true). stands_later x xs r t (ih v))
        (stands_cases x xs r s h)

-- two of a list, and which of them stands first ..
pub one_stands_first : (xs : List ℕ) (s t : ℕ) → among xs s ≡ true → among xs t ≡ true → (s ≡ t → ⊥)
    → (stands_before xs s t ≡ true) ⊎ (stands_before xs t s ≡ true)
one_stands_first [] s t a b d = absurd (clash (among [] s) a (among_nil s))
one_stands_first (x ∷ xs) s t a b d =
    ⊎_elim
    (λ (p : x ≡ s). ⊎_elim (λ (q : x ≡ t). absurd (d (sym p ∙ q))) (λ (q : among xs t ≡ true). inl (first s t p q)) (among_cases x xs t b))
    (λ (p : among xs s ≡ true).
    ⊎_elim (λ (q : x ≡ t). inr (first t s q p)) (λ (q : among xs t ≡ true). further (one_stands_first xs s t p q d)) (among_cases x xs t b))
    (among_cases x xs s a)
  where
    first : (u v : ℕ) → x ≡ u → among xs v ≡ true → stands_before (x ∷ xs) u v ≡ true
    first u v p q = subst (λ (y : ℕ). stands_before (x ∷ xs) y v ≡ true) p (stands_first x xs v q)

    further : (stands_before xs s t ≡ true) ⊎ (stands_before xs t s ≡ true)
        → (stands_before (x ∷ xs) s t ≡ true) ⊎ (stands_before (x ∷ xs) t s ≡ true)
    further = ⊎_elim (λ h. inl (stands_later x xs s t h)) (λ h. inr (stands_later x xs t s h))

-- .. and not the other too
pub not_both : (xs : List ℕ) (s t : ℕ) → NoneTwice xs → stands_before xs s t ≡ true → stands_before xs t s ≡ true → ⊥
not_both xs s t n a b = stands_not_itself xs s n (stands_through xs s t s n a b)

-- THEOREM: where none stands twice, what stands before another stands at a lower place ..
pub stands_lower : (xs : List ℕ) (s t : ℕ) → NoneTwice xs → stands_before xs s t ≡ true → place_of s xs < place_of t xs
stands_lower [] s t d h = absurd (clash (stands_before [] s t) h (stands_nil s t))
stands_lower (x ∷ xs) s t d h = go (ℕ_discrete x s) (stands_cases x xs s t h) (stands_lower xs s t d.1)
  where
    -- the second is not the first of the list
    t_later : place_of t (x ∷ xs) ≡ suc (place_of t xs)
    t_later = place_other x xs t (λ (e : x ≡ t). clash (among xs x) (ap (among xs) e ∙ after_first x xs s t h) d.0)

    go : Dec (x ≡ s) → ((x ≡ s) × (among xs t ≡ true)) ⊎ (stands_before xs s t ≡ true)
        → (stands_before xs s t ≡ true → place_of s xs < place_of t xs) → place_of s (x ∷ xs) < place_of t (x ∷ xs)
    go (yes q) w ih = omega (arith, place_same x xs s q, t_later)
    go (no q) (inl w) ih = absurd (q w.0)
    go (no q) (inr w) ih = omega (arith, place_other x xs s q, t_later, ih w)

-- THEOREM: .. and what is at a lower place than one that is in the list stands before it
pub lower_stands : (xs : List ℕ) (s t : ℕ) → among xs t ≡ true → place_of s xs < place_of t xs → stands_before xs s t ≡ true
lower_stands [] s t a l = absurd (clash (among [] t) a (among_nil t))
lower_stands (x ∷ xs) s t a l = go (ℕ_discrete x t) (ℕ_discrete x s) (lower_stands xs s t)
  where
    go : Dec (x ≡ t) → Dec (x ≡ s) → (among xs t ≡ true → place_of s xs < place_of t xs → stands_before xs s t ≡ true)
        → stands_before (x ∷ xs) s t ≡ true
    go (yes e) d ih = absurd (omega (arith, l, place_same x xs t e))
    go (no e) (yes q) ih = subst (λ (y : ℕ). stands_before (x ∷ xs) y t ≡ true) q (stands_first x xs t (sym (among_other x xs t e) ∙ a))
    go (no e) (no q) ih =
        stands_later x xs s t
        (ih (sym (among_other x xs t e) ∙ a) (omega (arith, l, place_other x xs t e, place_other x xs s q)))
