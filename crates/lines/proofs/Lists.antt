-- Laws of lists of numbers: what is among them, the place of a number, none twice, and that numbers of a set without one twice are no
-- more than the set has; and lists that are written one after the other.
use Rattle.std.proofs.Common.{ℕ, zero, suc, ◌+◌, ◌<◌, ◌≤◌, arith, ◌≡◌, refl, sym, ◌∙◌, ap, subst, Bool, true, false, ◌||◌, ◌⊎◌, inl, inr, ⊎_elim, List, ◌∷◌, ◌++◌}
use Rattle.std.proofs.Common.{eqb, length, take, get_or, set, length-append, eq-eqb, ne_eqb, eqb-true, []}
use Rattle.std.proofs.Math.Decide.{ℕ_discrete}
use Rattle.std.proofs.Math.Bool.{or_assoc}
use Rattle.std.proofs.Math.Seq.{sets, get_or-append_seam}
use Rattle.std.proofs.lemmas.Bool.{false_from_ne_true, or_cases, or_left, or_right, or_parts, or_from}
use Rattle.std.proofs.lemmas.List.Recursion.{or_at}
use Rattle.sets.specs.Search.{count_below, without}
use borrow.Author.Clash.{clash}
use Rattle.sets.proofs.Counts.{count_without, without_other}
use Rattle.lines.specs.Rule.{among, place_of, up_to}
use Rattle.lines.specs.Lines.{NoneTwice}

-- what is among them
pub among_nil : (t : ℕ) → among [] t ≡ false
unfolding among
among_nil t = refl

pub among_cons : (x : ℕ) (xs : List ℕ) (t : ℕ) → among (x ∷ xs) t ≡ (eqb x t || among xs t)
unfolding among
among_cons x xs t = refl

pub among_first : (x : ℕ) (xs : List ℕ) → among (x ∷ xs) x ≡ true
among_first x xs = among_cons x xs x ∙ or_left (eqb x x) (among xs x) (eq-eqb x x refl)

pub among_later : (x : ℕ) (xs : List ℕ) (t : ℕ) → among xs t ≡ true → among (x ∷ xs) t ≡ true
among_later x xs t h = among_cons x xs t ∙ or_right (eqb x t) (among xs t) h

pub among_cases : (x : ℕ) (xs : List ℕ) (t : ℕ) → among (x ∷ xs) t ≡ true → (x ≡ t) ⊎ (among xs t ≡ true)
among_cases x xs t h =
    ⊎_elim (λ (e : eqb x t ≡ true). inl (eqb-true x t e)) (λ (e : among xs t ≡ true). inr e)
    (or_cases (eqb x t) (among xs t) (sym (among_cons x xs t) ∙ h))

pub among_other : (x : ℕ) (xs : List ℕ) (t : ℕ) → (x ≡ t → ⊥) → among (x ∷ xs) t ≡ among xs t
among_other x xs t q = among_cons x xs t ∙ ap (λ (b : Bool). b || among xs t) (ne_eqb x t q)

-- two different truths belong to two different numbers
pub differ : (p : ℕ → Bool) (x y : ℕ) → p x ≡ true → p y ≡ false → x ≡ y → ⊥
differ p x y t f e = clash (p y) (ap p (sym e) ∙ t) f

pub among_append : (xs ys : List ℕ) (t : ℕ) → among (xs ++ ys) t ≡ (among xs t || among ys t)
unfolding among
among_append [] ys t = refl
among_append (x ∷ xs) ys t = ap (λ (b : Bool). eqb x t || b) (among_append xs ys t) ∙ sym (or_assoc (eqb x t) (among xs t) (among ys t))

-- none twice in two lists, one after the other: none twice in either, and nothing in both
abbrev pub Apart : List ℕ → List ℕ → Type 0
Apart xs ys = (t : ℕ) → among xs t ≡ true → among ys t ≡ false

pub record NoneInBoth (xs ys : List ℕ) : Type 0 where
  pub first : NoneTwice xs
  pub second : NoneTwice ys
  pub apart : Apart xs ys

pub twice_split : (xs ys : List ℕ) → NoneTwice (xs ++ ys) → NoneInBoth xs ys
twice_split [] ys h = record { first = tt; second = h; apart = λ t a. absurd (clash (among [] t) a (among_nil t)) }
twice_split (x ∷ xs) ys h = after (twice_split xs ys h.1)
  where
    in_neither : (among xs x || among ys x) ≡ false
    in_neither = sym (among_append xs ys x) ∙ h.0

    after : NoneInBoth xs ys → NoneInBoth (x ∷ xs) ys
    after w =
        record {
          first = ((or_parts (among xs x) (among ys x) in_neither).0, w.first);
          second = w.second;
          apart = λ t a.
              ⊎_elim
              (λ (e : x ≡ t). ap (among ys) (sym e) ∙ (or_parts (among xs x) (among ys x) in_neither).1)
              (λ (e : among xs t ≡ true). w.apart t e)
              (among_cases x xs t a);
        }

pub twice_join : (xs ys : List ℕ) → NoneTwice xs → NoneTwice ys → Apart xs ys → NoneTwice (xs ++ ys)
twice_join [] ys h k a = k
twice_join (x ∷ xs) ys h k a = (
  among_append xs ys x ∙ or_from (among xs x) (among ys x) h.0 (a x (among_first x xs)),
  twice_join xs ys h.1 k (λ t e. a t (among_later x xs t e)),
)

apart_back : (xs ys : List ℕ) → Apart xs ys → Apart ys xs
apart_back xs ys a t e = false_from_ne_true (among xs t) (λ h. clash (among ys t) e (a t h))

pub twice_swap : (xs ys : List ℕ) → NoneTwice (xs ++ ys) → NoneTwice (ys ++ xs)
twice_swap xs ys h = let w = twice_split xs ys h in twice_join ys xs w.second w.first (apart_back xs ys w.apart)

-- the list up to and with the first s in it
pub record UpTo (s : ℕ) (xs : List ℕ) : Type 0 where
  pub before : List ℕ
  pub after : List ℕ
  pub whole : xs ≡ before ++ s ∷ after
  pub part : up_to s xs ≡ before ++ s ∷ []
  pub place : place_of s xs ≡ length before

pub place_nil : (s : ℕ) → place_of s [] ≡ 0
unfolding place_of
place_nil s = refl

pub place_same : (x : ℕ) (xs : List ℕ) (s : ℕ) → x ≡ s → place_of s (x ∷ xs) ≡ 0
unfolding place_of
place_same x xs s q = rw (eq-eqb x s q) refl

pub place_other : (x : ℕ) (xs : List ℕ) (s : ℕ) → (x ≡ s → ⊥) → place_of s (x ∷ xs) ≡ suc (place_of s xs)
unfolding place_of
place_other x xs s q = rw (ne_eqb x s q) refl

pub first_there : (s : ℕ) (xs : List ℕ) → among xs s ≡ true → UpTo s xs
first_there s [] h = absurd (clash (among [] s) h (among_nil s))
first_there s (x ∷ xs) h = go (ℕ_discrete x s) (λ q. first_there s xs (sym (among_other x xs s q) ∙ h))
  where
    go : Dec (x ≡ s) → ((x ≡ s → ⊥) → UpTo s xs) → UpTo s (x ∷ xs)
    go (yes q) w =
        record {
          before = [];
          after = xs;
          whole = ap (λ (y : ℕ). y ∷ xs) q;
          part = ap (λ (k : ℕ). take (suc k) (x ∷ xs)) (place_same x xs s q) ∙ ap (λ (y : ℕ). y ∷ []) q;
          place = place_same x xs s q;
        }
    go (no q) w =
        record {
          before = x ∷ (w q).before;
          after = (w q).after;
          whole = ap (λ (ys : List ℕ). x ∷ ys) (w q).whole;
          part = ap (λ (k : ℕ). take (suc k) (x ∷ xs)) (place_other x xs s q) ∙ ap (λ (ys : List ℕ). x ∷ ys) (w q).part;
          place = place_other x xs s q ∙ ap suc (w q).place;
        }

-- the place of a number that is in the list
pub place_low : (s : ℕ) (xs : List ℕ) → among xs s ≡ true → place_of s xs < length xs
place_low s xs h =
    let u = first_there s xs h in
    omega (arith, u.place, ap length u.whole ∙ length-append u.before (s ∷ u.after))

pub place_entry : (s : ℕ) (xs : List ℕ) → among xs s ≡ true → get_or xs (place_of s xs) 0 ≡ s
place_entry s xs h =
    let u = first_there s xs h in
    ap (λ (k : ℕ). get_or xs k 0) u.place
    ∙ ap (λ (ys : List ℕ). get_or ys (length u.before) 0) u.whole
    ∙ get_or-append_seam u.before s u.after 0

-- a place where s stands, and no s before it
pub place_is : (s : ℕ) (xs : List ℕ) (k : ℕ) → k < length xs → get_or xs k 0 ≡ s → ((j : ℕ) → j < k → get_or xs j 0 ≡ s → ⊥) → place_of s xs ≡ k
place_is s [] k l e h = absurd (omega arith)
place_is s (x ∷ xs) zero l e h = place_same x xs s e
place_is s (x ∷ xs) (suc k) l e h =
    place_other x xs s (h 0 (omega arith)) ∙ ap suc (place_is s xs k (omega (arith, l)) e (λ j m. h (suc j) (omega (arith, m))))

-- no s stands before it
pub place_before : (s : ℕ) (xs : List ℕ) (j : ℕ) → j < place_of s xs → get_or xs j 0 ≡ s → ⊥
place_before s [] j l e = omega (arith, subst (λ (k : ℕ). j < k) (place_nil s) l)
place_before s (x ∷ xs) j l e = go (ℕ_discrete x s) j l e (λ i. place_before s xs i)
  where
    go : Dec (x ≡ s) → (j : ℕ) → j < place_of s (x ∷ xs) → get_or (x ∷ xs) j 0 ≡ s → ((i : ℕ) → i < place_of s xs → get_or xs i 0 ≡ s → ⊥) → ⊥
    go (yes q) j l e ih = omega (arith, subst (λ (k : ℕ). j < k) (place_same x xs s q) l)
    go (no q) zero l e ih = q e
    go (no q) (suc i) l e ih = ih i (omega (arith, subst (λ (k : ℕ). suc i < k) (place_other x xs s q) l)) e

-- an entry is among the list
pub among_entry : (xs : List ℕ) (k : ℕ) → k < length xs → among xs (get_or xs k 0) ≡ true
among_entry xs k l =
    let t = get_or xs k 0 in
    or_at (λ ys. among ys t) (λ x. eqb x t) (among_nil t) (λ x ys. among_cons x ys t) xs k 0 l (eq-eqb t t refl)

-- numbers of a set, none twice, are no more than the set has below n
pub pigeonhole : (n : ℕ) (p : ℕ → Bool) (xs : List ℕ) → NoneTwice xs → ((t : ℕ) → among xs t ≡ true → (t < n) × (p t ≡ true))
    → length xs ≤ count_below n p
pigeonhole n p [] h m = omega arith
pigeonhole n p (x ∷ xs) h m =
    let here = m x (among_first x xs) in
    omega (arith, count_without p x n here.0 here.1, pigeonhole n (without p x) xs h.1 others)
  where
    others : (t : ℕ) → among xs t ≡ true → (t < n) × (without p x t ≡ true)
    others t a =
        let w = m t (among_later x xs t a) in
        (w.0, without_other p x t (λ (e : x ≡ t). differ (among xs) t x a h.0 (sym e)) ∙ w.1)

-- a list written after another
pub sets_append : (xs ys to : List ℕ) (at : ℕ) → sets to at (xs ++ ys) ≡ sets (sets to at xs) (at + length xs) ys
sets_append [] ys to at = ap (λ (k : ℕ). sets to k ys) (omega arith)
sets_append (x ∷ xs) ys to at =
    sets_append xs ys (set to at x) (suc at)
    ∙ ap (λ (k : ℕ). sets (sets (set to at x) (suc at) xs) k ys) (omega arith)
