-- Laws of a line: what stands before one of it, and who is the last that passes a test. The only file that opens `before` and `last_of`.
use Rattle.std.proofs.Common.{ℕ, ◌≡◌, refl, sym, ◌∙◌, ap, subst, Bool, true, false, cond, List, [], ◌∷◌, ◌⊎◌, inl, inr, ⊎_elim, eq-eqb, ne_eqb}
use Rattle.std.proofs.Math.Decide.{ℕ_discrete}
use Rattle.std.proofs.Math.Option.{Option, none, some}
use Rattle.sets.specs.Search.{or_else}
use borrow.Author.Clash.{clash}
use Rattle.lines.specs.Rule.{among}
use Rattle.lines.specs.Lines.{NoneTwice, stands_before}
use Rattle.lines.proofs.Lists.{among_nil, among_first, among_later, among_cases}
use Rattle.lines.proofs.Stands.{stands_first, stands_later, stands_cases, stands_among, after_first, stands_not_itself, not_both}
use Rattle.serial.specs.Run.{before, last_of}

-- what stands before j: its clauses
before_nil : (j : ℕ) → before j [] ≡ []
unfolding before
before_nil j = refl

before_itself : (j t : ℕ) (ts : List ℕ) → t ≡ j → before j (t ∷ ts) ≡ []
unfolding before
before_itself j t ts e = rw (eq-eqb t j e) refl

before_other : (j t : ℕ) (ts : List ℕ) → (t ≡ j → ⊥) → before j (t ∷ ts) ≡ t ∷ before j ts
unfolding before
before_other j t ts d = rw (ne_eqb t j d) refl

-- nothing stands before what is not there
none_stands : (s t : ℕ) → stands_before [] s t ≡ true → ⊥
none_stands s t h = clash (among [] t) (stands_among [] s t h) (among_nil t)

not_before_itself : (j x : ℕ) (xs : List ℕ) (t : ℕ) → x ≡ j → among (before j (x ∷ xs)) t ≡ true → ⊥
not_before_itself j x xs t e h = clash (among [] t) (ap (λ (ys : List ℕ). among ys t) (sym (before_itself j x xs e)) ∙ h) (among_nil t)

-- who is before j stands before it ..
before_stands : (xs : List ℕ) (j t : ℕ) → among xs j ≡ true → among (before j xs) t ≡ true → stands_before xs t j ≡ true
before_stands [] j t a h = absurd (clash (among [] j) a (among_nil j))
before_stands (x ∷ xs) j t a h = go (ℕ_discrete x j) (before_stands xs j t)
  where
    go : Dec (x ≡ j) → (among xs j ≡ true → among (before j xs) t ≡ true → stands_before xs t j ≡ true) → stands_before (x ∷ xs) t j ≡ true
    go (yes e) ih = absurd (not_before_itself j x xs t e h)
    go (no d) ih =
        let later : among xs j ≡ true = ⊎_elim (λ (e : x ≡ j). absurd (d e)) (λ (w : among xs j ≡ true). w) (among_cases x xs j a) in
        ⊎_elim
        (λ (e : x ≡ t). subst (λ (y : ℕ). stands_before (x ∷ xs) y j ≡ true) e (stands_first x xs j later))
        (λ (w : among (before j xs) t ≡ true). stands_later x xs t j (ih later w))
        (among_cases x (before j xs) t (ap (λ (ys : List ℕ). among ys t) (sym (before_other j x xs d)) ∙ h))

-- .. and back ..
stands_in_before : (xs : List ℕ) (j t : ℕ) → NoneTwice xs → stands_before xs t j ≡ true → among (before j xs) t ≡ true
stands_in_before [] j t n h = absurd (none_stands t j h)
stands_in_before (x ∷ xs) j t n h = go (ℕ_discrete x j) (stands_in_before xs j t n.1)
  where
    go : Dec (x ≡ j) → (stands_before xs t j ≡ true → among (before j xs) t ≡ true) → among (before j (x ∷ xs)) t ≡ true
    go (yes e) ih = absurd (clash (among xs j) (after_first x xs t j h) (ap (among xs) (sym e) ∙ n.0))
    go (no d) ih =
        ap (λ (ys : List ℕ). among ys t) (before_other j x xs d)
        ∙ ⊎_elim
        (λ (w : (x ≡ t) × (among xs j ≡ true)). subst (λ (y : ℕ). among (x ∷ before j xs) y ≡ true) w.0 (among_first x (before j xs)))
        (λ (w : stands_before xs t j ≡ true). among_later x (before j xs) t (ih w))
        (stands_cases x xs t j h)

-- .. and those before j stand in the line, in its order
among_before : (xs : List ℕ) (j t : ℕ) → among (before j xs) t ≡ true → among xs t ≡ true
among_before [] j t h = subst (λ (ys : List ℕ). among ys t ≡ true) (before_nil j) h
among_before (x ∷ xs) j t h = go (ℕ_discrete x j) (among_before xs j t)
  where
    go : Dec (x ≡ j) → (among (before j xs) t ≡ true → among xs t ≡ true) → among (x ∷ xs) t ≡ true
    go (yes e) ih = absurd (not_before_itself j x xs t e h)
    go (no d) ih =
        ⊎_elim
        (λ (e : x ≡ t). subst (λ (y : ℕ). among (x ∷ xs) y ≡ true) e (among_first x xs))
        (λ (w : among (before j xs) t ≡ true). among_later x xs t (ih w))
        (among_cases x (before j xs) t (ap (λ (ys : List ℕ). among ys t) (sym (before_other j x xs d)) ∙ h))

-- so who stands before something is there
pub stands_there : (xs : List ℕ) (j t : ℕ) → NoneTwice xs → stands_before xs t j ≡ true → among xs t ≡ true
stands_there xs j t n h = among_before xs j t (stands_in_before xs j t n h)

before_keeps : (xs : List ℕ) (j s t : ℕ) → stands_before (before j xs) s t ≡ true → stands_before xs s t ≡ true
before_keeps [] j s t h = subst (λ (ys : List ℕ). stands_before ys s t ≡ true) (before_nil j) h
before_keeps (x ∷ xs) j s t h = go (ℕ_discrete x j) (before_keeps xs j s t)
  where
    go : Dec (x ≡ j) → (stands_before (before j xs) s t ≡ true → stands_before xs s t ≡ true) → stands_before (x ∷ xs) s t ≡ true
    go (yes e) ih = absurd (none_stands s t (ap (λ (ys : List ℕ). stands_before ys s t) (sym (before_itself j x xs e)) ∙ h))
    go (no d) ih =
        ⊎_elim
        (λ (w : (x ≡ s) × (among (before j xs) t ≡ true)).
        subst (λ (y : ℕ). stands_before (x ∷ xs) y t ≡ true) w.0 (stands_first x xs t (among_before xs j t w.1)))
        (λ (w : stands_before (before j xs) s t ≡ true). stands_later x xs s t (ih w))
        (stands_cases x (before j xs) s t (ap (λ (ys : List ℕ). stands_before ys s t) (sym (before_other j x xs d)) ∙ h))

-- the last that passes a test
module _ (p : ℕ → Bool) where
  last_nil : last_of p [] ≡ none
  unfolding last_of
  last_nil = refl

  last_cons : (x : ℕ) (xs : List ℕ) → last_of p (x ∷ xs) ≡ or_else (last_of p xs) (cond (p x) (some x) none)
  unfolding last_of
  last_cons x xs = refl

  -- w passes, and who else does stands before it
  pub record LastIn (xs : List ℕ) (w : ℕ) : Type 0 where
    pub there : among xs w ≡ true
    pub passes : p w ≡ true
    pub others : (t : ℕ) → among xs t ≡ true → p t ≡ true → (t ≡ w) ⊎ (stands_before xs t w ≡ true)

  -- nobody passes, or one is the last that does
  data LastOf (xs : List ℕ) : Option ℕ → Type 0 where
    nobody : ((t : ℕ) → among xs t ≡ true → p t ≡ false) → LastOf xs none
    the_last : {w : ℕ} → LastIn xs w → LastOf xs (some w)

  -- the first of a line is the last where nobody after it is, and else stands before it
  front_alone : (x : ℕ) (xs : List ℕ) → ((t : ℕ) → among xs t ≡ true → p t ≡ false) → (b : Bool) → p x ≡ b → LastOf (x ∷ xs) (cond b (some x) none)
  front_alone x xs f true e =
      the_last
      (record {
        there = among_first x xs;
        passes = e;
        others = λ t a q.
            ⊎_elim (λ (c : x ≡ t). inl (sym c)) (λ (c : among xs t ≡ true). absurd (clash (p t) q (f t c))) (among_cases x xs t a);
      })
  front_alone x xs f false e =
      nobody (λ t a. ⊎_elim (λ (c : x ≡ t). ap p (sym c) ∙ e) (λ (c : among xs t ≡ true). f t c) (among_cases x xs t a))

  front_passed : (x : ℕ) (xs : List ℕ) (w : ℕ) → LastIn xs w → LastIn (x ∷ xs) w
  front_passed x xs w l =
      record {
        there = among_later x xs w l.there;
        passes = l.passes;
        others = λ t b r.
            ⊎_elim (λ (c : x ≡ t). inr (subst (λ (y : ℕ). stands_before (x ∷ xs) y w ≡ true) c (stands_first x xs w l.there)))
            (λ (c : among xs t ≡ true).
            ⊎_elim (λ (e : t ≡ w). inl e) (λ (e : stands_before xs t w ≡ true). inr (stands_later x xs t w e)) (l.others t c r))
            (among_cases x xs t b);
      }

  last_of_view : (xs : List ℕ) → LastOf xs (last_of p xs)
  last_of_view [] = subst (LastOf []) (sym last_nil) (nobody (λ t a. absurd (clash (among [] t) a (among_nil t))))
  last_of_view (x ∷ xs) = subst (LastOf (x ∷ xs)) (sym (last_cons x xs)) (go (last_of p xs) (last_of_view xs))
    where
      go : (o : Option ℕ) → LastOf xs o → LastOf (x ∷ xs) (or_else o (cond (p x) (some x) none))
      go (some w) (the_last l) = the_last (front_passed x xs w l)
      go none (nobody f) = front_alone x xs f (p x) refl

  pub last_of_found : (xs : List ℕ) (w : ℕ) → last_of p xs ≡ some w → LastIn xs w
  last_of_found xs w e = go (subst (LastOf xs) e (last_of_view xs))
    where
      go : LastOf xs (some w) → LastIn xs w
      go (the_last l) = l

  -- the last before j, in the order of the whole line
  module _ (xs : List ℕ) (none_twice : NoneTwice xs) (j : ℕ) where
    pub record LastBefore (w : ℕ) : Type 0 where
      pub passes : p w ≡ true
      pub stands : stands_before xs w j ≡ true
      pub others : (t : ℕ) → stands_before xs t j ≡ true → p t ≡ true → (t ≡ w) ⊎ (stands_before xs t w ≡ true)

    pub last_before_found : among xs j ≡ true → (w : ℕ) → last_of p (before j xs) ≡ some w → LastBefore w
    last_before_found a w e =
        let l = last_of_found (before j xs) w e in
        record {
          passes = l.passes;
          stands = before_stands xs j w a l.there;
          others = λ t h r.
              ⊎_elim (λ (c : t ≡ w). inl c) (λ (c : stands_before (before j xs) t w ≡ true). inr (before_keeps xs j t w c))
              (l.others t (stands_in_before xs j t none_twice h) r);
        }

    pub last_before_is : (w : ℕ) → LastBefore w → last_of p (before j xs) ≡ some w
    last_before_is w v = go (last_of p (before j xs)) (last_of_view (before j xs)) refl
      where
        there : among (before j xs) w ≡ true
        there = stands_in_before xs j w none_twice v.stands

        go : (o : Option ℕ) → LastOf (before j xs) o → last_of p (before j xs) ≡ o → last_of p (before j xs) ≡ some w
        go none (nobody f) e = absurd (clash (p w) v.passes (f w there))
        go (some u) (the_last l) e = ⊎_elim (λ (c : w ≡ u). e ∙ ap some (sym c)) (λ c. absurd (both c)) (l.others w there v.passes)
          where
            both : stands_before (before j xs) w u ≡ true → ⊥
            both c =
                let after = before_keeps xs j w u c in
                ⊎_elim
                (λ (d : u ≡ w). stands_not_itself xs w none_twice (subst (λ (y : ℕ). stands_before xs w y ≡ true) d after))
                (λ (d : stands_before xs u w ≡ true). not_both xs w u none_twice after d)
                (v.others u (before_stands xs j u (stands_among xs w j v.stands) l.there) l.passes)
