-- What a table of refusals answers, for any table: exactly what its rows say, part after part, record after record, and the lowest number
-- of those that have a row each.
use Rattle.std.proofs.Common.{ℕ, zero, suc, ◌+◌, ◌<◌, add-one, arith, ◌≡◌, refl, sym, ◌∙◌, ap, ap₂, Bool, true, false, cond, true≢false, List, []}
use Rattle.std.proofs.Common.{◌∷◌, ◌++◌, ◌⊎◌, inl, inr, ⊎_elim, ◌↔◌}
use Rattle.sets.proofs.Searches.{below_cases}
use Rattle.rules.specs.Answer.{Answer, gives, refused, passed, ◌then◌}
use Rattle.rules.specs.Rows.{Row, answer_of, over, one_each, NoneOf, FirstOf}
use Rattle.rules.proofs.Answers.{never_both, then_left, then_right, passed_then, refused_then, then_refused, then_given, then_same, said_number, said_place}

-- Row by row, so that a proof about a table that is written out opens nothing.
pub no_rows : answer_of [] ≡ passed
unfolding answer_of
no_rows = refl

module _ (r : Row) (rest : List Row) where
  pub row_applies : r.applies ≡ true → answer_of (r ∷ rest) ≡ refused r.number r.place
  unfolding answer_of
  row_applies e = rw e refl

  pub row_skipped : r.applies ≡ false → answer_of (r ∷ rest) ≡ answer_of rest
  unfolding answer_of
  row_skipped e = rw e refl

-- The two theorems go by the rows: here is what one row adds, where b says whether it applies, and a is what the rest answers.
one_passes : (b : Bool) (i q : ℕ) (a : Answer (Unit {0})) (None : Type 0) → (a ≡ passed ↔ None)
    → cond b (refused i q) a ≡ passed ↔ (b ≡ false) × None
one_passes true i q a None h = (λ e. absurd (never_both tt i q e), λ w. absurd (true≢false w.0))
one_passes false i q a None h = (λ e. (refl, h.0 e), λ w. h.1 w.1)

one_given : (b : Bool) (i q n p : ℕ) (a : Answer (Unit {0})) (First : Type 0) → (a ≡ refused n p ↔ First)
    → cond b (refused i q) a ≡ refused n p ↔ ((b ≡ true) × (i ≡ n) × (q ≡ p)) ⊎ ((b ≡ false) × First)
one_given true i q n p a First h = (λ e. inl (refl, ap said_number e, ap said_place e), back)
  where
    back : ((true ≡ true) × (i ≡ n) × (q ≡ p)) ⊎ ((true ≡ false) × First) → cond true (refused i q) a ≡ refused n p
    back (inl w) = ap₂ refused w.1 w.2
    back (inr w) = absurd (true≢false w.0)
one_given false i q n p a First h = (λ e. inr (refl, h.0 e), back)
  where
    back : ((false ≡ true) × (i ≡ n) × (q ≡ p)) ⊎ ((false ≡ false) × First) → a ≡ refused n p
    back (inl w) = absurd (true≢false (sym w.0))
    back (inr w) = h.1 w.1

-- THEOREM: a table passes exactly where none of its rows applies
pub passes_exactly : (rows : List Row) → answer_of rows ≡ passed ↔ NoneOf rows
unfolding answer_of NoneOf
passes_exactly [] = (λ e. tt, λ w. refl)
passes_exactly (r ∷ rest) = one_passes r.applies r.number r.place (answer_of rest) (NoneOf rest) (passes_exactly rest)

-- THEOREM: a number with its place is given exactly where they are those of the first row that applies
pub given_exactly : (rows : List Row) (n p : ℕ) → answer_of rows ≡ refused n p ↔ FirstOf rows n p
unfolding answer_of FirstOf
given_exactly [] n p = (λ e. absurd (never_both tt n p (sym e)), λ w. absurd w)
given_exactly (r ∷ rest) n p =
    one_given r.applies r.number r.place n p (answer_of rest) (FirstOf rest n p) (given_exactly rest n p)

-- THEOREM: so it is where x is given to whoever passes the table: the refusals are the table's, and x is given exactly where no row applies
module _ {A : Type 0} (rows : List Row) (x : A) where
  pub refused_exactly : (n p : ℕ) → (answer_of rows then gives x) ≡ refused n p ↔ FirstOf rows n p
  refused_exactly n p =
      (λ e. (given_exactly rows n p).0 (then_refused (answer_of rows) x n p e), λ w. rw ((given_exactly rows n p).1 w) refl)

  pub gives_exactly : (y : A) → (answer_of rows then gives x) ≡ gives y ↔ NoneOf rows × (x ≡ y)
  gives_exactly y = (
    λ e. ((passes_exactly rows).0 (then_given (answer_of rows) x y e), then_same (answer_of rows) x y e),
    λ w. rw ((passes_exactly rows).1 w.0) (ap gives w.1),
  )

-- What none of a table's rows says of each, and how to show it.
pub none_of_none : NoneOf []
unfolding NoneOf
none_of_none = tt

module _ (r : Row) (rest : List Row) where
  pub none_here : NoneOf (r ∷ rest) → r.applies ≡ false
  unfolding NoneOf
  none_here w = w.0

  pub none_later : NoneOf (r ∷ rest) → NoneOf rest
  unfolding NoneOf
  none_later w = w.1

  pub none_with : r.applies ≡ false → NoneOf rest → NoneOf (r ∷ rest)
  unfolding NoneOf
  none_with e w = (e, w)

-- a table with one row
pub alone_first : (r : Row) (n p : ℕ) → FirstOf (r ∷ []) n p ↔ (r.applies ≡ true) × (r.number ≡ n) × (r.place ≡ p)
unfolding FirstOf
alone_first r n p = (λ w. ⊎_elim (λ a. a) (λ b. absurd b.1) w, inl)

-- Two tables, one after the other.
append_step : (b : Bool) (n p : ℕ) (x y z : Answer (Unit {0})) → x ≡ (y then z) → cond b (refused n p) x ≡ (cond b (refused n p) y then z)
append_step true n p x y z e = refl
append_step false n p x y z e = e

pub answer_append : (a b : List Row) → answer_of (a ++ b) ≡ (answer_of a then answer_of b)
unfolding answer_of
answer_append [] b = refl
answer_append (r ∷ a) b =
    append_step r.applies r.number r.place (answer_of (a ++ b)) (answer_of a) (answer_of b) (answer_append a b)

module _ (a b : List Row) where
  pub append_passed : answer_of a ≡ passed → answer_of (a ++ b) ≡ answer_of b
  append_passed e = answer_append a b ∙ passed_then (answer_of a) (answer_of b) e

  pub append_refused : (n p : ℕ) → answer_of a ≡ refused n p → answer_of (a ++ b) ≡ refused n p
  append_refused n p e = answer_append a b ∙ refused_then (answer_of a) (answer_of b) e ∙ e

  -- none of both: none of the first and none of the second
  pub none_left : NoneOf (a ++ b) → NoneOf a
  none_left w = (passes_exactly a).0 (then_left (answer_of a) (answer_of b) (sym (answer_append a b) ∙ (passes_exactly (a ++ b)).1 w))

  pub none_right : NoneOf (a ++ b) → NoneOf b
  none_right w = (passes_exactly b).0 (then_right (answer_of a) (answer_of b) (sym (answer_append a b) ∙ (passes_exactly (a ++ b)).1 w))

  pub none_both : NoneOf a → NoneOf b → NoneOf (a ++ b)
  none_both v w = (passes_exactly (a ++ b)).0 (append_passed ((passes_exactly a).1 v) ∙ (passes_exactly b).1 w)

  -- the first of both: the first of the first, or that of the second where the first has none
  pub first_left : (n p : ℕ) → FirstOf a n p → FirstOf (a ++ b) n p
  first_left n p w = (given_exactly (a ++ b) n p).0 (append_refused n p ((given_exactly a n p).1 w))

  pub first_right : (n p : ℕ) → NoneOf a → FirstOf b n p → FirstOf (a ++ b) n p
  first_right n p v w = (given_exactly (a ++ b) n p).0 (append_passed ((passes_exactly a).1 v) ∙ (given_exactly b n p).1 w)

  pub first_cases : (n p : ℕ) → FirstOf (a ++ b) n p → FirstOf a n p ⊎ (NoneOf a × FirstOf b n p)
  first_cases n p w = go (answer_of a) refl
    where
      both : (answer_of a then answer_of b) ≡ refused n p
      both = sym (answer_append a b) ∙ (given_exactly (a ++ b) n p).1 w

      go : (o : Answer (Unit {0})) → answer_of a ≡ o → FirstOf a n p ⊎ (NoneOf a × FirstOf b n p)
      go (gives tt) e = inr ((passes_exactly a).0 e, (given_exactly b n p).0 (sym (passed_then (answer_of a) (answer_of b) e) ∙ both))
      go (refused i q) e = inl ((given_exactly a n p).0 (sym (refused_then (answer_of a) (answer_of b) e) ∙ both))

-- The records from the first on.
module _ (rows : ℕ → List Row) where
  pub over_zero : answer_of (over rows 0) ≡ passed
  unfolding answer_of over
  over_zero = refl

  -- the step of a loop over the records
  pub over_more : (k : ℕ) → answer_of (over rows (k + 1)) ≡ (answer_of (over rows k) then answer_of (rows k))
  unfolding over
  over_more k = rw add-one (answer_append (over rows k) (rows k))

  -- and where it finds nothing
  pub over_step : (k : ℕ) → answer_of (over rows k) ≡ passed → answer_of (rows k) ≡ passed → answer_of (over rows (k + 1)) ≡ passed
  over_step k a b = over_more k ∙ passed_then (answer_of (over rows k)) (answer_of (rows k)) a ∙ b

  pub over_passes : (n k : ℕ) → k < n → NoneOf (over rows n) → NoneOf (rows k)
  unfolding over
  over_passes zero k l w = absurd (omega arith)
  over_passes (suc n) k l w =
      ⊎_elim (λ (m : k < n). over_passes n k m (none_left (over rows n) (rows n) w))
      (λ (e : k ≡ n). rw e (none_right (over rows n) (rows n) w)) (below_cases n k l)

  pub over_none : (n : ℕ) → ((k : ℕ) → k < n → NoneOf (rows k)) → NoneOf (over rows n)
  unfolding over
  over_none zero h = none_of_none
  over_none (suc n) h = none_both (over rows n) (rows n) (over_none n (λ k l. h k (omega arith))) (h n (omega arith))

  -- a refusal at record k, after records that pass, is the answer of all: no later record is asked
  pub over_refused : (n k i p : ℕ) → k < n → answer_of (over rows k) ≡ passed → answer_of (rows k) ≡ refused i p
      → answer_of (over rows n) ≡ refused i p
  unfolding over
  over_refused zero k i p l a b = absurd (omega arith)
  over_refused (suc n) k i p l a b =
      ⊎_elim (λ (m : k < n). append_refused (over rows n) (rows n) i p (over_refused n k i p m a b)) here (below_cases n k l)
    where
      here : k ≡ n → answer_of (over rows n ++ rows n) ≡ refused i p
      here e = rw (← e) (append_passed (over rows k) (rows k) a ∙ b)

  -- and the first row of all is that of such a record
  pub over_first : (n i p : ℕ) → FirstOf (over rows n) i p → (k : ℕ) × (k < n) × NoneOf (over rows k) × FirstOf (rows k) i p
  unfolding over FirstOf
  over_first zero i p w = absurd w
  over_first (suc n) i p w = go (first_cases (over rows n) (rows n) i p w) (over_first n i p)
    where
      go : FirstOf (over rows n) i p ⊎ (NoneOf (over rows n) × FirstOf (rows n) i p)
          → (FirstOf (over rows n) i p → (k : ℕ) × (k < n) × NoneOf (over rows k) × FirstOf (rows k) i p)
          → (k : ℕ) × (k < suc n) × NoneOf (over rows k) × FirstOf (rows k) i p
      go (inl a) ih = let v = ih a in (v.0, omega (arith, v.1), v.2, v.3)
      go (inr b) ih = (n, omega arith, b.0, b.1)

-- One row for each number: the lowest one whose row applies is refused.
module _ (row_of : ℕ → Row) where
  pub each_passes : (n : ℕ) → ((t : ℕ) → t < n → (row_of t).applies ≡ false) → answer_of (one_each row_of n) ≡ passed
  each_passes n h = (passes_exactly (one_each row_of n)).1 (over_none (λ t. row_of t ∷ []) n (λ t l. none_with (row_of t) [] (h t l) none_of_none))

  pub over_lowest : (n t : ℕ) → t < n → ((u : ℕ) → u < t → (row_of u).applies ≡ false) → (row_of t).applies ≡ true
      → answer_of (one_each row_of n) ≡ refused (row_of t).number (row_of t).place
  over_lowest n t l h e =
      over_refused (λ t. row_of t ∷ []) n t (row_of t).number (row_of t).place l (each_passes t h) (row_applies (row_of t) [] e)

  -- and back
  pub none_applies : (n : ℕ) → NoneOf (one_each row_of n) → (t : ℕ) → t < n → (row_of t).applies ≡ false
  none_applies n w t l = none_here (row_of t) [] (over_passes (λ t. row_of t ∷ []) n t l w)

  pub lowest_applies : (n i p : ℕ) → FirstOf (one_each row_of n) i p
      → (t : ℕ) × (t < n) × ((u : ℕ) → u < t → (row_of u).applies ≡ false) × ((row_of t).applies ≡ true) × ((row_of t).number ≡ i) × ((row_of t).place ≡ p)
  lowest_applies n i p w =
      let v = over_first (λ t. row_of t ∷ []) n i p w in
      let r = (alone_first (row_of v.0) i p).0 v.3 in
      (v.0, v.1, none_applies v.0 v.2, r.0, r.1, r.2)
