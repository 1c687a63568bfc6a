-- Laws of the searches below n, each by going through the numbers one by one: what a hit and a miss say, how to show one, and
-- the step from n to n + 1 that a counting loop takes.
use Rattle.std.proofs.Common.{ℕ, zero, suc, ◌+◌, ◌-◌, ◌<◌, ◌≤◌, add-one, arith, ◌≡◌, refl, ◌∙◌, ap, subst, Bool, true, false, ◌||◌, cond, ◌⊎◌}
use Rattle.std.proofs.Common.{⊎_elim, below_none, below_more}
use Rattle.std.proofs.Math.Decide.{ℕ_discrete}
use Rattle.std.proofs.Math.Option.{Option, none, some}
use Rattle.std.proofs.Math.Bool.{or_comm}
use Rattle.std.proofs.lemmas.Bool.{false_from_ne_true}
use Rattle.std.proofs.lemmas.Bool.Decides.{Decides-below_or}
use Rattle.std.specs.Bool.{Decides}
use borrow.Author.Clash.{clash}
use Rattle.sets.specs.Search.{some_below, first_below, last_below, or_else}

-- a number below n + 1 is n or below n
pub below_cases : (n e : ℕ) → e < suc n → (e < n) ⊎ (e ≡ n)
below_cases n e h = grind arith

-- two numbers of which neither is below the other are one
pub only_between : (j k : ℕ) → (j < k → ⊥) → (k < j → ⊥) → j ≡ k
only_between j k f g = omega arith

module _ (p : ℕ → Bool) where
  -- "none below n passes", as a statement of each
  abbrev pub None : ℕ → Type 0
  None n = (e : ℕ) → e < n → p e ≡ false

  pub none_zero : None zero
  none_zero = below_none (λ e. p e ≡ false)

  -- the step of a counting loop
  pub none_more : (n : ℕ) → None n → p n ≡ false → None (n + 1)
  none_more = below_more (λ e. p e ≡ false)

  pub none_suc : (n : ℕ) → None n → p n ≡ false → None (suc n)
  none_suc n h q = subst None (add-one n) (none_more n h q)

  pub some_zero : some_below zero p ≡ false
  unfolding some_below
  some_zero = refl

  -- the step of a counting loop
  pub some_more : (n : ℕ) → some_below (n + 1) p ≡ (some_below n p || p n)
  unfolding some_below
  some_more n = rw add-one refl

  -- the number that a search found
  abbrev pub Some : ℕ → Type 0
  Some n = (e : ℕ) × (e < n) × (p e ≡ true)

  decided : (n : ℕ) → Decides (some_below n p) (Some n)
  unfolding some_below
  decided = Decides-below_or p (λ e. p e ≡ true) (λ n. some_below n p) (λ e. (λ h. h, λ h. h)) refl (λ n. or_comm (some_below n p) (p n))

  pub some_found : (n : ℕ) → some_below n p ≡ true → Some n
  some_found n = (decided n).0

  pub some_hit : (n e : ℕ) → e < n → p e ≡ true → some_below n p ≡ true
  some_hit n e l h = (decided n).1 (e, l, h)

  pub some_none : (n : ℕ) → None n → some_below n p ≡ false
  some_none n h = false_from_ne_true (some_below n p) (λ t. let w = some_found n t in clash (p w.0) w.2 (h w.0 w.1))

  pub none_some : (n : ℕ) → some_below n p ≡ false → None n
  none_some n f e l = false_from_ne_true (p e) (λ t. clash (some_below n p) (some_hit n e l t) f)

  -- what a first number is: none before it passes
  pub data First (n : ℕ) : Option ℕ → Type 0 where
    first_none : None n → First n none
    first_some : {k : ℕ} → k < n → p k ≡ true → None k → First n (some k)

  first_older : (n : ℕ) (o : Option ℕ) → First n o → First (suc n) (or_else o (cond (p n) (some n) none))
  first_older n o (first_none h) = go (p n) refl
    where
      go : (b : Bool) → p n ≡ b → First (suc n) (cond b (some n) none)
      go true e = first_some {k = n} (omega arith) e h
      go false e = first_none (none_suc n h e)
  first_older n o (first_some {k = k} l q h) = first_some {k = k} (omega arith) q h

  pub first_view : (n : ℕ) → First n (first_below n p)
  unfolding first_below
  first_view zero = first_none none_zero
  first_view (suc n) = first_older n (first_below n p) (first_view n)

  pub first_miss : (n : ℕ) → None n → first_below n p ≡ none
  first_miss n h = go (first_below n p) (first_view n)
    where
      go : (o : Option ℕ) → First n o → o ≡ none
      go none w = refl
      go (some k) (first_some l q f) = clash (p k) q (h k l)

  pub first_hit : (n k : ℕ) → k < n → None k → p k ≡ true → first_below n p ≡ some k
  first_hit n k l h q = go (first_below n p) (first_view n)
    where
      go : (o : Option ℕ) → First n o → o ≡ some k
      go none (first_none f) = clash (p k) q (f k l)
      go (some j) (first_some m r f) =
          ap some (only_between j k (λ (w : j < k). clash (p j) r (h j w)) (λ (w : k < j). clash (p k) q (f k w)))

  pub first_none_below : (n : ℕ) → first_below n p ≡ none → None n
  first_none_below n e = go (rw e at (first_view n))
    where
      go : First n none → None n
      go (first_none h) = h

  pub first_found : (n : ℕ) {k : ℕ} → first_below n p ≡ some k → First n (some k)
  first_found n e = rw e at (first_view n)

  -- what was found stays the first when more is searched
  pub first_stays : (n j : ℕ) → first_below n p ≡ some j → first_below (n + 1) p ≡ some j
  unfolding first_below
  first_stays n j e = rw (add-one, e) refl

  -- what a last number is: none after it passes
  abbrev pub After : ℕ → ℕ → Type 0
  After k n = (e : ℕ) → k < e → e < n → p e ≡ false

  pub data Last (n : ℕ) : Option ℕ → Type 0 where
    last_none : None n → Last n none
    last_some : {k : ℕ} → k < n → p k ≡ true → After k n → Last n (some k)

  last_older : (n : ℕ) (o : Option ℕ) (b : Bool) → p n ≡ b → Last n o → Last (suc n) (cond b (some n) o)
  last_older n o true e w = last_some {k = n} (omega arith) e (λ x l m. absurd (omega arith))
  last_older n o false e (last_none h) = last_none (none_suc n h e)
  last_older n o false e (last_some {k = k} l q h) = last_some {k = k} (omega arith) q after
    where
      after : After k (suc n)
      after x m r = ⊎_elim (λ (w : x < n). h x m w) (λ (w : x ≡ n). ap p w ∙ e) (below_cases n x r)

  pub last_view : (n : ℕ) → Last n (last_below n p)
  unfolding last_below
  last_view zero = last_none none_zero
  last_view (suc n) = last_older n (last_below n p) (p n) refl (last_view n)

  pub last_miss : (n : ℕ) → None n → last_below n p ≡ none
  last_miss n h = go (last_below n p) (last_view n)
    where
      go : (o : Option ℕ) → Last n o → o ≡ none
      go none w = refl
      go (some k) (last_some l q f) = clash (p k) q (h k l)

  pub last_hit : (n k : ℕ) → k < n → After k n → p k ≡ true → last_below n p ≡ some k
  last_hit n k l h q = go (last_below n p) (last_view n)
    where
      go : (o : Option ℕ) → Last n o → o ≡ some k
      go none (last_none f) = clash (p k) q (f k l)
      go (some j) (last_some m r f) =
          ap some (only_between j k (λ (w : j < k). clash (p k) q (f k w l)) (λ (w : k < j). clash (p j) r (h j w m)))

  pub last_found : (n : ℕ) {k : ℕ} → last_below n p ≡ some k → Last n (some k)
  last_found n e = rw e at (last_view n)

  -- the step of a walk back: none from e on passes, and the one before e does not
  pub none_back : (e k : ℕ) → 0 < e → p (e - 1) ≡ false → ((i : ℕ) → e ≤ i → i < k → p i ≡ false) → (i : ℕ) → e - 1 ≤ i → i < k → p i ≡ false
  none_back e k l q h i m n = go (ℕ_discrete i (e - 1))
    where
      go : Dec (i ≡ e - 1) → p i ≡ false
      go (yes r) = ap p r ∙ q
      go (no r) = h i (omega (arith, l, m, r)) n
