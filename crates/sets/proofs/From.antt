-- Laws of a search from k on: what a hit says and how to show one, nothing at the end, everything at 0, the step of a loop that
-- counts down, and what the first one is.
use Rattle.std.proofs.Common.{ℕ, ◌+◌, ◌<◌, ◌≤◌, arith, ◌≡◌, refl, sym, ◌∙◌, ap, Bool, true, false, ◌&&◌, ◌||◌, ⊎_elim, leb, leb-true, le-leb}
use Rattle.std.proofs.Math.Decide.{ℕ_discrete}
use Rattle.std.proofs.Math.Option.{Option, none, some}
use Rattle.std.proofs.lemmas.Bool.{lt-leb, false_from_ne_true, and_from, and_parts, or_cases, or_left, or_right}
use Rattle.sets.specs.Search.{some_below, some_from, first_below, next_from}
use borrow.Author.Clash.{clash}
use Rattle.sets.proofs.Truth.{same_truth}
use Rattle.sets.proofs.Searches.{some_hit, some_found, some_none, First, first_none, first_some, first_view, first_miss, first_hit}

module _ (p : ℕ → Bool) where
  pub from_hit : (k n e : ℕ) → k ≤ e → e < n → p e ≡ true → some_from k n p ≡ true
  unfolding some_from
  from_hit k n e m l h = some_hit (λ x. leb k x && p x) n e l (and_from (leb k e) (p e) (le-leb k e m) h)

  pub from_found : (k n : ℕ) → some_from k n p ≡ true → (e : ℕ) × (k ≤ e) × (e < n) × (p e ≡ true)
  unfolding some_from
  from_found k n h =
      let w = some_found (λ x. leb k x && p x) n h in
      (w.0, leb-true k w.0 (and_parts (leb k w.0) (p w.0) w.2).0, w.1, (and_parts (leb k w.0) (p w.0) w.2).1)

  pub from_end : (n : ℕ) → some_from n n p ≡ false
  unfolding some_from
  from_end n = some_none (λ x. leb n x && p x) n (λ e l. rw (lt-leb n e l) refl)

  pub from_start : (n : ℕ) → some_from 0 n p ≡ some_below n p
  from_start n =
      same_truth (some_from 0 n p) (some_below n p) (λ h. let w = from_found 0 n h in some_hit p n w.0 w.2 w.3)
      (λ h. let w = some_found p n h in from_hit 0 n w.0 (omega arith) w.1 w.2)

  pub from_step : (k n : ℕ) → k < n → some_from k n p ≡ (some_from (k + 1) n p || p k)
  from_step k n l = same_truth (some_from k n p) (some_from (k + 1) n p || p k) ahead back
    where
      ahead : some_from k n p ≡ true → (some_from (k + 1) n p || p k) ≡ true
      ahead h = let w = from_found k n h in go w.0 w.1 w.2 w.3 (ℕ_discrete k w.0)
        where
          go : (e : ℕ) → k ≤ e → e < n → p e ≡ true → Dec (k ≡ e) → (some_from (k + 1) n p || p k) ≡ true
          go e a b q (yes s) = or_right (some_from (k + 1) n p) (p k) (rw s q)
          go e a b q (no s) = or_left (some_from (k + 1) n p) (p k) (from_hit (k + 1) n e (omega arith) b q)

      back : (some_from (k + 1) n p || p k) ≡ true → some_from k n p ≡ true
      back h =
          ⊎_elim (λ (a : some_from (k + 1) n p ≡ true). let w = from_found (k + 1) n a in from_hit k n w.0 (omega (arith, w.1)) w.2 w.3)
          (λ (a : p k ≡ true). from_hit k n k (omega arith) l a) (or_cases (some_from (k + 1) n p) (p k) h)

  -- a search from k on, with all that its result says
  pub data NextFrom (k n : ℕ) : Option ℕ → Type 0 where
    next_miss : ((e : ℕ) → k ≤ e → e < n → p e ≡ false) → NextFrom k n none
    next_hit : {r : ℕ} → k ≤ r → r < n → p r ≡ true → ((e : ℕ) → k ≤ e → e < r → p e ≡ false) → NextFrom k n (some r)

  module _ (k : ℕ) where
    -- the test that the search makes
    abbrev asked : ℕ → Bool
    asked e = leb k e && p e

    fails : (e : ℕ) → (k ≤ e → p e ≡ false) → asked e ≡ false
    fails e f =
        false_from_ne_true (asked e) (λ h. clash (p e) (and_parts (leb k e) (p e) h).1 (f (leb-true k e (and_parts (leb k e) (p e) h).0)))

    fails_from : (e : ℕ) → k ≤ e → asked e ≡ false → p e ≡ false
    fails_from e m f = sym (ap (λ (b : Bool). b && p e) (le-leb k e m)) ∙ f

    pub next_view : (n : ℕ) → NextFrom k n (next_from k n p)
    unfolding next_from
    next_view n = go (first_below n asked) (first_view asked n)
      where
        go : (o : Option ℕ) → First asked n o → NextFrom k n o
        go none (first_none f) = next_miss (λ e m l. fails_from e m (f e l))
        go (some r) (first_some l h f) =
            next_hit {r = r} (leb-true k r (and_parts (leb k r) (p r) h).0) l (and_parts (leb k r) (p r) h).1 (λ e m z. fails_from e m (f e z))

    pub next_none : (n : ℕ) → ((e : ℕ) → k ≤ e → e < n → p e ≡ false) → next_from k n p ≡ none
    unfolding next_from
    next_none n f = first_miss asked n (λ e l. fails e (λ m. f e m l))

    pub next_some : (n r : ℕ) → k ≤ r → r < n → p r ≡ true → ((e : ℕ) → k ≤ e → e < r → p e ≡ false) → next_from k n p ≡ some r
    unfolding next_from
    next_some n r m l h f =
        first_hit asked n r l (λ e z. fails e (λ a. f e a z)) (and_from (leb k r) (p r) (le-leb k r m) h)
