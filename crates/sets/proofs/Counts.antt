-- Laws of the count of the numbers below n that pass a test: at most n, none where nothing passes, and one less where one of them is taken
-- out; and of a test with one taken out.
use Rattle.std.proofs.Common.{ℕ, zero, suc, ◌+◌, ◌<◌, ◌≤◌, arith, ◌≡◌, refl, sym, ◌∙◌, ap, ap₂, Bool, true, false, ◌&&◌, not, cond, ⊎_elim, eqb}
use Rattle.std.proofs.Common.{eq-eqb, ne_eqb}
use Rattle.std.proofs.lemmas.Bool.{eqb-false, not-true, and_parts}
use Rattle.std.proofs.Math.Bool.{and-true, and-false}
use Rattle.sets.specs.Search.{count_below, without}
use Rattle.sets.proofs.Searches.{below_cases}

-- at most one for each number
one_or_none : (b : Bool) → cond b 1 0 ≤ 1
one_or_none true = omega arith
one_or_none false = omega arith

pub count_low : (p : ℕ → Bool) (n : ℕ) → count_below n p ≤ n
unfolding count_below
count_low p zero = omega arith
count_low p (suc n) = omega (arith, one_or_none (p n), count_low p n)

-- tests that say the same below n
pub count_same : (p q : ℕ → Bool) (n : ℕ) → ((e : ℕ) → e < n → p e ≡ q e) → count_below n p ≡ count_below n q
unfolding count_below
count_same p q zero h = refl
count_same p q (suc n) h =
    ap₂ ◌+◌ (ap (λ (b : Bool). cond b 1 0) (h n (omega arith))) (count_same p q n (λ e l. h e (omega arith)))

-- where there is none, the count is 0
pub count_none : (p : ℕ → Bool) (n : ℕ) → ((e : ℕ) → p e ≡ false) → count_below n p ≡ 0
unfolding count_below
count_none p zero h = refl
count_none p (suc n) h = rw (h n, count_none p n h) refl

-- where there is one, it is not
pub count_some : (p : ℕ → Bool) (n e : ℕ) → e < n → p e ≡ true → 1 ≤ count_below n p
unfolding count_below
count_some p zero e l h = absurd (omega arith)
count_some p (suc n) e l h =
    ⊎_elim (λ (m : e < n). omega (arith, count_some p n e m h)) (λ (q : e ≡ n). here q) (below_cases n e l)
  where
    here : e ≡ n → 1 ≤ cond (p n) 1 0 + count_below n p
    here q = rw (ap p (sym q) ∙ h) (omega arith)

-- a test without t
module _ (p : ℕ → Bool) (t : ℕ) where
  pub without_said : (s : ℕ) → (p s && not (eqb t s)) ≡ without p t s
  unfolding without
  without_said s = refl

  pub without_itself : without p t t ≡ false
  without_itself = sym (without_said t) ∙ ap (λ (b : Bool). p t && not b) (eq-eqb t t refl) ∙ and-false (p t)

  pub without_other : (s : ℕ) → (t ≡ s → ⊥) → without p t s ≡ p s
  without_other s q = sym (without_said s) ∙ ap (λ (b : Bool). p s && not b) (ne_eqb t s q) ∙ and-true (p s)

  pub passed_before : (s : ℕ) → without p t s ≡ true → p s ≡ true
  passed_before s h = (and_parts (p s) (not (eqb t s)) (without_said s ∙ h)).0

  pub is_another : (s : ℕ) → without p t s ≡ true → t ≡ s → ⊥
  is_another s h = eqb-false t s (not-true (eqb t s) (and_parts (p s) (not (eqb t s)) (without_said s ∙ h)).1)

  -- one less than before
  pub count_without : (n : ℕ) → t < n → p t ≡ true → count_below n p ≡ suc (count_below n (without p t))
  unfolding count_below
  count_without zero l h = absurd (omega arith)
  count_without (suc n) l h =
      ⊎_elim (λ (m : t < n). before m (count_without n m h)) (λ (q : t ≡ n). here q) (below_cases n t l)
    where
      before : t < n → count_below n p ≡ suc (count_below n (without p t))
          → cond (p n) 1 0 + count_below n p ≡ suc (cond (without p t n) 1 0 + count_below n (without p t))
      before m e = rw (e, without_other n (λ (z : t ≡ n). omega (arith, m, z))) (omega arith)

      here : t ≡ n → cond (p n) 1 0 + count_below n p ≡ suc (cond (without p t n) 1 0 + count_below n (without p t))
      here q = rw (
        ← q,
        h,
        without_itself,
        count_same (without p t) p t (λ e m. without_other e (λ (z : t ≡ e). omega (arith, m, z))),
      ) (omega arith)
