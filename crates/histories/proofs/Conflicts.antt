-- Which later records conflict with a record: with a read the writes of its copy, with a write every use of it, with a record that does
-- neither none.
use Rattle.std.proofs.Common.{ℕ, ◌+◌, ◌<◌, arith, ◌≡◌, refl, sym, ◌∙◌, Bool, true, false, ◌&&◌, ◌||◌, ◌⊎◌, inl, inr, eqb, eq-eqb}
use Rattle.std.proofs.Math.Bool.{and-true, and-false, or-false}
use Rattle.std.proofs.lemmas.Bool.{cases_Bool, or_left, or_right}
use Rattle.sets.specs.Search.{some_from}
use borrow.Author.Clash.{clash}
use Rattle.histories.specs.History.{History, is_by, uses, uses_copy, writes_copy, on_same_copy, conflicting}
use Rattle.histories.specs.Earlier.{some_after}
use Rattle.histories.specs.Reasons.{gives_conflict, conflict}
use Rattle.histories.proofs.OfTransactions.{of_hit, after_hit, after_found}

-- of the users of a copy those that write it
users_write : (r w s : Bool) → (((r || w) && s) && w) ≡ (w && s)
users_write true true s = and-true s
users_write false true s = and-true s
users_write true false s = and-false s
users_write false false s = refl

module _ (h : History) (e : ℕ) where
  -- a read and a write use their copy, and nothing else does
  pub read_uses : h.is_read e ≡ true → uses h e ≡ true
  unfolding uses
  read_uses r = or_left (h.is_read e) (h.is_write e) r

  pub write_uses : h.is_write e ≡ true → uses h e ≡ true
  unfolding uses
  write_uses w = or_right (h.is_read e) (h.is_write e) w

  pub uses_none : h.is_read e ≡ false → h.is_write e ≡ false → uses h e ≡ false
  unfolding uses
  uses_none r w = rw (r, w) refl

  pub uses_by_kind : (c : ℕ) → uses_copy h e c ≡ ((h.is_read e || h.is_write e) && eqb (h.copy e) c)
  unfolding uses_copy uses
  uses_by_kind c = refl

  pub uses_copy_hit : (c : ℕ) → uses h e ≡ true → h.copy e ≡ c → uses_copy h e c ≡ true
  unfolding uses_copy
  uses_copy_hit c u q = rw (u, eq-eqb (h.copy e) c q) refl

  own : uses h e ≡ true → uses_copy h e (h.copy e) ≡ true
  own u = uses_copy_hit (h.copy e) u refl

  -- what conflicts with a record, by what it does
  conflicts_with_read : h.is_read e ≡ true → h.is_write e ≡ false → (f : ℕ) → conflicting h e f ≡ writes_copy h f (h.copy e)
  unfolding conflicting on_same_copy uses_copy uses writes_copy
  conflicts_with_read r w f =
      rw (r, w, eq-eqb (h.copy e) (h.copy e) refl) (users_write (h.is_read f) (h.is_write f) (eqb (h.copy f) (h.copy e)))

  pub conflicts_with_write : h.is_write e ≡ true → (f : ℕ) → conflicting h e f ≡ uses_copy h f (h.copy e)
  unfolding conflicting on_same_copy
  conflicts_with_write w f = rw (own (write_uses w), w) (and-true (uses_copy h f (h.copy e)))

  conflicts_with_none : uses h e ≡ false → (f : ℕ) → conflicting h e f ≡ false
  unfolding conflicting on_same_copy uses_copy
  conflicts_with_none u f = rw u refl

  -- LAW: a write and then a use of its copy, or a use and then a write of it, are in conflict
  pub write_then_use : (f : ℕ) → h.is_write e ≡ true → uses h f ≡ true → h.copy f ≡ h.copy e → conflicting h e f ≡ true
  unfolding uses_copy
  write_then_use f w u q = conflicts_with_write w f ∙ rw (u, eq-eqb (h.copy f) (h.copy e) q) refl

  pub use_then_write : (f : ℕ) → uses h e ≡ true → h.is_write f ≡ true → h.copy f ≡ h.copy e → conflicting h e f ≡ true
  unfolding conflicting on_same_copy uses_copy uses
  use_then_write f u w q =
      rw (eq-eqb (h.copy e) (h.copy e) refl, eq-eqb (h.copy f) (h.copy e) q, w)
      (either_way (h.is_read e) (h.is_write e) (h.is_read f) u)
    where
      either_way : (r v s : Bool) → (r || v) ≡ true → ((((r || v) && true) && ((s || true) && true)) && (v || true)) ≡ true
      either_way r v s t = rw (t, or_right s true refl, or_right v true refl) refl

  -- two records in conflict are one for their transactions
  pub conflict_hit : (f : ℕ) → e < f → f < h.size → conflicting h e f ≡ true → conflict h (h.transaction e) (h.transaction f) ≡ true
  unfolding conflict gives_conflict
  conflict_hit f l m b =
      of_hit h (h.transaction e) (λ g. gives_conflict h g (h.transaction f)) e (omega (arith, l, m)) refl
      (after_hit h (h.transaction f) (conflicting h e) e f l m refl b)

  -- so in the words of what a pass from the end keeps: of any record, a read with the later writers of its copy, a write with its later
  -- users
  same_after : (j : ℕ) (p q : ℕ → Bool) → ((f : ℕ) → p f ≡ q f) → some_after h e j p ≡ some_from (e + 1) h.size (λ f. is_by h f j && q f)
  unfolding some_after
  same_after j p q s = λ i. some_from (e + 1) h.size (λ f. is_by h f j && s f i)

  none_conflicts : uses h e ≡ false → (j : ℕ) → gives_conflict h e j ≡ false
  unfolding gives_conflict
  none_conflicts u j = go (cases_Bool (some_after h e j (conflicting h e)))
    where
      go : (some_after h e j (conflicting h e) ≡ true) ⊎ (some_after h e j (conflicting h e) ≡ false) → some_after h e j (conflicting h e) ≡ false
      go (inl b) = let v = after_found h j (conflicting h e) e b in absurd (clash (conflicting h e v.at) v.passes (conflicts_with_none u v.at))
      go (inr b) = b

  pub conflicts_by_kind : (h.is_read e ≡ true → h.is_write e ≡ false) → (j : ℕ) (later_writers later_users : Bool)
      → later_writers ≡ some_from (e + 1) h.size (λ f. is_by h f j && writes_copy h f (h.copy e))
      → later_users ≡ some_from (e + 1) h.size (λ f. is_by h f j && uses_copy h f (h.copy e))
      → ((h.is_read e && later_writers) || (h.is_write e && later_users)) ≡ gives_conflict h e j
  unfolding gives_conflict
  conflicts_by_kind apart j later_writers later_users p q = go (cases_Bool (h.is_read e)) (cases_Bool (h.is_write e))
    where
      go : (h.is_read e ≡ true) ⊎ (h.is_read e ≡ false) → (h.is_write e ≡ true) ⊎ (h.is_write e ≡ false)
          → ((h.is_read e && later_writers) || (h.is_write e && later_users)) ≡ gives_conflict h e j
      go (inl r) w =
          rw (r, apart r)
          (or-false later_writers
          ∙ p
          ∙ sym (same_after j (conflicting h e) (λ f. writes_copy h f (h.copy e)) (conflicts_with_read r (apart r))))
      go (inr r) (inl w) = rw (r, w) (q ∙ sym (same_after j (conflicting h e) (λ f. uses_copy h f (h.copy e)) (conflicts_with_write w)))
      go (inr r) (inr w) = rw (r, w) (sym (none_conflicts (uses_none r w) j))
