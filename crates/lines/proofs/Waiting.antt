-- Who waits for whom, told number by number: one that is left is ready where no predecessor of it is left, and else the first that has an
-- edge to it is its lowest predecessor. So a search that goes through those left from the lowest on finds the one that is next.
use Rattle.std.proofs.Common.{ℕ, ◌+◌, ◌<◌, arith, ◌≡◌, refl, sym, Bool, true, false, ◌≤◌}
use Rattle.std.proofs.Math.Decide.{ℕ_discrete, dec_lt}
use Rattle.std.proofs.Math.Option.{none, some}
use Rattle.sets.specs.Search.{without}
use borrow.Author.Clash.{clash}
use Rattle.sets.proofs.Counts.{is_another, passed_before}
use Rattle.lines.specs.Rule.{predecessor, ready, next, lowest_predecessor}
use Rattle.lines.proofs.Chosen.{is_predecessor, not_predecessor, no_edge_none, is_ready, not_ready_out, not_ready_waits, next_hit, none_next}
use Rattle.lines.proofs.Chosen.{lowest_hit, lowest_is}

module _ (n : ℕ) (edge : ℕ → ℕ → Bool) (left : ℕ → Bool) where
  -- none of t's predecessors below k is left
  abbrev pub Free : ℕ → ℕ → Type 0
  Free t k = (s : ℕ) → s < k → predecessor edge left t s ≡ false

  -- each one left below k waits, for the one that is known of it
  abbrev pub Tried : (ℕ → ℕ) → ℕ → Type 0
  Tried known k = (t : ℕ) → t < k → left t ≡ true → lowest_predecessor n edge left t ≡ some (known t)

  -- and up to r, where none of the others from k to r is left
  pub free_on : (t k r : ℕ) → Free t k → ((s : ℕ) → k ≤ s → s < r → without left t s ≡ false) → Free t r
  free_on t k r free none_before s l = go (dec_lt s k)
    where
      go : Dec (s < k) → predecessor edge left t s ≡ false
      go (yes m) = free s m
      go (no m) = not_predecessor edge left t s (none_before s (omega (arith, m)) l)

  -- and past one that has no edge to t
  pub free_past : (t s : ℕ) → Free t s → edge s t ≡ false → Free t (s + 1)
  free_past t s free no_edge u l = go (ℕ_discrete u s)
    where
      go : Dec (u ≡ s) → predecessor edge left t u ≡ false
      go (yes q) = rw q (no_edge_none edge left t s no_edge)
      go (no q) = free u (omega (arith, l, q))

  -- the first that has one is the lowest predecessor
  pub first_is_lowest : (t s : ℕ) → Free t s → s < n → without left t s ≡ true → edge s t ≡ true → lowest_predecessor n edge left t ≡ some s
  first_is_lowest t s free low other is_edge =
      lowest_hit edge n left t s low free
      (is_predecessor edge left t s (passed_before left t s other) (λ (q : s ≡ t). is_another left t s other (sym q)) is_edge)

  -- one that has a lowest predecessor is not ready
  waits_not_ready : (t s : ℕ) → lowest_predecessor n edge left t ≡ some s → ready n edge left t ≡ false
  waits_not_ready t s e = let w = lowest_is edge n left t s e in not_ready_waits edge n left t s w.below w.precedes

  tried_not_ready : (known : ℕ → ℕ) (k t : ℕ) → Tried known k → t < k → ready n edge left t ≡ false
  tried_not_ready known k t tried l = go (left t) refl
    where
      go : (b : Bool) → left t ≡ b → ready n edge left t ≡ false
      go true h = waits_not_ready t (known t) (tried t l h)
      go false h = not_ready_out edge n left t h

  -- and up to r, where none from k to r is left
  pub tried_on : (known : ℕ → ℕ) (k r : ℕ) → Tried known k → ((t : ℕ) → k ≤ t → t < r → left t ≡ false) → Tried known r
  tried_on known k r tried none_before t l h = go (dec_lt t k)
    where
      go : Dec (t < k) → lowest_predecessor n edge left t ≡ some (known t)
      go (yes m) = tried t m h
      go (no m) = absurd (clash (left t) h (none_before t (omega (arith, m)) l))

  -- all before t were tried in vain, and t has no predecessor left: t is next
  pub ready_found : (known : ℕ → ℕ) (t : ℕ) → Tried known t → t < n → left t ≡ true → Free t n → next n edge left ≡ some t
  ready_found known t tried low is_left free =
      next_hit edge n left t low (λ u m. tried_not_ready known t u tried m) (is_ready edge n left t is_left free)

  -- all were tried in vain: none is next
  pub none_found : (known : ℕ → ℕ) → Tried known n → next n edge left ≡ none
  none_found known tried = none_next edge n left (λ t l. tried_not_ready known n t tried l)
