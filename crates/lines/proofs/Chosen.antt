-- Laws of the rule's tests: who is a predecessor, who is ready, who is next.
use Rattle.std.proofs.Common.{ℕ, ◌<◌, ◌≡◌, refl, sym, ◌∙◌, ap, Bool, true, false, ◌&&◌, not, eqb, ne_eqb}
use Rattle.std.proofs.Math.Option.{none, some}
use Rattle.std.proofs.lemmas.Bool.{eqb-false, not-true, false_from_ne_true, and_from, and_parts}
use Rattle.sets.specs.Search.{some_below, without}
use borrow.Author.Clash.{clash}
use Rattle.sets.proofs.Searches.{None, First, first_some, first_found, some_none, none_some, first_view, first_none_below}
use Rattle.sets.proofs.Searches.{first_hit, first_miss, some_found}
use Rattle.sets.proofs.Counts.{without_other}
use Rattle.lines.specs.Rule.{predecessor, ready, next, lowest_predecessor}
use Rattle.lines.specs.Lines.{edge_within}

module _ (edge : ℕ → ℕ → Bool) where
  -- a predecessor among those left
  module _ (left : ℕ → Bool) (t s : ℕ) where
    pub predecessor_said : (left s && (not (eqb s t) && edge s t)) ≡ predecessor edge left t s
    unfolding predecessor
    predecessor_said = refl

    pub is_predecessor : left s ≡ true → (s ≡ t → ⊥) → edge s t ≡ true → predecessor edge left t s ≡ true
    is_predecessor l q e =
        sym predecessor_said
        ∙ and_from (left s) (not (eqb s t) && edge s t) l (and_from (not (eqb s t)) (edge s t) (ap not (ne_eqb s t q)) e)

    said : predecessor edge left t s ≡ true → (left s ≡ true) × ((not (eqb s t) && edge s t) ≡ true)
    said h =
        let e = predecessor_said ∙ h in
        ((and_parts (left s) (not (eqb s t) && edge s t) e).0, (and_parts (left s) (not (eqb s t) && edge s t) e).1)

    pub predecessor_left : predecessor edge left t s ≡ true → left s ≡ true
    predecessor_left h = (said h).0

    pub predecessor_other : predecessor edge left t s ≡ true → s ≡ t → ⊥
    predecessor_other h = eqb-false s t (not-true (eqb s t) (and_parts (not (eqb s t)) (edge s t) (said h).1).0)

    pub predecessor_edge : predecessor edge left t s ≡ true → edge s t ≡ true
    predecessor_edge h = (and_parts (not (eqb s t)) (edge s t) (said h).1).1

    -- without one of the three it is none
    pub not_predecessor : without left t s ≡ false → predecessor edge left t s ≡ false
    not_predecessor f =
        false_from_ne_true (predecessor edge left t s)
        (λ h. clash (without left t s) (without_other left t s (λ (q : t ≡ s). predecessor_other h (sym q)) ∙ predecessor_left h) f)

    pub no_edge_none : edge s t ≡ false → predecessor edge left t s ≡ false
    no_edge_none f = false_from_ne_true (predecessor edge left t s) (λ h. clash (edge s t) (predecessor_edge h) f)

  -- among more that are left, a predecessor is still one
  pub predecessor_more : (small large : ℕ → Bool) → ((s : ℕ) → small s ≡ true → large s ≡ true)
      → (t s : ℕ) → predecessor edge small t s ≡ true → predecessor edge large t s ≡ true
  predecessor_more small large m t s h =
      is_predecessor large t s (m s (predecessor_left small t s h)) (predecessor_other small t s h) (predecessor_edge small t s h)

  -- an edge between two different members
  module _ (set : ℕ → Bool) (s t : ℕ) where
    pub is_within : set s ≡ true → set t ≡ true → (s ≡ t → ⊥) → edge s t ≡ true → edge_within edge set s t ≡ true
    unfolding edge_within
    is_within a b q e =
        and_from (set s && set t) (not (eqb s t) && edge s t)
        (and_from (set s) (set t) a b)
        (and_from (not (eqb s t)) (edge s t) (ap not (ne_eqb s t q)) e)

    pub within_from : edge_within edge set s t ≡ true → set s ≡ true
    unfolding edge_within
    within_from h = (and_parts (set s) (set t) (and_parts (set s && set t) (not (eqb s t) && edge s t) h).0).0

    pub within_to : edge_within edge set s t ≡ true → set t ≡ true
    unfolding edge_within
    within_to h = (and_parts (set s) (set t) (and_parts (set s && set t) (not (eqb s t) && edge s t) h).0).1

    pub within_other : edge_within edge set s t ≡ true → s ≡ t → ⊥
    unfolding edge_within
    within_other h =
        eqb-false s t (not-true (eqb s t) (and_parts (not (eqb s t)) (edge s t) (and_parts (set s && set t) (not (eqb s t) && edge s t) h).1).0)

    pub within_edge : edge_within edge set s t ≡ true → edge s t ≡ true
    unfolding edge_within
    within_edge h = (and_parts (not (eqb s t)) (edge s t) (and_parts (set s && set t) (not (eqb s t) && edge s t) h).1).1

  -- the edges between members of a larger set
  pub within_more : (small large : ℕ → Bool) → ((t : ℕ) → small t ≡ true → large t ≡ true)
      → (s t : ℕ) → edge_within edge small s t ≡ true → edge_within edge large s t ≡ true
  within_more small large m s t h =
      is_within large s t (m s (within_from small s t h)) (m t (within_to small s t h)) (within_other small s t h) (within_edge small s t h)

  -- who is ready, and who is next
  module _ (n : ℕ) (left : ℕ → Bool) where
    pub is_ready : (t : ℕ) → left t ≡ true → None (predecessor edge left t) n → ready n edge left t ≡ true
    unfolding ready
    is_ready t l f =
        and_from (left t) (not (some_below n (predecessor edge left t))) l (ap not (some_none (predecessor edge left t) n f))

    pub ready_left : (t : ℕ) → ready n edge left t ≡ true → left t ≡ true
    unfolding ready
    ready_left t h = (and_parts (left t) (not (some_below n (predecessor edge left t))) h).0

    pub ready_free : (t : ℕ) → ready n edge left t ≡ true → None (predecessor edge left t) n
    unfolding ready
    ready_free t h =
        none_some (predecessor edge left t) n
        (not-true (some_below n (predecessor edge left t)) (and_parts (left t) (not (some_below n (predecessor edge left t))) h).1)

    pub not_ready_out : (t : ℕ) → left t ≡ false → ready n edge left t ≡ false
    unfolding ready
    not_ready_out t f = rw f refl

    pub not_ready_waits : (t s : ℕ) → s < n → predecessor edge left t s ≡ true → ready n edge left t ≡ false
    not_ready_waits t s l h = false_from_ne_true (ready n edge left t) (λ e. clash (predecessor edge left t s) h (ready_free t e s l))

    pub next_hit : (t : ℕ) → t < n → None (ready n edge left) t → ready n edge left t ≡ true → next n edge left ≡ some t
    unfolding next
    next_hit t l f r = first_hit (ready n edge left) n t l f r

    pub next_view : First (ready n edge left) n (next n edge left)
    unfolding next
    next_view = first_view (ready n edge left) n

    -- the one that is next
    pub record IsNext (t : ℕ) : Type 0 where
      pub below : t < n
      pub is_left : left t ≡ true

    pub next_is : (t : ℕ) → next n edge left ≡ some t → IsNext t
    unfolding next
    next_is t e = go (first_found (ready n edge left) n e)
      where
        go : First (ready n edge left) n (some t) → IsNext t
        go (first_some l r f) = record { below = l; is_left = ready_left t r }

    pub next_none : next n edge left ≡ none → None (ready n edge left) n
    unfolding next
    next_none e = first_none_below (ready n edge left) n e

    pub none_next : None (ready n edge left) n → next n edge left ≡ none
    unfolding next
    none_next h = first_miss (ready n edge left) n h

    -- one that is left and not ready waits for a predecessor
    pub waiting : (t : ℕ) → left t ≡ true → ready n edge left t ≡ false → (s : ℕ) × (predecessor edge left t s ≡ true)
    waiting t l f = go (some_below n (predecessor edge left t)) refl
      where
        go : (b : Bool) → some_below n (predecessor edge left t) ≡ b → (s : ℕ) × (predecessor edge left t s ≡ true)
        go true e = let w = some_found (predecessor edge left t) n e in (w.0, w.2)
        go false e = absurd (clash (ready n edge left t) (is_ready t l (none_some (predecessor edge left t) n e)) f)

    -- the lowest-numbered predecessor of t
    module _ (t : ℕ) where
      pub lowest_view : First (predecessor edge left t) n (lowest_predecessor n edge left t)
      unfolding lowest_predecessor
      lowest_view = first_view (predecessor edge left t) n

      pub lowest_hit : (s : ℕ) → s < n → None (predecessor edge left t) s → predecessor edge left t s ≡ true
          → lowest_predecessor n edge left t ≡ some s
      unfolding lowest_predecessor
      lowest_hit s l f h = first_hit (predecessor edge left t) n s l f h

      pub record IsLowestPredecessor (s : ℕ) : Type 0 where
        pub below : s < n
        pub precedes : predecessor edge left t s ≡ true

      pub lowest_is : (s : ℕ) → lowest_predecessor n edge left t ≡ some s → IsLowestPredecessor s
      lowest_is s e = go (rw e at lowest_view)
        where
          go : First (predecessor edge left t) n (some s) → IsLowestPredecessor s
          go (first_some l h f) = record { below = l; precedes = h }
