-- The two laws of the write order: of two different writers of an item one comes first, and not the other too. Nothing leans on its being
-- transitive.
use Rattle.std.proofs.Common.{ℕ, ◌<◌, arith, ◌≡◌, refl, sym, ◌∙◌, ap, ap₂, subst, Bool, true, not, ◌&&◌, true≢false, ◌⊎◌, inl, inr, eqb, ne_eqb}
use Rattle.std.proofs.Common.{lt-ltb, ltb-true}
use Rattle.std.proofs.Math.Decide.{ℕ_discrete, dec_lt}
use Rattle.std.proofs.Math.Option.{Option, none, some}
use Rattle.std.proofs.lemmas.Bool.{eqb-false, not-true, and_from, and_parts}
use Rattle.sets.proofs.Truth.{same_truth}
use Rattle.histories.specs.History.{History}
use Rattle.histories.specs.Earlier.{some_of, some_after, first_of, writes, Writer}
use Rattle.histories.specs.Order.{earlier, comes_before, writer_after}
use Rattle.histories.specs.Faults.{CommitsOnce}
use Rattle.histories.specs.Sound.{Sound}
use Rattle.histories.proofs.OfTransactions.{of_found, of_hit, after_found, after_hit, first_of_found, first_of_some}

-- two records, of which each would stand earlier than the other
not_both_earlier : (o p : Option ℕ) → earlier o p ≡ true → earlier p o ≡ true → ⊥
not_both_earlier (some e) (some f) a b = omega (arith, ltb-true e f a, ltb-true f e b)
not_both_earlier (some e) none a b = true≢false (sym a)
not_both_earlier none p a b = true≢false (sym a)

module _ (h : History) where
  -- LAW: of two different writers of an item, in a sound history, one comes first ..
  pub one_comes_first : Sound h → (x i j : ℕ) → Writer h x i → Writer h x j → (i ≡ j → ⊥)
      → (comes_before h x i j ≡ true) ⊎ (comes_before h x j i ≡ true)
  unfolding comes_before
  one_comes_first sound x i j v w d =
      let c = sound.commits i v.part in
      let e = sound.commits j w.part in
      go c.at e.at c.first e.first (dec_lt c.at e.at) (ℕ_discrete c.at e.at)
    where
      by_firsts : (a b : ℕ) → a < b → (k l : ℕ) → first_of h k h.is_commit ≡ some a → first_of h l h.is_commit ≡ some b
          → earlier (first_of h k h.is_commit) (first_of h l h.is_commit) ≡ true
      by_firsts a b m k l p q = ap₂ earlier p q ∙ lt-ltb a b m

      go : (a b : ℕ) → first_of h i h.is_commit ≡ some a → first_of h j h.is_commit ≡ some b → Dec (a < b) → Dec (a ≡ b)
          → (earlier (first_of h i h.is_commit) (first_of h j h.is_commit) ≡ true) ⊎ (earlier (first_of h j h.is_commit) (first_of h i h.is_commit) ≡ true)
      go a b p q (yes l) e = inl (by_firsts a b l i j p q)
      go a b p q (no l) (no e) = inr (by_firsts b a (omega (arith, l, e)) j i q p)
      go a b p q (no l) (yes e) =
          absurd (d (sym (first_of_found h i h.is_commit a p).own ∙ ap h.transaction e ∙ (first_of_found h j h.is_commit b q).own))

  -- .. and not the other too; so none comes before itself
  pub only_one_first : (x i j : ℕ) → comes_before h x i j ≡ true → comes_before h x j i ≡ true → ⊥
  unfolding comes_before
  only_one_first x i j p q = not_both_earlier (first_of h i h.is_commit) (first_of h j h.is_commit) p q

  -- The order as a pass over the records finds it: some commit of i stands before some commit of j. Where nobody commits twice, these are
  -- the first ones.
  module _ (once : CommitsOnce h) (x i j : ℕ) where
    abbrev commits_before : Bool
    commits_before = some_of h i (λ d. h.is_commit d && some_after h d j h.is_commit)

    pub order_by_commits : commits_before ≡ comes_before h x i j
    unfolding comes_before
    order_by_commits = same_truth commits_before (comes_before h x i j) ahead (back (first_of h i h.is_commit) refl (first_of h j h.is_commit) refl)
      where
        firsts : (c d : ℕ) → c < d → d < h.size → h.is_commit c ≡ true → h.is_commit d ≡ true → h.transaction c ≡ i → h.transaction d ≡ j
            → (a b : ℕ) → first_of h i h.is_commit ≡ some a → first_of h j h.is_commit ≡ some b
            → earlier (first_of h i h.is_commit) (first_of h j h.is_commit) ≡ true
        firsts c d l m p q o r a b f g =
            let v = first_of_found h i h.is_commit a f in
            let w = first_of_found h j h.is_commit b g in
            let same_c = once a c v.there (omega (arith, l, m)) v.passes p (v.own ∙ sym o) in
            let same_d = once b d w.there m w.passes q (w.own ∙ sym r) in
            ap₂ earlier f g ∙ lt-ltb a b (omega (arith, same_c, same_d, l))

        ahead : commits_before ≡ true → earlier (first_of h i h.is_commit) (first_of h j h.is_commit) ≡ true
        ahead b =
            let v = of_found h i (λ d. h.is_commit d && some_after h d j h.is_commit) b in
            let c = v.at in
            let commits = (and_parts (h.is_commit c) (some_after h c j h.is_commit) v.passes).0 in
            let w = after_found h j h.is_commit c (and_parts (h.is_commit c) (some_after h c j h.is_commit) v.passes).1 in
            let f = first_of_some h i h.is_commit c v.before v.own commits in
            let g = first_of_some h j h.is_commit w.at w.there w.own w.passes in
            firsts c w.at w.after w.there commits w.passes v.own w.own f.first g.first f.is_first g.is_first

        back : (o : Option ℕ) → first_of h i h.is_commit ≡ o → (p : Option ℕ) → first_of h j h.is_commit ≡ p → earlier o p ≡ true → commits_before ≡ true
        back (some a) f (some b) g e =
            let v = first_of_found h i h.is_commit a f in
            let w = first_of_found h j h.is_commit b g in
            of_hit h i (λ d. h.is_commit d && some_after h d j h.is_commit) a v.there v.own
            (and_from (h.is_commit a) (some_after h a j h.is_commit) v.passes
            (after_hit h j h.is_commit a b (ltb-true a b e) w.there w.own w.passes))
        back (some a) f none g e = absurd (true≢false (sym e))
        back none f p g e = absurd (true≢false (sym e))

-- a writer that comes after s, taken apart and put together
module _ (h : History) (x s j : ℕ) where
  pub record WriterAfter : Type 0 where
    pub wrote : writes h j x ≡ true
    pub other : j ≡ s → ⊥
    pub comes_after : comes_before h x s j ≡ true

  pub writer_after_found : writer_after h x s j ≡ true → WriterAfter
  unfolding writer_after
  writer_after_found b =
      let both = (and_parts (writes h j x && not (eqb j s)) (comes_before h x s j) b).0 in
      record {
        wrote = (and_parts (writes h j x) (not (eqb j s)) both).0;
        other = eqb-false j s (not-true (eqb j s) (and_parts (writes h j x) (not (eqb j s)) both).1);
        comes_after = (and_parts (writes h j x && not (eqb j s)) (comes_before h x s j) b).1;
      }

  pub writer_after_hit : WriterAfter → writer_after h x s j ≡ true
  unfolding writer_after
  writer_after_hit w = rw (w.wrote, ne_eqb j s w.other, w.comes_after) refl

  -- nobody comes before itself, so who writes and comes after s is another
  pub writer_after_plain : (writes h j x && comes_before h x s j) ≡ writer_after h x s j
  writer_after_plain = same_truth (writes h j x && comes_before h x s j) (writer_after h x s j) ahead back
    where
      ahead : (writes h j x && comes_before h x s j) ≡ true → writer_after h x s j ≡ true
      ahead b =
          let c = (and_parts (writes h j x) (comes_before h x s j) b).1 in
          writer_after_hit (record { wrote = (and_parts (writes h j x) (comes_before h x s j) b).0; other = other c; comes_after = c })
        where
          other : comes_before h x s j ≡ true → j ≡ s → ⊥
          other c q = let d = subst (λ (t : ℕ). comes_before h x t j ≡ true) (sym q) c in only_one_first h x j j d d

      back : writer_after h x s j ≡ true → (writes h j x && comes_before h x s j) ≡ true
      back b = let v = writer_after_found b in and_from (writes h j x) (comes_before h x s j) v.wrote v.comes_after
