-- What `(0..n).rev().find(test)` finds: the last number below n that passes the test.
use Rattle.std.proofs.Common.{ℕ, ◌+◌, ◌-◌, ◌<◌, ◌≤◌, arith, ◌≡◌, refl, sym, ◌∙◌, ap, subst, Bool, true, false, List, [], ◌∷◌}
use Rattle.std.proofs.Math.Decide.{dec_lt}
use denote.Ref.{Bor}
use denote.Param.Members.{Mut}
use Rattle.std.specs.Prelude.{Some, None, Option as Found}
use Rattle.std.specs.declared.iter.Rev.{Rev}
use Rattle.std.specs.declared.ops.Range.{Range}
use Rattle.std.specs.Option.{IfSome, MatchOption}
use Rattle.std.specs.Iterator.{Yields, FindsItem}
use Rattle.std.specs.Iterator.Adapters.{rev_source, rev_steps}
use Rattle.std.specs.List.{FoldsTo}
use Rattle.std.specs.Fn.{CalledAt}
use Rattle.sets.specs.Search.{last_below, found_says}
use Rattle.sets.proofs.Searches.{last_hit, last_miss}

-- a call of `next` at the range turned round: its end moves down by one and comes
abbrev Step : Rev (Range ℕ) → Found ℕ → Rev (Range ℕ) → Type 0
Step =
    rev_steps (λ (s : Range ℕ) r (t : Range ℕ). (t.start ≡ s.start)
    × MatchOption r ((s.end - s.start ≡ 0) × (t.end ≡ s.end)) (λ x. (0 < s.end - s.start) × (x ≡ t.end) × (s.end ≡ t.end + 1)))

abbrev start : Rev (Range ℕ) → ℕ
start s = (rev_source s).start

abbrev end : Rev (Range ℕ) → ℕ
end s = (rev_source s).end

-- a closure that computes the test p and changes nothing
module _ {F : Type 0} {g : Mut F (Bor ℕ × Unit {0}) Bool} (p : ℕ → Bool) (f : F)
    (computes : (x : ℕ) (b : Bool) (q : F) → CalledAt g f x b q → (q ≡ f) × (b ≡ p x)) where
  answers : (x : ℕ) (b : Bool) (q e : F) → e ≡ f → CalledAt g e x b q → (q ≡ f) × (b ≡ p x)
  answers x b q e h c = computes x b q (subst (λ (z : F). CalledAt g z x b q) h c)

  -- the numbers that have come do not pass
  record Walked (s t : Rev (Range ℕ)) (j : F) : Type 0 where
    begins : start t ≡ start s
    ends : end t ≤ end s
    same : j ≡ f
    none : (i : ℕ) → end t ≤ i → i < end s → p i ≡ false

  -- one more before them
  one_more : (x : ℕ) (s u t : Rev (Range ℕ)) (j : F) → Step s (Some x) u → p x ≡ false → Walked u t j → Walked s t j
  one_more x s u t j step fails w =
      record { begins = w.begins ∙ step.0; ends = omega (arith, w.ends, step); same = w.same; none = λ i m l. go i m l (dec_lt i x) }
    where
      go : (i : ℕ) → end t ≤ i → i < end s → Dec (i < x) → p i ≡ false
      go i m l (yes z) = w.none i m (omega (arith, step))
      go i m l (no z) = ap p (omega (arith, step, z, l)) ∙ fails

  walked : (xs : List ℕ) (s t : Rev (Range ℕ)) (e j : F) → e ≡ f → Yields Step s xs t → FoldsTo (λ a x q. CalledAt g a x false q) e xs j → Walked s t j
  walked [] s t e j h y d =
      record { begins = ap start (sym y); ends = omega (arith, ap end y); same = sym d ∙ h; none = λ i m l. absurd (omega (arith, ap end y)) }
  walked (x ∷ xs) s t e j h y d =
      let here = answers x false d.0 e h d.1 in
      one_more x s y.0 t j y.1 (sym here.1) (walked xs y.0 t d.0 j here.0 y.2 d.2)

  pub last_found : (n : ℕ) (s u : Rev (Range ℕ)) (r : Found ℕ) → rev_source s ≡ record { start = 0; end = n } → FindsItem Step g s f r u
      → found_says r ≡ last_below n p
  last_found n s u r e d = go r d.2.2 d.4
    where
      w : Walked s d.2.0 d.1
      w = walked d.0 s d.2.0 f d.1 refl d.2.1 d.3

      from : start d.2.0 ≡ 0
      from = w.begins ∙ ap (λ (x : Range ℕ). x.start) e

      to : end s ≡ n
      to = ap (λ (x : Range ℕ). x.end) e

      go : (o : Found ℕ) → Step d.2.0 o u → IfSome o (λ x. (h : F) × CalledAt g d.1 x true h) → found_says o ≡ last_below n p
      go (Some x) z c =
          sym (last_hit p n x (omega (arith, w.ends, to, z)) (λ i m l. w.none i (omega (arith, z)) (omega (arith, to)))
          (sym (answers x true c.0 d.1 w.same c.1).1))
      go None z c = sym (last_miss p n (λ i l. w.none i (omega (arith, from, z)) (omega (arith, to))))
