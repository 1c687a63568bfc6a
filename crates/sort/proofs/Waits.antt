-- Laws of the predecessors that are kept: at first none is known, one that is found is stored, and those left become fewer. And what the
-- sets' own methods find and take out, as the rule has it.
use Prim.Native.Nat.{ℕ, ◌+◌, ◌<◌, ◌≤◌}
use native.Mathlib.Omega.{arith}
use native.Mathlib.Decide.{ℕ_discrete}
use mathlib.Core.Path.{◌≡◌, refl, sym, ◌∙◌, subst, fun_ext}
use mathlib.Core.Bool.{Bool, true, false, ◌&&◌, not, cond}
use mathlib.Core.List.{List}
use mathlib.Core.Option.{Option, none, some, some-ne-none, some-injective}
use lib.Dec.{eqb}
use borrow.Author.Tests.{eq-eqb, ne_eqb}
use Rattle.sets.specs.Bits.{numbers, has}
use Rattle.sets.specs.Search.{next_from, without}
use Rattle.std.proofs.lemmas.Bool.{false_from_ne_true}
use borrow.Author.Clash.{clash}
use Rattle.sets.proofs.From.{NextFrom, next_miss, next_hit, next_view}
use Rattle.sets.proofs.Counts.{without_said}
use Rattle.lines.specs.Rule.{predecessor, lowest_predecessor}
use Rattle.cycles.specs.WaitsFor.{whom}
use Rattle.sort.specs.Searched.{Searched}
use Rattle.lines.proofs.Chosen.{predecessor_more}
use Rattle.lines.proofs.Waiting.{Free, Tried}

-- a set with one taken out, as the rule has it
pub taken : (left fewer t : ℕ) → ((s : ℕ) → has fewer s ≡ (has left s && not (eqb t s))) → has fewer ≡ without (has left) t
taken left fewer t h = fun_ext (λ s. h s ∙ without_said (has left) t s)

-- what a search from k on found: the first there that passes
pub record FirstFrom (p : ℕ → Bool) (k r : ℕ) : Type 0 where
  pub from : k ≤ r
  pub below : r < numbers
  pub passes : p r ≡ true
  pub none_before : (e : ℕ) → k ≤ e → e < r → p e ≡ false

pub first_found : (p : ℕ → Bool) (k : ℕ) {r : ℕ} → some r ≡ next_from k numbers p → FirstFrom p k r
first_found p k {r} e = go (next_from k numbers p) (next_view p k numbers) (sym e)
  where
    go : (o : Option ℕ) → NextFrom p k numbers o → o ≡ some r → FirstFrom p k r
    go none (next_miss f) q = absurd (some-ne-none r (sym q))
    go (some q) (next_hit m l h f) e =
        subst (FirstFrom p k) (some-injective q r e) record { from = m; below = l; passes = h; none_before = f }

pub found_after : (p : ℕ → Bool) (k r : ℕ) → some r ≡ next_from k numbers p → k ≤ r
found_after p k r e = (first_found p k e).from

pub found_low : (p : ℕ → Bool) (k r : ℕ) → some r ≡ next_from k numbers p → r < numbers
found_low p k r e = (first_found p k e).below

-- or nothing, where none does
pub none_found_from : (p : ℕ → Bool) (k : ℕ) → none ≡ next_from k numbers p → (e : ℕ) → k ≤ e → e < numbers → p e ≡ false
none_found_from p k e = go (next_from k numbers p) (next_view p k numbers) (sym e)
  where
    go : (o : Option ℕ) → NextFrom p k numbers o → o ≡ none → (e : ℕ) → k ≤ e → e < numbers → p e ≡ false
    go none (next_miss f) q = f
    go (some r) (next_hit m l h f) q = absurd (some-ne-none r q)

-- t now waits for s, and every other for whom it did
module _ (old new : List ℕ) (t s : ℕ) (now : (u : ℕ) → whom new u ≡ cond (eqb t u) s (whom old u)) where
  now_waits : (P : ℕ → ℕ → Type 0) → P t s → ((u : ℕ) → (u ≡ t → ⊥) → P u (whom old u)) → (u : ℕ) → P u (whom new u)
  now_waits P own others u = subst (P u) (sym (now u)) (go (ℕ_discrete u t))
    where
      go : Dec (u ≡ t) → P u (cond (eqb t u) s (whom old u))
      go (yes q) = rw (q, eq-eqb t t refl) own
      go (no q) = rw (ne_eqb t u (λ (e : t ≡ u). q (sym e))) (others u q)

  module _ (edge : ℕ → ℕ → Bool) (left : ℕ → Bool) where
    pub searched_store : Searched edge left old → Free numbers edge left t s → Searched edge left new
    searched_store searched free =
        now_waits (λ u w. (e : ℕ) → e < w → predecessor edge left u e ≡ false) free (λ u q. searched u)

    pub tried_store : Tried numbers edge left (whom old) t → lowest_predecessor numbers edge left t ≡ some s
        → Tried numbers edge left (whom new) (t + 1)
    tried_store tried e =
        now_waits (λ u w. u < t + 1 → left u ≡ true → lowest_predecessor numbers edge left u ≡ some w) (λ l h. e)
        (λ u q l h. tried u (omega (arith, l, q)) h)

-- at first none is known to wait
pub searched_start : (waits : List ℕ) → ((t : ℕ) → whom waits t ≡ 0) → (edge : ℕ → ℕ → Bool) (left : ℕ → Bool) → Searched edge left waits
searched_start waits blank edge left t s l = absurd (omega (arith, l, blank t))

-- those left become fewer
pub searched_fewer : (edge : ℕ → ℕ → Bool) (left fewer : ℕ → Bool) (waits : List ℕ) → ((s : ℕ) → fewer s ≡ true → left s ≡ true)
    → Searched edge left waits → Searched edge fewer waits
searched_fewer edge left fewer waits m p t s l =
    false_from_ne_true (predecessor edge fewer t s) (λ h. clash (predecessor edge left t s) (predecessor_more edge fewer left m t s h) (p t s l))
