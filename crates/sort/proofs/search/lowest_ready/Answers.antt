-- `sort::search::lowest_ready` meets its contract. The laws in SearchLoop say how its state goes on; here each step of the code is one of
-- theirs.
use Rattle.std.proofs.lemmas.List.{get_or_default}
use Rattle.std.proofs.Common.{List, length, get_or, ap, ◌≡◌, ℕ, ◌<◌, ◌≤◌, ◌&&◌, not, eqb, Bool, false, sym, ◌∙◌, subst, arith}
use Rattle.std.proofs.Math.Option.{some, none}
use Rattle.sets.specs.Bits.{numbers, has, in_row}
use Rattle.sets.specs.Search.{next_from, without}
use Rattle.sort.proofs.Waits.{FirstFrom, first_found, none_found_from, taken}
use Rattle.sort.proofs.SearchLoop.{look_start, look_on, tried_one, finds_none, finds_one}
use Rattle.sort.proofs.search.lowest_ready.Goals as goal

-- what is found among the others that are left
module _ (left others t : ℕ) (out : (s : ℕ) → has others s ≡ (has left s && not (eqb t s))) where
  other_found : (k : ℕ) {r : ℕ} → some r ≡ next_from k numbers (has others) → FirstFrom (without (has left) t) k r
  other_found k {r} e = subst (λ (p : ℕ → Bool). FirstFrom p k r) (taken left others t out) (first_found (has others) k e)

  no_other : (k : ℕ) → none ≡ next_from k numbers (has others) → (s : ℕ) → k ≤ s → s < numbers → without (has left) t s ≡ false
  no_other k e =
      none_found_from (without (has left) t) k (subst (λ (p : ℕ → Bool). none ≡ next_from k numbers p) (taken left others t out) e)

-- the edge that was read
edge_read : (table : List ℕ) (s t d : ℕ) {b : Bool} → has (get_or table s d) t ≡ b → s < length table → in_row table s t ≡ b
edge_read table s t d e l = ap (λ (x : ℕ). has x t) (get_or_default table s 0 d l) ∙ e

pub loop-s-init : goal.loop-s-init
loop-s-init c = rw c.whom-from.ensures.said (look_start _ _ c.search.invariant (first_found _ _ c.in-Some.ensures.found))

pub search-preserved : goal.search-preserved
search-preserved c =
    let other = other_found _ _ _ c.without-others.ensures _ c.in-Some-next_from.ensures.found in
    tried_one _ _ c.loop-s.invariant other c.wait_for.ensures
    (edge_read c.args.table.now _ _ _ (sym c.has.ensures ∙ c.if-has.true) (omega (arith, other.below)))

pub loop-s-preserved : goal.loop-s-preserved
loop-s-preserved c =
    let other = other_found _ _ _ c.without-others.ensures _ c.in-Some-next_from.ensures.found in
    look_on _ _ c.loop-s.invariant other (edge_read c.args.table.now _ _ _ (sym c.has.ensures ∙ c.if-has.false) (omega (arith, other.below)))

-- none is left that was not tried
pub returns-in_default : goal.returns-in_default
returns-in_default c = finds_none _ _ c.search.invariant c.in_default.ensures.low (none_found_from _ _ c.in_default.ensures.found)

-- t has no predecessor left
pub returns-in_default-next_from : goal.returns-in_default-next_from
returns-in_default-next_from c =
    let first = first_found _ _ c.in-Some.ensures.found in
    finds_one _ _ c.loop-s.invariant first.below first.passes
    (no_other _ _ _ c.without-others.ensures _ c.in_default-next_from.ensures.found)
