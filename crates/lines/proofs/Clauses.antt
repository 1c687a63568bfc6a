-- The rule's own steps, as laws: what is placed and who is left, a step of the walk, and how the sort ends. Nothing else opens these
-- definitions.
use Rattle.std.proofs.Common.{ℕ, zero, suc, ◌<◌, ◌≡◌, refl, ◌∙◌, Bool, true, false, cond, List, [], ◌∷◌}
use Rattle.std.proofs.Math.Option.{Option, none, some}
use mathlib.Core.Option.{Option-elim}
use Rattle.sets.proofs.Searches.{None, first_hit, first_miss}
use Rattle.sets.specs.Search.{without}
use Rattle.lines.specs.Rule.{among, next, placed, rest, lowest_predecessor, walk, to_lowest, cycle_from, up_to}
use Rattle.lines.specs.Rule.{sorted, line, cycle}

module _ (n : ℕ) (edge : ℕ → ℕ → Bool) where
  -- what is placed, and who is left
  pub placed_zero : (left : ℕ → Bool) → placed n edge zero left ≡ []
  unfolding placed
  placed_zero left = refl

  pub placed_none : (m : ℕ) (left : ℕ → Bool) → next n edge left ≡ none → placed n edge m left ≡ []
  unfolding placed Option-elim
  placed_none zero left e = refl
  placed_none (suc m) left e = rw e refl

  pub placed_some : (m : ℕ) (left : ℕ → Bool) (t : ℕ) → next n edge left ≡ some t
      → placed n edge (suc m) left ≡ t ∷ placed n edge m (without left t)
  unfolding placed Option-elim
  placed_some m left t e = rw e refl

  pub rest_zero : (left : ℕ → Bool) → rest n edge zero left ≡ left
  unfolding rest
  rest_zero left = refl

  pub rest_none : (m : ℕ) (left : ℕ → Bool) → next n edge left ≡ none → rest n edge m left ≡ left
  unfolding rest Option-elim
  rest_none zero left e = refl
  rest_none (suc m) left e = rw e refl

  pub rest_some : (m : ℕ) (left : ℕ → Bool) (t : ℕ) → next n edge left ≡ some t → rest n edge (suc m) left ≡ rest n edge m (without left t)
  unfolding rest Option-elim
  rest_some m left t e = rw e refl

  -- none is left: a line; one is: a cycle from the lowest-numbered one
  module _ (set : ℕ → Bool) where
    pub sorted_line : None (rest n edge n set) n → sorted n edge set ≡ line (placed n edge n set)
    unfolding sorted Option-elim
    sorted_line f = rw (first_miss (rest n edge n set) n f) refl

    pub sorted_cycle : (t : ℕ) → t < n → None (rest n edge n set) t → rest n edge n set t ≡ true
        → sorted n edge set ≡ cycle (to_lowest (walk (lowest_predecessor n edge (rest n edge n set)) n t (t ∷ [])))
    unfolding sorted cycle_from Option-elim
    sorted_cycle t l f h = rw (first_hit (rest n edge n set) n t l f h) refl

-- a step of the walk
module _ (back : ℕ → Option ℕ) where
  pub walk_zero : (t : ℕ) (path : List ℕ) → walk back zero t path ≡ []
  unfolding walk
  walk_zero t path = refl

  pub walk_lost : (m t : ℕ) (path : List ℕ) → back t ≡ none → walk back (suc m) t path ≡ []
  unfolding walk Option-elim
  walk_lost m t path e = rw e refl

  pub walk_steps : (m t s : ℕ) (path : List ℕ) → back t ≡ some s
      → walk back (suc m) t path ≡ cond (among path s) (up_to s path) (walk back m s (s ∷ path))
  unfolding walk Option-elim
  walk_steps m t s path e = rw e refl

  pub walk_ends : (m t s : ℕ) (path : List ℕ) → back t ≡ some s → among path s ≡ true
      → walk back (suc m) t path ≡ up_to s path
  walk_ends m t s path e a = walk_steps m t s path e ∙ rw a refl

  pub walk_goes : (m t s : ℕ) (path : List ℕ) → back t ≡ some s → among path s ≡ false
      → walk back (suc m) t path ≡ walk back m s (s ∷ path)
  walk_goes m t s path e a = walk_steps m t s path e ∙ rw a refl
