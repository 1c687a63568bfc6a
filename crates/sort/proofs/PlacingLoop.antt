-- The state of the placing. While the line is made, what is still to be placed is what the rule places from those left.
use Prim.Native.Nat.{ℕ, suc, ◌+◌, ◌-◌, ◌<◌, ◌≤◌}
use native.Mathlib.Omega.{arith}
use mathlib.Core.Path.{◌≡◌, sym, ◌∙◌, ap, subst}
use mathlib.Core.Bool.{Bool}
use mathlib.Core.List.{List, [], ◌∷◌, ◌++◌}
use mathlib.Core.Option.{none, some}
use lib.ListN.{length, length-append}
use Rattle.std.proofs.Common.{append_assoc, append-nil}
use Rattle.std.specs.Prelude.{Some, None}
use Rattle.sets.specs.Bits.{numbers}
use Rattle.sets.specs.Search.{count_below, without}
use Rattle.sets.proofs.Counts.{count_low, count_some, count_without, passed_before}
use Rattle.lines.specs.Rule.{next, placed, rest}
use Rattle.lines.proofs.Chosen.{next_is}
use Rattle.lines.proofs.Clauses.{placed_none, placed_some, rest_none, rest_some}
use Rattle.sort.specs.Searched.{Searched}
use Rattle.sort.specs.Promises.{FindsReady, PlacesAll}
use Rattle.sort.proofs.Waits.{searched_fewer}

-- n places
module _ (n : ℕ) (edge : ℕ → ℕ → Bool) (all : ℕ → Bool) where
  -- the line so far, and what the rule places from those left, is what it places of all
  pub record ToPlace (line : List ℕ) (left : ℕ → Bool) : Type 0 where
    pub fits : length line ≤ n
    pub enough : count_below n left ≤ n - length line
    pub same_rest : rest n edge (n - length line) left ≡ rest n edge n all
    pub same_line : line ++ placed n edge (n - length line) left ≡ placed n edge n all

  pub place_start : ToPlace [] all
  place_start =
      record {
        fits = omega arith;
        enough = omega (arith, count_low all n);
        same_rest = ap (λ (m : ℕ). rest n edge m all) whole;
        same_line = ap (λ (m : ℕ). placed n edge m all) whole;
      }
    where
      whole : n - length {A = ℕ} [] ≡ n
      whole = omega arith

  module _ {line : List ℕ} {left : ℕ → Bool} (w : ToPlace line left) where
    -- one is ready: there is room for it
    module _ {t : ℕ} (e : next n edge left ≡ some t) where
      pub place_room : length line < n
      place_room = let r = next_is edge n left t e in omega (arith, w.fits, w.enough, count_some left n t r.below r.is_left)

      longer : length (line ++ t ∷ []) ≡ length line + 1
      longer = length-append line (t ∷ []) ∙ omega arith

      more : ℕ
      more = n - length (line ++ t ∷ [])

      down : n - length line ≡ suc more
      unfolding more
      down = omega (arith, place_room, longer)

      on : placed n edge (n - length line) left ≡ t ∷ placed n edge more (without left t)
      on = ap (λ (m : ℕ). placed n edge m left) down ∙ placed_some n edge more left t e

      pub place_one : ToPlace (line ++ t ∷ []) (without left t)
      unfolding more
      place_one =
          let r = next_is edge n left t e in
          record {
            fits = omega (arith, place_room, longer);
            enough = omega (arith, w.enough, longer, count_without left t n r.below r.is_left);
            same_rest = sym (ap (λ (m : ℕ). rest n edge m left) down ∙ rest_some n edge more left t e) ∙ w.same_rest;
            same_line =
                append_assoc line (t ∷ []) (placed n edge more (without left t))
                ∙ sym (ap (λ (xs : List ℕ). line ++ xs) on)
                ∙ w.same_line;
          }

    -- none is ready: all is done
    module _ (e : next n edge left ≡ none) where
      pub done_line : line ≡ placed n edge n all
      done_line = sym (append-nil line) ∙ sym (ap (λ (xs : List ℕ). line ++ xs) (placed_none n edge (n - length line) left e)) ∙ w.same_line

      pub done_rest : left ≡ rest n edge n all
      done_rest = sym (rest_none n edge (n - length line) left e) ∙ w.same_rest

-- the loop of the code, which also keeps predecessors
module _ (edge : ℕ → ℕ → Bool) (all : ℕ → Bool) where
  pub record Placing (waits line : List ℕ) (left : ℕ → Bool) : Type 0 where
    pub to_place : ToPlace numbers edge all line left
    pub searched : Searched edge left waits

  module _ {waits line : List ℕ} {left : ℕ → Bool} (w : Placing waits line left) where
    -- what a search found, and the predecessors that it kept: those left only become fewer
    pub placing_on : {still : List ℕ} {t : ℕ} → FindsReady edge left (Some t) still → {fewer : ℕ → Bool} → fewer ≡ without left t
        → Placing still (line ++ t ∷ []) fewer
    placing_on {still} {t} found q =
        subst (λ (f : ℕ → Bool). Placing still (line ++ t ∷ []) f) (sym q)
        record {
          to_place = place_one numbers edge all w.to_place (sym found.says);
          searched = searched_fewer edge left (without left t) still (passed_before left t) found.searched;
        }

    pub placing_done : {still : List ℕ} → FindsReady edge left None still → PlacesAll edge all line left still
    placing_done found =
        let e = sym found.says in
        record {
          is_placed = done_line numbers edge all w.to_place e;
          same_rest = λ t. ap (λ (f : ℕ → Bool). f t) (done_rest numbers edge all w.to_place e);
          blocked = found.blocked e;
        }

-- the one found is one of the numbers
pub ready_low : (edge : ℕ → ℕ → Bool) (left : ℕ → Bool) (t : ℕ) → some t ≡ next numbers edge left → t < numbers
ready_low edge left t e = (next_is edge numbers left t (sym e)).below
