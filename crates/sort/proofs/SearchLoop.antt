-- The state of the search for the ready one. Those left are tried from the lowest on; of each, a predecessor is looked for from the one kept
-- on, since none below is left. So each tried in vain waits for its lowest predecessor; the first that has none left is next; and where all
-- were tried in vain, none is.
use Prim.Native.Nat.{ℕ, ◌+◌, ◌<◌, ◌≤◌}
use native.Mathlib.Omega.{arith}
use mathlib.Core.Path.{◌≡◌, sym, ◌∙◌}
use mathlib.Core.Bool.{Bool, true, false, cond}
use mathlib.Core.List.{List}
use mathlib.Core.Option.{some, some-ne-none}
use lib.Dec.{eqb}
use Rattle.std.specs.Prelude.{Some, None}
use Rattle.sets.specs.Bits.{numbers}
use Rattle.sets.specs.Search.{without}
use Rattle.lines.specs.Rule.{next, lowest_predecessor}
use Rattle.lines.specs.Lines.{Below}
use Rattle.lines.proofs.Waiting.{Free, Tried, free_on, free_past, first_is_lowest, tried_on, ready_found, none_found}
use Rattle.cycles.specs.WaitsFor.{whom}
use Rattle.sort.specs.Searched.{Searched}
use Rattle.sort.specs.Promises.{FindsReady}
use Rattle.sort.proofs.Waits.{FirstFrom, searched_store, tried_store}

module _ (edge : ℕ → ℕ → Bool) (left : ℕ → Bool) where
  -- each one left below k has been tried in vain
  pub record Trying (waits : List ℕ) (k : ℕ) : Type 0 where
    pub searched : Searched edge left waits
    pub in_vain : Tried numbers edge left (whom waits) k

  -- t is being tried: no predecessor of it below `from` is left
  pub record Looking (waits : List ℕ) (t from : ℕ) : Type 0 where
    pub free : Free numbers edge left t from
    pub trying : Trying waits t

  pub search_start : (waits : List ℕ) → Searched edge left waits → Trying waits 0
  search_start waits searched = record { searched = searched; in_vain = λ t l h. absurd (omega (arith, l)) }

  module _ {waits : List ℕ} {k : ℕ} (trying : Trying waits k) where
    -- t is the next one left: none between k and t needs to be tried, and below the one kept for t none is to be looked for
    pub look_start : {t : ℕ} → FirstFrom left k t → Looking waits t (whom waits t)
    look_start {t} next_left =
        record {
          free = trying.searched t;
          trying =
              record {
                searched = trying.searched;
                in_vain = tried_on numbers edge left (whom waits) k t trying.in_vain next_left.none_before;
              };
        }

    -- none is left from k on: all wait
    pub finds_none : Below numbers left → ((u : ℕ) → k ≤ u → u < numbers → left u ≡ false) → FindsReady edge left None waits
    finds_none low none_left =
        record {
          says = sym (none_found numbers edge left (whom waits) all);
          searched = trying.searched;
          blocked = λ e t h. all t (low t h) h;
        }
      where
        all : Tried numbers edge left (whom waits) numbers
        all = tried_on numbers edge left (whom waits) k numbers trying.in_vain none_left

  module _ {waits : List ℕ} {t from : ℕ} (looking : Looking waits t from) where
    -- s is the next other one that is left
    module _ {s : ℕ} (next_other : FirstFrom (without left t) from s) where
      free_before : Free numbers edge left t s
      free_before = free_on numbers edge left t from s looking.free next_other.none_before

      -- it has no edge to t
      pub look_on : edge s t ≡ false → Looking waits t (s + 1)
      look_on no_edge = record { free = free_past numbers edge left t s free_before no_edge; trying = looking.trying }

      -- it has one: t waits for s, and was tried in vain
      pub tried_one : {new : List ℕ} → ((u : ℕ) → whom new u ≡ cond (eqb t u) s (whom waits u)) → edge s t ≡ true → Trying new (t + 1)
      tried_one {new} now is_edge =
          record {
            searched = searched_store waits new t s now edge left looking.trying.searched free_before;
            in_vain = tried_store waits new t s now edge left looking.trying.in_vain is_lowest;
          }
        where
          is_lowest : lowest_predecessor numbers edge left t ≡ some s
          is_lowest = first_is_lowest numbers edge left t s free_before next_other.below next_other.passes is_edge

    -- there is no other to look at: t is ready, and all before it wait
    pub finds_one : t < numbers → left t ≡ true → ((s : ℕ) → from ≤ s → s < numbers → without left t s ≡ false)
        → FindsReady edge left (Some t) waits
    finds_one t_low is_left no_other =
        record {
          says = sym is_next;
          searched = looking.trying.searched;
          blocked = λ e. absurd (some-ne-none t (sym is_next ∙ e));
        }
      where
        free : Free numbers edge left t numbers
        free = free_on numbers edge left t from numbers looking.free no_other

        is_next : next numbers edge left ≡ some t
        is_next = ready_found numbers edge left (whom waits) t looking.trying.in_vain t_low is_left free
