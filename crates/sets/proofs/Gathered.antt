-- Laws of a pass over numbers that keeps what they say, forward and from the end: nothing is kept at first; what a number says is added, or
-- it says nothing; and at last all have been met.
use Rattle.std.proofs.Common.{ℕ, ◌+◌, ◌<◌, ◌≡◌, refl, sym, ◌∙◌, ap, List, Bool, false, ◌&&◌, ◌||◌, eqb, length, get_or, set}
use Rattle.std.proofs.Math.Bool.{or-false}
use Rattle.sets.specs.Search.{some_below, some_from}
use Rattle.sets.specs.Bits.{has, in_row, Holds}
use Rattle.sets.specs.Gathered.{SetBelow, SetFrom, TableBelow, TableFrom, Added}
use Rattle.sets.proofs.Searches.{some_zero, some_more}
use Rattle.sets.proofs.From.{from_end, from_start, from_step}
use Rattle.sets.proofs.Members.{has_zero}
use Rattle.sets.proofs.Tables.{holds_same, holds_store}

-- what was kept and what one number more says; or it says nothing
one_more : (old this : Bool) {kept all new : Bool} → new ≡ (kept || this) → kept ≡ old → all ≡ (old || this) → new ≡ all
one_more old this e k a = e ∙ ap (λ (b : Bool). b || this) k ∙ sym a

none_more : (old this : Bool) {kept all : Bool} → kept ≡ old → all ≡ (old || this) → this ≡ false → kept ≡ all
none_more old this k a f = k ∙ sym (a ∙ ap (λ (b : Bool). old || b) f ∙ or-false old)

-- a store to the set at c adds what the number says
pub added_store : (says : ℕ → ℕ → Bool) (old : List ℕ) (c v : ℕ) (joined : ℕ → Bool) → c < length old
    → ((j : ℕ) → has v j ≡ (has (get_or old c 0) j || joined j)) → ((i j : ℕ) → says i j ≡ (eqb c i && joined j)) → Added says old (set old c v)
added_store says old c v joined l h e =
    holds_store {table = old} (record { whole = refl; said = λ i j. refl }) c v joined l h (λ i j. ap (λ (b : Bool). in_row old i j || b) (e i j))

-- a set
module _ (says : ℕ → ℕ → Bool) where
  pub set_none_below : SetBelow says 0 0
  set_none_below = record { said = λ j. has_zero j ∙ sym (some_zero (λ e. says e j)) }

  module _ (k : ℕ) {x : ℕ} (w : SetBelow says k x) where
    pub set_below_more : (v : ℕ) → ((j : ℕ) → has v j ≡ (has x j || says k j)) → SetBelow says (k + 1) v
    set_below_more v h =
        record { said = λ j. one_more (some_below k (λ e. says e j)) (says k j) (h j) (w.said j) (some_more (λ e. says e j) k) }

    pub set_below_stays : ((j : ℕ) → says k j ≡ false) → SetBelow says (k + 1) x
    set_below_stays f =
        record { said = λ j. none_more (some_below k (λ e. says e j)) (says k j) (w.said j) (some_more (λ e. says e j) k) (f j) }

  module _ (n : ℕ) where
    pub set_none_from : SetFrom says n n 0
    set_none_from = record { said = λ j. has_zero j ∙ sym (from_end (λ e. says e j) n) }

    pub set_all_from : {x : ℕ} → SetFrom says n 0 x → SetBelow says n x
    set_all_from w = record { said = λ j. w.said j ∙ from_start (λ e. says e j) n }

    module _ (k : ℕ) (l : k < n) {x : ℕ} (w : SetFrom says n (k + 1) x) where
      pub set_from_more : (v : ℕ) → ((j : ℕ) → has v j ≡ (has x j || says k j)) → SetFrom says n k v
      set_from_more v h =
          record { said = λ j. one_more (some_from (k + 1) n (λ e. says e j)) (says k j) (h j) (w.said j) (from_step (λ e. says e j) k n l) }

      pub set_from_stays : ((j : ℕ) → says k j ≡ false) → SetFrom says n k x
      set_from_stays f =
          record { said = λ j. none_more (some_from (k + 1) n (λ e. says e j)) (says k j) (w.said j) (from_step (λ e. says e j) k n l) (f j) }

-- a table of sets
module _ (wide : ℕ) (says : ℕ → ℕ → ℕ → Bool) where
  pub none_below : {table : List ℕ} → Holds wide (λ i j. false) table → TableBelow wide says 0 table
  none_below w = holds_same w (λ i j. sym (some_zero (λ e. says e i j)))

  module _ (k : ℕ) {table : List ℕ} (w : TableBelow wide says k table) where
    pub below_more : {new : List ℕ} → Added (says k) table new → TableBelow wide says (k + 1) new
    below_more v =
        record {
          whole = v.whole ∙ w.whole;
          said = λ i j. one_more (some_below k (λ e. says e i j)) (says k i j) (v.said i j) (w.said i j) (some_more (λ e. says e i j) k);
        }

    pub below_stays : ((i j : ℕ) → says k i j ≡ false) → TableBelow wide says (k + 1) table
    below_stays f =
        record {
          whole = w.whole;
          said = λ i j. none_more (some_below k (λ e. says e i j)) (says k i j) (w.said i j) (some_more (λ e. says e i j) k) (f i j);
        }

  module _ (n : ℕ) where
    pub none_from : {table : List ℕ} → Holds wide (λ i j. false) table → TableFrom wide says n n table
    none_from w = holds_same w (λ i j. sym (from_end (λ e. says e i j) n))

    pub all_from : {table : List ℕ} → TableFrom wide says n 0 table → TableBelow wide says n table
    all_from w = holds_same w (λ i j. from_start (λ e. says e i j) n)

    module _ (k : ℕ) (l : k < n) {table : List ℕ} (w : TableFrom wide says n (k + 1) table) where
      pub from_more : {new : List ℕ} → Added (says k) table new → TableFrom wide says n k new
      from_more v =
          record {
            whole = v.whole ∙ w.whole;
            said = λ i j.
                one_more (some_from (k + 1) n (λ e. says e i j)) (says k i j) (v.said i j) (w.said i j) (from_step (λ e. says e i j) k n l);
          }

      pub from_stays : ((i j : ℕ) → says k i j ≡ false) → TableFrom wide says n k table
      from_stays f =
          record {
            whole = w.whole;
            said = λ i j. none_more (some_from (k + 1) n (λ e. says e i j)) (says k i j) (w.said i j) (from_step (λ e. says e i j) k n l) (f i j);
          }
