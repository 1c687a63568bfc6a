-- What a pass from the end keeps, from record k + 1 down to record k, in the words of what the steps promise.
use Rattle.std.proofs.Common.{ℕ, ◌+◌, ◌-◌, ◌<◌, arith, ◌≡◌, refl, sym, ◌∙◌, ap, subst, List, Bool, false, ◌&&◌, ◌||◌, eqb, replicate}
use Rattle.std.proofs.lemmas.Bool.Decides.{nat_tests}
use Rattle.sets.specs.Bits.{has, in_row, Holds}
use Rattle.sets.proofs.Tables.{holds_same, holds_none}
use Rattle.sets.proofs.Gathered.{none_from, all_from, from_more, from_stays}
use Rattle.histories.specs.History.{is_by}
use Rattle.histories.specs.Earlier.{some_before, some_of}
use Rattle.histories.proofs.OfTransactions.{none_added}
use Rattle.rules.specs.LogHistory.{history_of}
use Rattle.rules.specs.Record.{transactions, records, is_write}
use Rattle.tables.specs.Kept.{Empty, LaterSets, LaterRows, AddedOwn, AddedWriter, AddedToRow}

-- a loop that counts down takes one off first
pub back_one : (P : ℕ → Type 0) (k : ℕ) → 0 < k → P k → P (k - 1 + 1)
back_one P k l w = subst P (omega (arith, l)) w

-- at the end of the log nothing is kept
pub empty_table : (n : ℕ) → Empty n (replicate n 0)
empty_table n = holds_none n (λ i j. refl)

-- added for one reason and then for another
added_twice : (old own a b here : Bool) → ((old || (own && (a && here))) || (own && (b && here))) ≡ (old || (own && ((a || b) && here)))
added_twice old own a b here = grind (arith, nat_tests)

module _ (log : List ℕ) where
  -- the sets of copies or items
  module _ (test : ℕ → ℕ → Bool) (wide : ℕ) where
    abbrev says_set : ℕ → ℕ → ℕ → Bool
    says_set e c t = is_by (history_of log) e t && test e c

    pub later_start : {table : List ℕ} → Empty wide table → LaterSets log test wide (records log) table
    later_start w = none_from wide says_set (records log) w

    module _ (k : ℕ) (l : k < records log) {table : List ℕ} (w : LaterSets log test wide (k + 1) table) (c : ℕ) where
      -- a record that counts for one of two reasons adds its transaction to the set at c
      pub either_adds : (a b : Bool) {mid new : List ℕ} → ((d : ℕ) → test k d ≡ ((a || b) && eqb c d)) → AddedOwn log k c a table mid
          → AddedOwn log k c b mid new → LaterSets log test wide k new
      either_adds a b e u v =
          from_more wide says_set (records log) k l w
          (record {
            whole = v.whole ∙ u.whole;
            said = λ d j.
                v.said d j
                ∙ ap (λ (o : Bool). o || (is_by (history_of log) k j && (b && eqb c d))) (u.said d j)
                ∙ added_twice (in_row table d j) (is_by (history_of log) k j) a b (eqb c d)
                ∙ ap (λ (o : Bool). in_row table d j || (is_by (history_of log) k j && o)) (sym (e d));
          })

      -- a test of writes alone, where only a write adds its transaction
      pub writers_add : {new : List ℕ} → ((d : ℕ) → test k d ≡ (is_write log k && eqb c d)) → AddedWriter log k c table new
          → LaterSets log test wide k new
      writers_add e v =
          from_more wide says_set (records log) k l w
          (holds_same v (λ d j. ap (λ (b : Bool). in_row table d j || (is_by (history_of log) k j && b)) (sym (e d))))

    pub sets_whole : {table : List ℕ} → LaterSets log test wide 0 table → Holds wide (λ c t. some_of (history_of log) t (λ e. test e c)) table
    unfolding some_of some_before
    sets_whole w = all_from wide says_set (records log) w

  -- the rows of transactions
  module _ (says : ℕ → ℕ → Bool) where
    abbrev says_row : ℕ → ℕ → ℕ → Bool
    says_row e i j = is_by (history_of log) e i && says e j

    pub rows_start : {table : List ℕ} → Empty transactions table → LaterRows log says (records log) table
    rows_start w = none_from transactions says_row (records log) w

    module _ (k : ℕ) (l : k < records log) {table : List ℕ} (w : LaterRows log says (k + 1) table) where
      -- what a record says is added to its transaction's row, and a record that says nothing adds nothing
      pub rows_add : (to : ℕ) {new : List ℕ} → ((j : ℕ) → has to j ≡ says k j) → AddedToRow log k to table new → LaterRows log says k new
      rows_add to e v =
          from_more transactions says_row (records log) k l w
          (holds_same v (λ i j. ap (λ (b : Bool). in_row table i j || (is_by (history_of log) k i && b)) (e j)))

      pub rows_stay : ((j : ℕ) → says k j ≡ false) → LaterRows log says k table
      rows_stay f =
          from_stays transactions says_row (records log) k l w (λ i j. none_added (history_of log) k (says k j) (f j) i)

    -- once the whole log is read
    pub rows_whole : {table : List ℕ} → LaterRows log says 0 table → Holds transactions (λ i j. some_of (history_of log) i (λ e. says e j)) table
    unfolding some_of some_before
    rows_whole w = all_from transactions says_row (records log) w
