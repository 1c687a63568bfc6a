-- What the check keeps, from record k to record k + 1: each law takes the sets as the code stores them. A set gains the record's
-- transaction where the record counts, and stays where it does not.
use Rattle.std.proofs.Common.{ℕ, ◌+◌, ◌<◌, arith, ◌≡◌, refl, sym, ◌∙◌, ap, ap₂, List, Bool, true, false, ◌&&◌, ◌||◌, eqb, get_or, set, replicate}
use Rattle.std.proofs.Common.{length-set, get_or-set_same, get_or-set_other, eq-eqb, ne_eqb, ◌*◌, eqb-true}
use Rattle.std.proofs.Math.Option.{some}
use Rattle.std.proofs.Math.ListN.{length-replicate}
use Rattle.std.proofs.Math.Decide.{ℕ_discrete}
use Rattle.std.proofs.Math.Bool.{and_comm, or-false}
use Rattle.std.proofs.lemmas.Grind.{get_or_default_zero}
use Rattle.sets.specs.Search.{some_below, first_below}
use Rattle.sets.specs.Bits.{has}
use borrow.Author.Clash.{clash}
use Rattle.sets.proofs.Searches.{some_more, some_zero, none_some, first_hit, first_stays}
use Rattle.sets.proofs.Members.{has_zero}
use Rattle.sets.proofs.Tables.{holds_none}
use Rattle.sets.proofs.Gathered.{added_store, set_none_below, set_below_more, set_below_stays, none_below, below_more, below_stays}
use Rattle.histories.specs.History.{is_by, writes_copy, writes_item}
use Rattle.histories.proofs.OfTransactions.{by_is, own_added, none_added, copy_silent, item_silent}
use Rattle.rules.specs.LogHistory.{named, history_of}
use Rattle.rules.specs.Record.{transactions, items, sites, kind, transaction, is_write, is_commit, write_kind, commit_kind}
use Rattle.kept.specs.declared.Kept.{Kept}
use Rattle.kept.specs.Kept.{KeptWriters, KeptCopies, KeptItems, KeptCommits, KeptNames}

module _ (log : List ℕ) (writes : ℕ → ℕ → Bool) (wide : ℕ) where
  abbrev says_writer : ℕ → ℕ → ℕ → Bool
  says_writer e c t = is_by (history_of log) e t && writes e c

  -- before the first record nothing is written
  pub writers_start : KeptWriters log writes wide 0 (replicate wide 0)
  writers_start = none_below wide says_writer (holds_none wide (λ c t. refl))

  module _ (k : ℕ) (table : List ℕ) (w : KeptWriters log writes wide k table) where
    -- the transaction of a record that writes d is added to the entry d, which the code reads as `get_or table d old`
    pub writers_add : (d t v old : ℕ) → d < wide → ((c : ℕ) → writes k c ≡ eqb d c) → t ≡ transaction log k
        → ((i : ℕ) → has v i ≡ (has (get_or table d old) i || eqb t i)) → KeptWriters log writes wide (k + 1) (set table d v)
    writers_add d t v old l e q h =
        below_more wide says_writer k w
        (added_store (says_writer k) table d v (eqb t) (rw w.whole l)
        (λ i. h i ∙ ap (λ (x : ℕ). has x i || eqb t i) (get_or_default_zero table d old (rw w.whole l)))
        (λ c i. ap₂ ◌&&◌ (by_is (history_of log) k i ∙ ap (λ (x : ℕ). eqb x i) (sym q)) (e c) ∙ and_comm (eqb t i) (eqb d c)))

    -- a record that writes nothing adds nothing
    pub writers_stay : ((c : ℕ) → writes k c ≡ false) → KeptWriters log writes wide (k + 1) table
    writers_stay e = below_stays wide says_writer k w (λ c t. none_added (history_of log) k (writes k c) (e c) t)

-- a write is no commit
pub write_no_commit : (log : List ℕ) (k : ℕ) → is_write log k ≡ true → is_commit log k ≡ false
unfolding is_write is_commit write_kind commit_kind
write_no_commit log k w = let e = eqb-true (kind log k) 2 w in ne_eqb (kind log k) 3 (λ q. absurd (omega arith))

-- commits
module _ (log : List ℕ) where
  abbrev says_commit : ℕ → ℕ → Bool
  says_commit e t = is_by (history_of log) e t && is_commit log e

  pub commits_start : KeptCommits log 0 0
  commits_start = set_none_below says_commit

  module _ (k commits : ℕ) (w : KeptCommits log k commits) where
    pub commits_add : (t v : ℕ) → is_commit log k ≡ true → t ≡ transaction log k → ((i : ℕ) → has v i ≡ (has commits i || eqb t i))
        → KeptCommits log (k + 1) v
    commits_add t v e q h = set_below_more says_commit k w v (own_added (history_of log) k (is_commit log k) t v commits e q h)

    pub commits_stay : is_commit log k ≡ false → KeptCommits log (k + 1) commits
    commits_stay e = set_below_stays says_commit k w (none_added (history_of log) k (is_commit log k) e)

-- names
pub names_start : (log : List ℕ) → KeptNames log 0 0 (replicate transactions 0)
unfolding named
names_start log =
    record {
      whole = length-replicate {A = ℕ} transactions 0;
      said = λ t. has_zero t ∙ sym (some_zero (λ e. eqb (transaction log e) t));
      first = λ t h. absurd (clash (some_below 0 (λ e. eqb (transaction log e) t)) h (some_zero (λ e. eqb (transaction log e) t)));
    }

module _ (log : List ℕ) (k names : ℕ) (firsts : List ℕ) (w : KeptNames log k names firsts) where
  names_more : (t : ℕ) → named log t (k + 1) ≡ (named log t k || eqb (transaction log k) t)
  unfolding named
  names_more t = some_more (λ e. eqb (transaction log e) t) k

  stays : (t : ℕ) → named log t k ≡ true → first_below (k + 1) (λ e. eqb (transaction log e) t) ≡ some (get_or firsts t 0)
  stays t h = first_stays (λ e. eqb (transaction log e) t) k (get_or firsts t 0) (w.first t h)

  -- a transaction that was named before
  pub names_stay : (own : ℕ) → own ≡ transaction log k → has names own ≡ true → KeptNames log (k + 1) names firsts
  names_stay own e h = record { whole = w.whole; said = λ t. w.said t ∙ sym (again t); first = λ t q. stays t (sym (again t) ∙ q) }
    where
      again : (t : ℕ) → named log t (k + 1) ≡ named log t k
      again t = names_more t ∙ ap (λ (x : ℕ). named log t k || eqb x t) (sym e) ∙ go (ℕ_discrete own t)
        where
          go : Dec (own ≡ t) → (named log t k || eqb own t) ≡ named log t k
          go (yes q) = rw (← q, sym (w.said own) ∙ h) refl
          go (no q) = rw (ne_eqb own t q, or-false (named log t k)) refl

  -- a transaction that is named for the first time, at the place that the code stores
  pub names_add : (own v : ℕ) {place : ℕ} → own ≡ transaction log k → own < transactions → has names own ≡ false
      → ((t : ℕ) → has v t ≡ (has names t || eqb own t)) → place ≡ k → KeptNames log (k + 1) v (set firsts own place)
  unfolding named
  names_add own v s l f h here =
      rw here
      record {
        whole = simp length-set w.whole;
        said = λ t. h t ∙ ap (λ (b : Bool). b || eqb own t) (w.said t) ∙ sym (more t);
        first = λ t q. go t (ℕ_discrete t own) q;
      }
    where
      more : (t : ℕ) → named log t (k + 1) ≡ (named log t k || eqb own t)
      more t = names_more t ∙ ap (λ (x : ℕ). named log t k || eqb x t) (sym s)

      fresh : (e : ℕ) → e < k → eqb (transaction log e) own ≡ false
      fresh = none_some (λ e. eqb (transaction log e) own) k (sym (w.said own) ∙ f)

      go : (t : ℕ) → Dec (t ≡ own) → named log t (k + 1) ≡ true
          → first_below (k + 1) (λ e. eqb (transaction log e) t) ≡ some (get_or (set firsts own k) t 0)
      go t (yes e) q =
          rw (e, get_or-set_same firsts own k 0 (rw w.whole l))
          (first_hit (λ i. eqb (transaction log i) own) (k + 1) k (omega arith) fresh (eq-eqb (transaction log k) own (sym s)))
      go t (no e) q = rw (get_or-set_other firsts own t k 0 e) (stays t older)
        where
          older : named log t k ≡ true
          older = sym (more t ∙ ap (λ (b : Bool). named log t k || b) (ne_eqb own t (λ r. e (sym r))) ∙ or-false (named log t k)) ∙ q

-- in the midst of record k: what was kept before it is kept with it, each for itself; only its name is still to come
pub record NameLeft (log : List ℕ) (k : ℕ) (old kept : Kept) : Type 0 where
  pub copies : KeptCopies log k old.copy_writers → KeptCopies log (k + 1) kept.copy_writers
  pub items : KeptItems log k old.item_writers → KeptItems log (k + 1) kept.item_writers
  pub names : KeptNames log k old.named old.firsts → KeptNames log k kept.named kept.firsts
  pub commits : KeptCommits log k old.committed → KeptCommits log (k + 1) kept.committed

-- a record that is no write leaves the writers as they are
module _ (log : List ℕ) (k : ℕ) (table : List ℕ) (silent : is_write log k ≡ false) where
  pub same_copies : KeptCopies log k table → KeptCopies log (k + 1) table
  same_copies w = writers_stay log (writes_copy (history_of log)) (items * sites) k table w (copy_silent (history_of log) k silent)

  pub same_items : KeptItems log k table → KeptItems log (k + 1) table
  same_items w = writers_stay log (writes_item (history_of log)) items k table w (item_silent (history_of log) k silent)
