-- Number 9, from the sets of those named and of those that have committed.
use Rattle.std.proofs.Common.{ℕ, ◌<◌, arith, ◌≡◌, sym, ◌∙◌, ap, ap₂, List, Bool, true, false, not, ◌&&◌, get_or}
use Rattle.std.proofs.Math.Option.{Option, none, some}
use Rattle.std.proofs.Math.Bool.{and-not_self}
use Rattle.std.proofs.lemmas.Bool.{and_parts, not-true}
use mathlib.Core.Option
use Rattle.sets.specs.Bits.{numbers, has}
use Rattle.sets.specs.Search.{next_from}
use Rattle.sets.proofs.From.{NextFrom, next_miss, next_hit, next_view}
use Rattle.histories.specs.Earlier.{some_before, committed}
use Rattle.rules.specs.Answer.{refused, passed}
use Rattle.rules.specs.LogHistory.{in_log}
use Rattle.rules.specs.Record.{transactions, records}
use Rattle.rules.specs.Refusals.{never_commits, first_record, end_row, end_rows}
use Rattle.rules.specs.Rows.{answer_of}
use Rattle.rules.proofs.Rows.{each_passes, over_lowest}
use Rattle.kept.specs.Kept.{KeptCommits, KeptNames}

-- what a search of a set says
module _ (left from : ℕ) where
  abbrev Next : Option ℕ → Type 0
  Next = NextFrom (has left) from numbers

  next : (o : Option ℕ) → o ≡ next_from from numbers (has left) → Next o
  next o e = rw e (next_view (has left) from numbers)

  pub next_there : (t : ℕ) → some t ≡ next_from from numbers (has left) → t < transactions
  next_there t e = go (next (some t) e)
    where
      go : Next (some t) → t < transactions
      go (next_hit m l h f) = l

-- from what is kept at the end of a log
module _
    (log : List ℕ) (names commits : ℕ) (firsts : List ℕ)
    (w : KeptNames log (records log) names firsts) (v : KeptCommits log (records log) commits)
  where
    pub never_kept : (t : ℕ) → (has names t && not (has commits t)) ≡ never_commits log t
    unfolding never_commits in_log committed some_before
    never_kept t = ap₂ (λ (a b : Bool). a && not b) (w.said t) (v.said t)

    -- the two sets are one
    pub same_sets : names ≡ commits → (t : ℕ) → never_commits log t ≡ false
    same_sets e t = sym (never_kept t) ∙ ap (λ (x : ℕ). has x t && not (has commits t)) e ∙ and-not_self (has commits t)

    -- t is the lowest that is left
    pub open_at : (t : ℕ) → t < transactions → ((e : ℕ) → e < t → never_commits log e ≡ false) → has names t ≡ true → has commits t ≡ false
        → answer_of (end_rows log) ≡ refused 9 (get_or firsts t 0)
    unfolding first_record
    open_at t l h a b =
        over_lowest (end_row log) transactions t l h (sym (never_kept t) ∙ ap₂ (λ (x y : Bool). x && not y) a b)
        ∙ ap (λ (o : Option ℕ). refused 9 (Option.get_or o 0)) (w.first t (sym (w.said t) ∙ a))

    -- those that are left, as one set: named, and not committed
    module _ (left : ℕ) (is_left : (t : ℕ) → has left t ≡ (has names t && not (has commits t))) where
      never_left : (t : ℕ) → has left t ≡ never_commits log t
      never_left t = is_left t ∙ never_kept t

      pub refuses_9 : (t : ℕ) → some t ≡ next_from 0 numbers (has left) → answer_of (end_rows log) ≡ refused 9 (get_or firsts t 0)
      refuses_9 t e = go (next left 0 (some t) e)
        where
          go : Next left 0 (some t) → answer_of (end_rows log) ≡ refused 9 (get_or firsts t 0)
          go (next_hit m l h f) =
              let p = and_parts (has names t) (not (has commits t)) (sym (is_left t) ∙ h) in
              open_at t l (λ u z. sym (never_left u) ∙ f u (omega arith) z) p.0 (not-true (has commits t) p.1)

      pub all_commit : none ≡ next_from 0 numbers (has left) → answer_of (end_rows log) ≡ passed
      all_commit e = go (next left 0 none e)
        where
          go : Next left 0 none → answer_of (end_rows log) ≡ passed
          go (next_miss f) = each_passes (end_row log) transactions (λ t l. sym (never_left t) ∙ f t (omega arith) l)
