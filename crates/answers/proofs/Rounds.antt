-- A cycle's edges, place by place: each member has one to the next, and the last to the first.
use Rattle.std.proofs.Common.{ℕ, zero, suc, ◌+◌, ◌<◌, arith, add-one, ◌≡◌, refl, sym, ◌∙◌, ap, subst, Bool, true, List, [], ◌∷◌, ◌++◌, length, take}
use Rattle.std.proofs.Common.{length-append, get_or-append-add}
use Rattle.std.proofs.Math.Decide.{dec_lt}
use Rattle.std.proofs.Math.ListN.{get_or-append}
use Rattle.lines.specs.Lines.{Linked}
use Rattle.answers.specs.Verdict.{entry, round_to}
use Rattle.answers.proofs.AnswerRecords.{round_next, round_back}

module _ (r : ℕ → ℕ → Bool) where
  linked_at : (ys : List ℕ) (k : ℕ) → Linked r ys → suc k < length ys → r (entry ys k) (entry ys (suc k)) ≡ true
  linked_at [] k l m = absurd (omega (arith, m))
  linked_at (x ∷ []) k l m = absurd (omega (arith, m))
  linked_at (x ∷ y ∷ ys) zero l m = l.0
  linked_at (x ∷ y ∷ ys) (suc k) l m = linked_at (y ∷ ys) k l.1 (omega (arith, m))

  front : (xs : List ℕ) → 0 < length xs → (entry (take 1 xs) 0 ≡ entry xs 0) × (length (take 1 xs) ≡ 1)
  front [] l = absurd (omega (arith, l))
  front (x ∷ xs) l = (refl, refl)

  -- round a cycle
  pub linked_round : (xs : List ℕ) → Linked r (xs ++ take 1 xs) → (k : ℕ) → k < length xs → r (entry xs k) (entry xs (round_to (length xs) k)) ≡ true
  linked_round xs l k m = go (dec_lt (k + 1) (length xs))
    where
      long : length (xs ++ take 1 xs) ≡ length xs + 1
      long = length-append xs (take 1 xs) ∙ ap (λ (n : ℕ). length xs + n) (front xs (omega (arith, m))).1

      linked : r (entry (xs ++ take 1 xs) k) (entry (xs ++ take 1 xs) (suc k)) ≡ true
      linked = linked_at (xs ++ take 1 xs) k l (omega (arith, m, long))

      from_k : r (entry xs k) (entry (xs ++ take 1 xs) (suc k)) ≡ true
      from_k = subst (λ (t : ℕ). r t (entry (xs ++ take 1 xs) (suc k)) ≡ true) (get_or-append xs (take 1 xs) 0 k m) linked

      to : (t : ℕ) → entry (xs ++ take 1 xs) (suc k) ≡ t → r (entry xs k) t ≡ true
      to t e = subst (λ (u : ℕ). r (entry xs k) u ≡ true) e from_k

      go : Dec (k + 1 < length xs) → r (entry xs k) (entry xs (round_to (length xs) k)) ≡ true
      go (yes n) =
          to (entry xs (round_to (length xs) k))
          (get_or-append xs (take 1 xs) 0 (suc k) (omega (arith, n)) ∙ ap (entry xs) (sym (round_next (length xs) k n ∙ add-one k)))
      go (no n) =
          let end : suc k ≡ length xs + 0 = omega (arith, m, n) in
          to (entry xs (round_to (length xs) k))
          (ap (entry (xs ++ take 1 xs)) end
          ∙ get_or-append-add xs (take 1 xs) 0 0
          ∙ (front xs (omega (arith, m))).0
          ∙ ap (entry xs) (sym (round_back (length xs) k (omega (arith, n)))))
