-- The reasons along a cycle, kept one by one.
use Rattle.std.proofs.Common.{below_more, ne_of_lt, ℕ, ◌+◌, ◌<◌, ◌≡◌, ◌∙◌, List, set, length-set, get_or-set_same, get_or-set_other}
use Rattle.rules.specs.Record.{transactions}
use Rattle.answers.specs.Verdict.{entry, round_to}
use Rattle.writing.specs.Kept.{Along}

-- one more reason is kept
pub along_more : (lowest : ℕ → ℕ → ℕ) (xs reasons : List ℕ) (n k value : ℕ) → k < transactions → Along lowest xs n k reasons
    → value ≡ lowest (entry xs k) (entry xs (round_to n k)) → Along lowest xs n (k + 1) (set reasons k value)
along_more lowest xs reasons n k value l w e =
    record {
      whole = length-set reasons k value ∙ w.whole;
      said = below_more (λ j. entry (set reasons k value) j ≡ lowest (entry xs j) (entry xs (round_to n j))) k
          (λ j m. get_or-set_other reasons k j value 0 (ne_of_lt m) ∙ w.said j m)
          (get_or-set_same reasons k value 0 (rw w.whole l) ∙ e);
    }
