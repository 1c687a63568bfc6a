-- Numbers 1 and 2, from the length.
use Rattle.std.proofs.Common.{ℕ, ◌<◌, ◌≤◌, ◌%◌, ◌≡◌, refl, List, length, lt-ltb, le-ltb, eq-eqb, ne_eqb}
use Rattle.rules.specs.Answer.{refused, passed}
use Rattle.rules.specs.Rows.{answer_of}
use Rattle.rules.specs.Record.{record_bytes, most_bytes}
use Rattle.rules.specs.Refusals.{too_long, ragged, length_answer}

module _ (log : List ℕ) where
  pub gives_1 : most_bytes < length log → length_answer log ≡ refused 1 0
  unfolding length_answer answer_of too_long
  gives_1 l = rw (lt-ltb most_bytes (length log) l) refl

  pub gives_2 : length log ≤ most_bytes → (length log % record_bytes ≡ 0 → ⊥) → length_answer log ≡ refused 2 0
  unfolding length_answer answer_of too_long ragged
  gives_2 l f = rw (le-ltb most_bytes (length log) l, ne_eqb (length log % record_bytes) 0 f) refl

  pub gives_neither : length log ≤ most_bytes → length log % record_bytes ≡ 0 → length_answer log ≡ passed
  unfolding length_answer answer_of too_long ragged
  gives_neither l e = rw (le-ltb most_bytes (length log) l, eq-eqb (length log % record_bytes) 0 e) refl
