-- The order of the verdict's refusals, case by case, and what follows from each. The only file that opens `verdict_check` and
-- `verdict_answer`.
use Rattle.std.proofs.Common.{ℕ, ◌<◌, ◌≤◌, arith, ◌≡◌, refl, ◌∙◌, List, ◌∷◌, true, false, lt-ltb, le-ltb, ltb-false}
use Rattle.rules.specs.Answer.{Answer, gives, refused, passed, ◌then◌}
use Rattle.rules.specs.Rows.{row, answer_of, NoneOf}
use Rattle.rules.specs.Refusals.{length_rows, content_rows, log_rows, length_answer, content_answer}
use Rattle.rules.specs.Passes.{Passes}
use Rattle.rules.proofs.Rows.{passes_exactly, append_passed, append_refused, row_applies, row_skipped, none_here, none_later, none_with, none_left, none_right, none_both}
use Rattle.rules.proofs.PassedLogs.{none_passes}
use Rattle.lines.specs.Rule.{length_of}
use Rattle.answers.specs.Verdict.{most_answer, short_buffer, verdict_rows, verdict_check, line_or_cycle, verdict_answer, how_many}

-- too little room, or enough
pub short : (room : ℕ) → room < most_answer → short_buffer room ≡ true
unfolding short_buffer
short room l = lt-ltb room _ (omega (arith, l))

pub roomy : (room : ℕ) → most_answer ≤ room → short_buffer room ≡ false
unfolding short_buffer
roomy room l = le-ltb room most_answer l

enough : (room : ℕ) → short_buffer room ≡ false → most_answer ≤ room
unfolding short_buffer
enough room h = ltb-false room most_answer h

module _ (log : List ℕ) (room : ℕ) where
  -- which check speaks
  pub by_length : (n p : ℕ) → length_answer log ≡ refused n p → verdict_check log room ≡ refused n p
  unfolding verdict_check length_answer
  by_length n p h = append_refused (length_rows log) _ n p h

  pub by_room : length_answer log ≡ passed → short_buffer room ≡ true → verdict_check log room ≡ refused 3 0
  unfolding verdict_check length_answer
  by_room h s =
      append_passed (length_rows log) (row 3 (short_buffer room) 0 ∷ content_rows log) h ∙ row_applies (row 3 (short_buffer room) 0) (content_rows log) s

  pub by_content : length_answer log ≡ passed → short_buffer room ≡ false → verdict_check log room ≡ content_answer log
  unfolding verdict_check length_answer content_answer
  by_content h s =
      append_passed (length_rows log) (row 3 (short_buffer room) 0 ∷ content_rows log) h ∙ row_skipped (row 3 (short_buffer room) 0) (content_rows log) s

  -- no row applies exactly where none of the log's does and there is room for any answer
  module _ (none_of : NoneOf (verdict_rows log room)) where
    pub none_of_log : NoneOf (log_rows log)
    none_of_log =
        none_both (length_rows log) (content_rows log) (none_left (length_rows log) (row 3 (short_buffer room) 0 ∷ content_rows log) none_of)
        (none_later (row 3 (short_buffer room) 0) (content_rows log) (none_right (length_rows log) (row 3 (short_buffer room) 0 ∷ content_rows log) none_of))

    pub room_of_none : most_answer ≤ room
    room_of_none =
        enough room
        (none_here (row 3 (short_buffer room) 0) (content_rows log) (none_right (length_rows log) (row 3 (short_buffer room) 0 ∷ content_rows log) none_of))

  pub none_with_room : NoneOf (log_rows log) → most_answer ≤ room → NoneOf (verdict_rows log room)
  none_with_room w l =
      none_both (length_rows log) (row 3 (short_buffer room) 0 ∷ content_rows log) (none_left (length_rows log) (content_rows log) w)
      (none_with (row 3 (short_buffer room) 0) (content_rows log) (roomy room l) (none_right (length_rows log) (content_rows log) w))

  -- a log that passes here
  check_none : verdict_check log room ≡ passed → NoneOf (verdict_rows log room)
  unfolding verdict_check
  check_none h = (passes_exactly (verdict_rows log room)).0 h

  pub check_passes : verdict_check log room ≡ passed → Passes log
  check_passes h = none_passes log (none_of_log (check_none h))

  pub enough_room : verdict_check log room ≡ passed → most_answer ≤ room
  enough_room h = room_of_none (check_none h)

  -- the answer: the refusal, or the line or the cycle
  pub answer_refused : {n p : ℕ} → verdict_check log room ≡ refused n p → verdict_answer log room ≡ refused n p
  unfolding verdict_answer
  answer_refused h = rw h refl

  pub answer_given : verdict_check log room ≡ passed → verdict_answer log room ≡ gives (line_or_cycle log)
  unfolding verdict_answer
  answer_given h = rw h refl

  -- what is said: the table's refusal, and then how many members
  pub how_many_said : how_many (verdict_answer log room) ≡ (answer_of (verdict_rows log room) then gives (length_of (line_or_cycle log)))
  unfolding verdict_answer verdict_check
  how_many_said = go (answer_of (verdict_rows log room))
    where
      go : (a : Answer (Unit {0})) → how_many (a then gives (line_or_cycle log)) ≡ (a then gives (length_of (line_or_cycle log)))
      go (gives tt) = refl
      go (refused n p) = refl
