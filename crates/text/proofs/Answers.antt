-- Laws of the whole text: a verdict's records are where its text reads them, and what is printed is the text of what the verdict says.
use Rattle.std.proofs.Common.{ℕ, ◌*◌, ◌<◌, ◌≤◌, arith, ◌≡◌, refl, sym, ◌∙◌, ap, subst, Bool, true, false, List, ◌++◌, length, ◌+◌, ◌/◌, ap₂, take}
use Rattle.std.proofs.Common.{drop, get_or, length-take-le}
use Rattle.std.proofs.Math.Seq.{sets, sets-eq, length-sets}
use Rattle.std.proofs.Math.ListN.{get_or-append}
use Rattle.std.proofs.lemmas.List.{get_or-take}
use Rattle.rules.specs.Answer.{Answer, gives, refused}
use Rattle.rules.specs.Record.{transactions}
use Rattle.lines.specs.Rule.{LineOrCycle, line, cycle, members_of, length_of}
use Rattle.answers.specs.Verdict.{most_answer, record_size, entry, verdict_check, line_or_cycle, verdict_answer, answer_records, how_many}
use Rattle.answers.proofs.VerdictRows.{check_passes, enough_room, answer_refused, answer_given}
use Rattle.answers.proofs.AnswerRecords.{records_long, ordered_fits}
use Rattle.printing.specs.Lines.{first_line, refusal_line, record_lines}
use Rattle.printing.proofs.Lines.{lines_same}
use Rattle.text.specs.Text.{serial_word, cycle_word, printed_answer, printed_with, printed}
use Rattle.text.specs.Kept.{Lent}

-- what is written to the front of a buffer stands there
in_front : (xs old : List ℕ) → length xs ≤ length old → (k : ℕ) → k < length xs → entry (sets old 0 xs) k ≡ entry xs k
in_front xs old fits k l =
    ap (λ (ys : List ℕ). get_or ys k 0) (sets-eq xs old 0 (omega (arith, fits))) ∙ get_or-append xs (drop (0 + length xs) old) 0 k l

-- the text of each answer
pub line_text : (n : ℕ) (answer : List ℕ) → printed_answer (gives (line n)) answer ≡ first_line serial_word n ++ record_lines false answer n
unfolding printed_answer
line_text n answer = refl

pub cycle_text : (n : ℕ) (answer : List ℕ) → printed_answer (gives (cycle n)) answer ≡ first_line cycle_word n ++ record_lines true answer n
unfolding printed_answer
cycle_text n answer = refl

pub refusal_text : (number place : ℕ) (answer : List ℕ) → printed_answer (refused number place) answer ≡ refusal_line number place
unfolding printed_answer
refusal_text number place answer = refl

-- the text of the records in the front of a buffer, taken as a slice
pub front_text : (word : List ℕ) (reasons : Bool) (n : ℕ) (answer : List ℕ) → n * record_size ≤ length answer
    → first_line word (length (take (n * record_size) answer) / record_size)
    ++ record_lines reasons (take (n * record_size) answer) (length (take (n * record_size) answer) / record_size)
    ≡ first_line word n ++ record_lines reasons answer n
front_text word reasons n answer l =
    ap₂ (λ (k m : ℕ). first_line word k ++ record_lines reasons (take (n * record_size) answer) m) count count
    ∙ ap (λ (ls : List ℕ). first_line word n ++ ls) (lines_same reasons n _ answer (λ i k. get_or-take (n * record_size) answer i 0 k))
  where
    count : length (take (n * record_size) answer) / record_size ≡ n
    count = omega (arith, length-take-le (n * record_size) answer l)

-- the verdict on a log with a buffer of so many bytes
module _ (log old : List ℕ) where
  abbrev room : ℕ
  room = length old

  abbrev said : Answer (LineOrCycle (List ℕ))
  said = verdict_answer log room

  abbrev left : Answer (LineOrCycle (List ℕ)) → List ℕ
  left a = sets old 0 (answer_records log a)

  -- what holds of every refusal, and of the line or the cycle of a log that passes, holds of the verdict
  by_cases : (P : Answer (LineOrCycle (List ℕ)) → Type 0) → ((n p : ℕ) → P (refused n p))
      → (length (members_of (line_or_cycle log)) ≤ transactions → most_answer ≤ room → P (gives (line_or_cycle log))) → P said
  by_cases P f g = go (verdict_check log room) refl
    where
      go : (a : Answer (Unit {0})) → verdict_check log room ≡ a → P said
      go (refused n p) e = subst P (sym (answer_refused log room e)) (f n p)
      go (gives tt) e = subst P (sym (answer_given log room e)) (g (ordered_fits log (check_passes log room e)) (enough_room log room e))

  -- a line or a cycle whose records are in a buffer of that length
  lent_given : (o : LineOrCycle (List ℕ)) (answer : List ℕ) → length answer ≡ room → length (members_of o) ≤ transactions → most_answer ≤ room
      → Lent (gives (length_of o)) answer
  lent_given (line xs) answer e l m = (l, omega (arith, e, l, m))
  lent_given (cycle xs) answer e l m = (l, omega (arith, e, l, m))

  -- the verdict's records are in the buffer that it leaves
  pub lent : {a : Answer (LineOrCycle ℕ)} {answer : List ℕ} → a ≡ how_many said → answer ≡ left said → Lent a answer
  lent {a} {answer} e f =
      subst (λ (b : Answer (LineOrCycle ℕ)). Lent b answer) (sym e)
      (by_cases (λ b. Lent (how_many b) answer) (λ n p. tt)
      (lent_given (line_or_cycle log) answer (ap length f ∙ length-sets old 0 (answer_records log said))))

  -- the text of a line or a cycle reads only its records
  given_text : (o : LineOrCycle (List ℕ)) → length (members_of o) ≤ transactions → most_answer ≤ room
      → printed_answer (gives (length_of o)) (left (gives o)) ≡ printed_answer (gives (length_of o)) (answer_records log (gives o))
  given_text o l m = go o (λ i k. in_front (answer_records log (gives o)) old (omega (arith, records_long log o, l, m)) i (rw (records_long log o) k))
    where
      go : (o : LineOrCycle (List ℕ))
          → ((i : ℕ) → i < length (members_of o) * record_size → entry (left (gives o)) i ≡ entry (answer_records log (gives o)) i)
          → printed_answer (gives (length_of o)) (left (gives o)) ≡ printed_answer (gives (length_of o)) (answer_records log (gives o))
      go (line xs) same =
          line_text (length xs) (left (gives (line xs)))
          ∙ ap (λ (ls : List ℕ). first_line serial_word (length xs) ++ ls) (lines_same false (length xs) _ _ same)
          ∙ sym (line_text (length xs) (answer_records log (gives (line xs))))
      go (cycle xs) same =
          cycle_text (length xs) (left (gives (cycle xs)))
          ∙ ap (λ (ls : List ℕ). first_line cycle_word (length xs) ++ ls) (lines_same true (length xs) _ _ same)
          ∙ sym (cycle_text (length xs) (answer_records log (gives (cycle xs))))

  -- so the text of the verdict, with its records in that buffer, is what is printed
  pub judged : {a : Answer (LineOrCycle ℕ)} {answer : List ℕ} → a ≡ how_many said → answer ≡ left said
      → printed_answer a answer ≡ printed_with room log
  unfolding printed_with
  judged e f =
      ap₂ printed_answer e f
      ∙ by_cases (λ b. printed_answer (how_many b) (left b) ≡ printed_answer (how_many b) (answer_records log b))
      (λ n p. refusal_text n p (left (refused n p)) ∙ sym (refusal_text n p (answer_records log (refused n p))))
      (given_text (line_or_cycle log))

-- the program's text is that of a buffer which any answer fits into
pub program : (log : List ℕ) (k : ℕ) → k ≡ most_answer → printed_with k log ≡ printed log
unfolding printed
program log k e = ap (λ (r : ℕ). printed_with r log) e
