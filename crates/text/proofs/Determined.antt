-- The promises of src/lib.rt determine every byte of what is given and of the buffer lent, and what is given is what is printed.
use Rattle.std.proofs.Common.{ℕ, arith, ◌≡◌, sym, ◌∙◌, ap, List, length, ◌≤◌}
use Rattle.arrayvec.specs.ArrayString.{ArrayString}
use Rattle.verdict.specs.declared.answer.Verdict.{Verdict}
use Rattle.printing.specs.Lines.{text_room}
use Rattle.text.specs.Text.{printed}
use Rattle.printing.proofs.Determined.{same_text}
use Rattle.text.specs.Promises.{PrintsAnswer, PrintsJudged, PrintsLog}

-- THEOREM: any two texts of `answer_text` for a verdict and its records have the same bytes
pub answer_text_determined : (verdict : Verdict) (answer : List ℕ) (left right : ArrayString)
    → PrintsAnswer verdict answer left → PrintsAnswer verdict answer right → left.bytes ≡ right.bytes
answer_text_determined verdict answer left right p q = same_text _ left right p q

-- THEOREM: any two texts of `judged_text` for a log and an answer buffer have the same bytes, and the answer buffers left are equal
pub judged_text_determined : (log answer : List ℕ) (left right : ArrayString) (kept held : List ℕ)
    → PrintsJudged log answer left kept → PrintsJudged log answer right held → (left.bytes ≡ right.bytes) × (kept ≡ held)
judged_text_determined log answer left right kept held p q = (same_text _ left right p.prints q.prints, p.keeps ∙ sym q.keeps)

-- THEOREM: any two texts of `log_text` for a log have the same bytes
pub text_determined : (log : List ℕ) (left right : ArrayString) → PrintsLog log left → PrintsLog log right → left.bytes ≡ right.bytes
text_determined log left right p q = same_text _ left right p q

-- THEOREM: the text that `log_text` gives is what is printed for the log, with no byte before it and none behind, and has at most 562 bytes
pub text_printed : (log : List ℕ) (text : ArrayString) → PrintsLog log text → (text.bytes ≡ printed log) × (length (printed log) ≤ text_room)
text_printed log text p = (p.is, omega (arith, p.fits, ap length p.is))
