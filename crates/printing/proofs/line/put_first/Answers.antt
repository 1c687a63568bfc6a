-- `printing::line::put_first` meets its contract: the line is the word and, behind it, the line of an empty word.
use Rattle.std.proofs.Common.{ℕ, arith, ◌≡◌, ◌∙◌, ap, List, [], ◌++◌, length, append_assoc, length-append}
use Rattle.std.proofs.lemmas.List.Edits.{sets}
use Rattle.printing.specs.Lines.{first_line}
use Rattle.printing.proofs.Fronts.{copied_behind}
use Rattle.printing.proofs.line.put_first.Goals as goal

word_in_front : (word : List ℕ) (n : ℕ) → word ++ first_line [] n ≡ first_line word n
unfolding first_line
word_in_front word n = simp append_assoc

pub returns-clause-put : goal.returns-clause-put
returns-clause-put c =
    let word = c.args.word.now in
    let n = c.args.n in
    let is = c.first_line-rest.ensures.is in
    let line = word_in_front word n in
    let copied = c.copy_from_slice-2.ensures.after ∙ c.as_bytes.ensures.value ∙ c.deref.ensures.0 ∙ is in
    record {
      written =
          rw (c.copy_from_slice.ensures.after, copied)
          (copied_behind word (first_line [] n) c.args.text.now _ (omega (arith, c.len.ensures.value, ap length is))
          (omega (arith, c.requires, c.first_line-rest.ensures.fits, ap length is, c.told-text))
          ∙ ap (sets c.args.text.now 0) line);
      ends = omega (arith, c.len.ensures.value, ap length is, ap length line, length-append word (first_line [] n));
    }
