-- Laws of the questions' lines: what each answer's line is.
use Rattle.std.proofs.Common.{ℕ, ◌≡◌, refl, ◌++◌}
use Rattle.std.specs.Prelude.{Some, None}
use Rattle.std.proofs.Math.Option.{none, some}
use Rattle.histories.specs.Source.{Source}
use Rattle.rules.specs.Answer.{gives, refused}
use Rattle.printing.specs.Lines.{newline, numbers_line, refusal_line}
use Rattle.questions.specs.Text.{none_word, source_line, edge_line}

-- the line of each answer
pub told_line : (s : Source) → source_line (gives (some s)) ≡ numbers_line s.transaction (Some s.place)
unfolding source_line
told_line s = refl

pub none_line : source_line (gives none) ≡ none_word ++ newline
unfolding source_line
none_line = refl

pub refused_line : (number place : ℕ) → source_line (refused number place) ≡ refusal_line number place
unfolding source_line
refused_line number place = refl

pub reason_line : (n : ℕ) → edge_line (gives n) ≡ numbers_line n None
unfolding edge_line
reason_line n = refl

pub edge_refused_line : (number place : ℕ) → edge_line (refused number place) ≡ refusal_line number place
unfolding edge_line
edge_refused_line number place = refl
