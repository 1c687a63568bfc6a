-- The answers to the questions and of the graph, case by case: the check's refusal, then 10, then what was asked for.
use Rattle.std.proofs.Common.{ℕ, ◌≤◌, ◌<◌, ◌≡◌, refl, List, [], ◌∷◌, ◌++◌, Bool, true, false, ◌||◌, leb, le-leb}
use Rattle.std.proofs.lemmas.Bool.{lt-leb, or_right}
use Rattle.histories.specs.Source.{source}
use Rattle.histories.specs.Reasons.{reason}
use Rattle.rules.specs.Answer.{gives, refused, passed, ◌then◌}
use Rattle.rules.specs.Rows.{row, answer_of}
use Rattle.rules.specs.Record.{transactions, records}
use Rattle.rules.specs.LogHistory.{history_of}
use Rattle.rules.specs.Refusals.{log_rows, check_answer}
use Rattle.rules.specs.Questions.{source_answer, edge_answer, members, graph_answer}
use Rattle.rules.proofs.Rows.{append_passed, append_refused, row_applies, row_skipped, no_rows}

-- a question of which the last row is number 10
module _ (log : List ℕ) {A : Type 0} (x : A) (bad : Bool) where
  refused_first : {n p : ℕ} → check_answer log ≡ refused n p → (answer_of (log_rows log ++ row 10 bad 0 ∷ []) then gives x) ≡ refused n p
  unfolding check_answer
  refused_first {n = n} {p = p} h = rw (append_refused (log_rows log) (row 10 bad 0 ∷ []) n p h) refl

  refused_10 : check_answer log ≡ passed → bad ≡ true → (answer_of (log_rows log ++ row 10 bad 0 ∷ []) then gives x) ≡ refused 10 0
  unfolding check_answer
  refused_10 h b = rw (append_passed (log_rows log) (row 10 bad 0 ∷ []) h, row_applies (row 10 bad 0) [] b) refl

  answered : check_answer log ≡ passed → bad ≡ false → (answer_of (log_rows log ++ row 10 bad 0 ∷ []) then gives x) ≡ gives x
  unfolding check_answer
  answered h b = rw (append_passed (log_rows log) (row 10 bad 0 ∷ []) h, row_skipped (row 10 bad 0) [] b, no_rows) refl

module _ (log : List ℕ) where
  -- "Source of record k"
  module _ (k : ℕ) where
    pub asked_refused : {n p : ℕ} → check_answer log ≡ refused n p → source_answer log k ≡ refused n p
    unfolding source_answer
    asked_refused h = refused_first log (source (history_of log) k) (leb (records log) k) h

    pub asked_past : check_answer log ≡ passed → records log ≤ k → source_answer log k ≡ refused 10 0
    unfolding source_answer
    asked_past h l = refused_10 log (source (history_of log) k) (leb (records log) k) h (le-leb (records log) k l)

    pub asked : check_answer log ≡ passed → k < records log → source_answer log k ≡ gives (source (history_of log) k)
    unfolding source_answer
    asked h l = answered log (source (history_of log) k) (leb (records log) k) h (lt-leb (records log) k l)

  -- "Edge from i to j"
  module _ (i j : ℕ) where
    abbrev past : Bool
    past = leb transactions i || leb transactions j

    pub edge_refused : {n p : ℕ} → check_answer log ≡ refused n p → edge_answer log i j ≡ refused n p
    unfolding edge_answer
    edge_refused h = refused_first log (reason (history_of log) i j) past h

    pub edge_from_none : check_answer log ≡ passed → transactions ≤ i → edge_answer log i j ≡ refused 10 0
    unfolding edge_answer
    edge_from_none h l = refused_10 log (reason (history_of log) i j) past h (rw (le-leb transactions i l) refl)

    pub edge_to_none : check_answer log ≡ passed → transactions ≤ j → edge_answer log i j ≡ refused 10 0
    unfolding edge_answer
    edge_to_none h l =
        refused_10 log (reason (history_of log) i j) past h (or_right (leb transactions i) (leb transactions j) (le-leb transactions j l))

    pub edge_given : check_answer log ≡ passed → i < transactions → j < transactions → edge_answer log i j ≡ gives (reason (history_of log) i j)
    unfolding edge_answer
    edge_given h l m =
        answered log (reason (history_of log) i j) past h (rw (lt-leb transactions i l, lt-leb transactions j m) refl)

  -- the graph
  pub graph_refused : {n p : ℕ} → check_answer log ≡ refused n p → graph_answer log ≡ refused n p
  unfolding graph_answer
  graph_refused h = rw h refl

  pub graph_given : check_answer log ≡ passed → graph_answer log ≡ gives (members log)
  unfolding graph_answer
  graph_given h = rw h refl
