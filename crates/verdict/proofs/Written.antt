-- What the code keeps is what the definitions say: the sort gives the log's line or cycle, whose members it leaves in front of its buffer, and
-- what is written of them are its records.
use Rattle.std.proofs.Common.{ℕ, ◌+◌, ◌≤◌, arith, ◌≡◌, sym, ◌∙◌, ap, ap₂, List, length, drop, refl, subst, take, replicate}
use Rattle.std.proofs.Math.Path.{fun_ext}
use Rattle.std.proofs.Math.ListN.{length-replicate}
use Rattle.std.proofs.Math.Seq.{sets, sets-eq, length-sets, take-append_seam}
use Rattle.sets.specs.Bits.{numbers, has, Holds}
use Rattle.histories.specs.Reasons.{edge, reason}
use Rattle.sets.proofs.Tables.{empty_entry}
use Rattle.rules.specs.Answer.{gives}
use Rattle.rules.specs.LogHistory.{history_of}
use Rattle.rules.specs.Questions.{members}
use Rattle.rules.specs.Record.{transactions}
use Rattle.rules.specs.Passes.{Passes}
use Rattle.rules.proofs.Graphs.{members_hold}
use Rattle.tables.specs.ReasonTables.{any_reason, lowest_in}
use Rattle.tables.specs.declared.reasons.ReasonTables.{ReasonTables}
use Rattle.edges.specs.ByReason.{HoldsEdges}
use Rattle.edges.proofs.EdgeTables.{joined_whole, lowest_whole}
use Rattle.lines.specs.Rule.{LineOrCycle, line, cycle, members_of, length_of, sorted}
use Rattle.lines.proofs.Outcomes.{count_of, line_of, cycle_of}
use Rattle.sort.specs.Numbers.{sorted_says}
use Rattle.sort.specs.Promises.{sorted_table, SortsTable}
use Rattle.sort.specs.declared.Sorted.{Sorted}
use Rattle.sort.specs.declared.Sorted.TheVariants.{Line, Cycle}
use Rattle.answers.specs.Verdict.{entry, pairs, round_to, line_or_cycle, answer_records}
use Rattle.answers.proofs.AnswerRecords.{pairs_same, line_records_are, cycle_records_are, ordered_fits, ordered_low}
use Rattle.writing.specs.Kept.{Low, Along}

-- a buffer for transactions in which nothing stands
abbrev pub blank : List ℕ
blank = replicate transactions 0

-- how many members the sort says
abbrev pub count : Sorted → ℕ
count answer = count_of (sorted_says answer)

counted : (o : LineOrCycle (List ℕ)) → count_of (length_of o) ≡ length (members_of o)
counted (line xs) = refl
counted (cycle xs) = refl

-- the sort said whether a log has a line or a cycle, and so many members stand in front of its buffer
pub record SortsLog (log : List ℕ) (answer : Sorted) (buffer : List ℕ) : Type 0 where
  pub says : sorted_says answer ≡ length_of (line_or_cycle log)
  pub in_range : count answer ≤ length buffer
  pub in_front : take (count answer) buffer ≡ members_of (line_or_cycle log)

-- by the table and the set of a log that passes the sort gives its line or cycle
pub sorted_is : (log : List ℕ) → Passes log → (table : List ℕ) (set : ℕ) → Holds transactions (edge (history_of log)) table → set ≡ members log
    → sorted_table table set ≡ line_or_cycle log
unfolding line_or_cycle
sorted_is log sound table set w e =
    ap₂ (sorted numbers) (fun_ext (λ i. fun_ext (λ j. w.said i j))) (fun_ext (λ k. ap (λ (s : ℕ). has s k) e ∙ members_hold log sound.in_limits k))

-- so it does by the tables of the three reasons, joined
module _ (log : List ℕ) (sound : Passes log) (t : ReasonTables) (w : HoldsEdges log t) where
  pub sorts_log : {table buffer : List ℕ} {set : ℕ} {answer : Sorted} → Holds transactions (any_reason t.by_conflict t.by_order t.by_read) table
      → set ≡ members log → SortsTable table set blank answer buffer → SortsLog log answer buffer
  sorts_log {table = table} {buffer = buffer} {set = set} {answer = answer} v e s =
      record {
        says = said;
        in_range = rw (left, length-sets, length-replicate, many) fits;
        in_front =
            rw (left, many, sets-eq xs blank 0 (omega (arith, length-replicate {A = ℕ} transactions 0, fits)))
            (take-append_seam xs (drop (0 + length xs) blank));
      }
    where
      xs : List ℕ
      xs = members_of (line_or_cycle log)

      is : sorted_table table set ≡ line_or_cycle log
      is = sorted_is log sound table set (joined_whole log t w v) e

      fits : length xs ≤ transactions
      fits = ordered_fits log sound

      said : sorted_says answer ≡ length_of (line_or_cycle log)
      said = s.says ∙ ap length_of is

      many : count answer ≡ length xs
      many = ap count_of said ∙ counted (line_or_cycle log)

      left : buffer ≡ sets blank 0 xs
      left = s.leaves ∙ ap (λ (o : LineOrCycle (List ℕ)). sets blank 0 (members_of o)) is

-- the members are transactions
pub front_low : {log buffer : List ℕ} {answer : Sorted} → SortsLog log answer buffer → Passes log
    → Low (length (take (count answer) buffer)) (take (count answer) buffer)
front_low {log = log} w sound = subst (λ (ys : List ℕ). Low (length ys) ys) (sym w.in_front) (ordered_low log sound)

-- members and their second bytes are the records of the answer
abbrev pub Records : (log seconds ys : List ℕ) → Type 0
Records log seconds ys = pairs (length ys) (entry ys) (entry seconds) ≡ answer_records log (gives (line_or_cycle log))

-- of a line: nothing stands in the second bytes
pub line_written : {log buffer : List ℕ} {n : ℕ} → SortsLog log (Line n) buffer → Records log blank (take n buffer)
line_written {log = log} {n = n} w = subst (Records log blank) (sym w.in_front) of_members
  where
    xs : List ℕ
    xs = members_of (line_or_cycle log)

    of_members : Records log blank xs
    of_members =
        pairs_same (length xs) (entry xs) (entry blank) (entry xs) (λ k. 0) (λ k l. refl) (λ k l. empty_entry transactions k)
        ∙ sym (line_records_are xs)
        ∙ sym (ap (λ (o : LineOrCycle (List ℕ)). answer_records log (gives o)) (line_of n (line_or_cycle log) w.says).is_one)

-- of a cycle: the reasons do
pub cycle_written : {log buffer : List ℕ} {n : ℕ} → SortsLog log (Cycle n) buffer → (t : ReasonTables) → HoldsEdges log t → (seconds : List ℕ)
    → Along (lowest_in t.by_conflict t.by_order t.by_read) (take n buffer) (length (take n buffer)) (length (take n buffer)) seconds
    → Records log seconds (take n buffer)
cycle_written {log = log} {n = n} w t v seconds = subst Recorded (sym w.in_front) of_members
  where
    xs : List ℕ
    xs = members_of (line_or_cycle log)

    Recorded : List ℕ → Type 0
    Recorded ys = Along (lowest_in t.by_conflict t.by_order t.by_read) ys (length ys) (length ys) seconds → Records log seconds ys

    next : ℕ → ℕ
    next k = entry xs (round_to (length xs) k)

    of_members : Recorded xs
    of_members a =
        pairs_same (length xs) (entry xs) (entry seconds) (entry xs) (λ k. reason (history_of log) (entry xs k) (next k)) (λ k l. refl)
        (λ k l. a.said k l ∙ lowest_whole log t v (entry xs k) (next k))
        ∙ sym (cycle_records_are log xs)
        ∙ sym (ap (λ (o : LineOrCycle (List ℕ)). answer_records log (gives o)) (cycle_of n (line_or_cycle log) w.says).is_one)
