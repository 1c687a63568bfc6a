-- The three demands hold of every log and every buffer: of whatever is said and left in the buffer as the verdict promises.
use Rattle.std.proofs.Common.{ℕ, ◌+◌, ◌*◌, ◌<◌, ◌≤◌, arith, ◌≡◌, refl, sym, ◌∙◌, ap, ap₂, subst, subst₂, true, List, ◌++◌, ◌↔◌, length, drop}
use Rattle.std.proofs.Math.ListN.{get_or-append}
use Rattle.std.proofs.Math.Seq.{sets}
use Rattle.sets.specs.Bits.{has, in_row}
use Rattle.sets.specs.Paths.{Acyclic}
use Rattle.histories.specs.History.{History}
use Rattle.histories.specs.Reasons.{edge, reason, TrueReason}
use Rattle.histories.proofs.Edges.{edge_has_reason}
use Rattle.histories.proofs.Chapter.{extends_SG, induces_write_order}
use Rattle.rules.specs.Answer.{Answer, gives, refused, passed, ◌then◌}
use Rattle.rules.specs.Rows.{NoneOf, FirstOf, answer_of}
use Rattle.rules.specs.Record.{transactions}
use Rattle.rules.specs.LogHistory.{in_log, history_of}
use Rattle.rules.specs.Refusals.{log_rows, check_answer}
use Rattle.rules.specs.Passes.{InLimits, Passes}
use Rattle.rules.specs.Questions.{members, edge_table, graph_answer, unless_refused, Graphed}
use Rattle.rules.proofs.Rows.{passes_exactly, given_exactly, refused_exactly, gives_exactly}
use Rattle.rules.proofs.Table.{none_applies_where_passed}
use Rattle.rules.proofs.PassedLogs.{in_log_low, none_passes, passed_passes}
use Rattle.rules.proofs.Graphs.{edges_hold, members_hold}
use Rattle.lines.specs.Rule.{LineOrCycle, line, cycle, sorted, members_of, length_of}
use Rattle.lines.specs.Lines.{edge_within}
use Rattle.lines.proofs.Chosen.{within_edge}
use Rattle.lines.proofs.Outcomes.{line_of, cycle_of}
use Rattle.serial.specs.Serial.{SerialLine}
use Rattle.serial.specs.Explains.{ExplainsByLine, ExplainsByCycle}
use Rattle.serial.proofs.Explained.{by_line, by_cycle, line_exactly, cycle_exactly, acyclic_exactly}
use Rattle.answers.specs.Verdict.{record_size, most_answer, entry, pairs, round_to, verdict_rows, verdict_check, line_or_cycle, verdict_answer}
use Rattle.answers.specs.Verdict.{line_records, cycle_records, answer_records, Judged}
use Rattle.answers.specs.Demands.{Demand1, Demand2, Demand3, LineGiven, CycleGiven, GraphExactly}
use Rattle.answers.proofs.VerdictRows.{none_of_log, none_with_room, answer_refused, answer_given, how_many_said}
use Rattle.answers.proofs.AnswerRecords.{length_pairs, pairs_bytes, round_low, cycle_records_are, records_long, verdict_written}
use Rattle.answers.proofs.Rounds.{linked_round}

-- the log, the buffer as it was lent, what was answered, the buffer as it was left, and what is promised of them
module _ (log old : List ℕ) (answer : Answer (LineOrCycle ℕ)) (new : List ℕ) (promised : Judged log old answer new) where
  abbrev room : ℕ
  room = length old

  abbrev h : History
  h = history_of log

  abbrev given : LineOrCycle (List ℕ)
  given = line_or_cycle log

  -- what is said, by the table's rows
  said : answer ≡ (answer_of (verdict_rows log room) then gives (length_of given))
  said = promised.says ∙ how_many_said log room

  -- a refusal is the table's, and nothing is written
  refused_exactly_when : (n p : ℕ) → answer ≡ refused n p ↔ FirstOf (verdict_rows log room) n p
  refused_exactly_when n p =
      let e = refused_exactly (verdict_rows log room) (length_of given) n p in
      (λ a. e.0 (sym said ∙ a), λ f. said ∙ e.1 f)

  check_refused : (n p : ℕ) → answer ≡ refused n p → verdict_check log room ≡ refused n p
  unfolding verdict_check
  check_refused n p a = (given_exactly (verdict_rows log room) n p).1 ((refused_exactly_when n p).0 a)

  refusal_leaves : (n p : ℕ) → answer ≡ refused n p → new ≡ old
  refusal_leaves n p a =
      promised.leaves ∙ ap (λ (o : Answer (LineOrCycle (List ℕ))). sets old 0 (answer_records log o)) (answer_refused log room (check_refused n p a))

  -- what else is said is given where no row applies, and it is the log's line or cycle
  none_when : (o : LineOrCycle ℕ) → answer ≡ gives o → NoneOf (verdict_rows log room)
  none_when o a = ((gives_exactly (verdict_rows log room) (length_of given) o).0 (sym said ∙ a)).0

  its_length_is : (o : LineOrCycle ℕ) → answer ≡ gives o → o ≡ length_of given
  its_length_is o a = sym ((gives_exactly (verdict_rows log room) (length_of given) o).0 (sym said ∙ a)).1

  given_when_none : NoneOf (verdict_rows log room) → answer ≡ gives (length_of given)
  given_when_none w = said ∙ (gives_exactly (verdict_rows log room) (length_of given) (length_of given)).1 (w, refl)

  pub given_where_passed : check_answer log ≡ passed → most_answer ≤ room → answer ≡ gives (length_of given)
  given_where_passed ok has = given_when_none (none_with_room log room (none_applies_where_passed log ok) has)

  passes : (o : LineOrCycle ℕ) → answer ≡ gives o → Passes log
  passes o a = none_passes log (none_of_log log room (none_when o a))

  is_given : (o : LineOrCycle ℕ) → answer ≡ gives o → verdict_answer log room ≡ gives given
  unfolding verdict_check
  is_given o a = answer_given log room ((passes_exactly (verdict_rows log room)).1 (none_when o a))

  -- by the rule, of the edges and of who takes part
  the_rule : given ≡ sorted transactions (edge h) (in_log log)
  unfolding line_or_cycle
  the_rule = refl

  -- its records stand in front of what was there
  is_written : (o : LineOrCycle ℕ) → answer ≡ gives o → new ≡ answer_records log (gives given) ++ drop (length (members_of given) * record_size) old
  is_written o a =
      promised.leaves
      ∙ verdict_written log old
      ∙ ap (λ (r : Answer (LineOrCycle (List ℕ))). answer_records log r ++ drop (length (answer_records log r)) old) (is_given o a)
      ∙ ap (λ (m : ℕ). answer_records log (gives given) ++ drop m old) (records_long log given)

  -- THEOREM: demand 1
  pub demand_1 : Demand1 log old answer new
  demand_1 =
      record {
        refused_when = refused_exactly_when;
        judged_when = (λ w. none_when w.0 w.1, λ w. (length_of given, given_when_none w));
        refusal_writes_nothing = refusal_leaves;
      }

  -- a cycle, and the bytes of its records
  module _ (n : ℕ) (a : answer ≡ gives (cycle n)) where
    abbrev ring : List ℕ
    ring = members_of given

    is_ring : given ≡ cycle ring
    is_ring = (cycle_of n given (its_length_is (cycle n) a)).is_one

    ring_length : n ≡ length ring
    ring_length = (cycle_of n given (its_length_is (cycle n) a)).counted

    ring_written : new ≡ cycle_records log ring ++ drop (n * record_size) old
    ring_written =
        is_written (cycle n) a
        ∙ ap₂ (λ (o : LineOrCycle (List ℕ)) (m : ℕ). answer_records log (gives o) ++ drop (m * record_size) old) is_ring (sym ring_length)

    ring_explains : ExplainsByCycle h transactions ring
    ring_explains =
        let p = passes (cycle n) a in by_cycle h p.sound transactions (in_log_low log p.in_limits) ring (sym the_rule ∙ is_ring)

    -- the records' bytes in the buffer
    abbrev to_next : ℕ → ℕ
    to_next k = reason h (entry ring k) (entry ring (round_to (length ring) k))

    in_records : (at : ℕ) → at < length ring * record_size → entry new at ≡ entry (pairs (length ring) (entry ring) to_next) at
    in_records at l =
        ap (λ (bytes : List ℕ). entry bytes at) ring_written
        ∙ get_or-append (cycle_records log ring) (drop (n * record_size) old) 0 at
        (omega (arith, l, ap length (cycle_records_are log ring), length_pairs (length ring) (entry ring) to_next))
        ∙ ap (λ (bytes : List ℕ). entry bytes at) (cycle_records_are log ring)

    member_byte : (k : ℕ) → k < length ring → entry new (k * record_size) ≡ entry ring k
    member_byte k l = in_records (k * record_size) (omega (arith, l)) ∙ (pairs_bytes (length ring) (entry ring) to_next k l).0

    reason_byte : (k : ℕ) → k < length ring → entry new (k * record_size + 1) ≡ to_next k
    reason_byte k l = in_records (k * record_size + 1) (omega (arith, l)) ∙ (pairs_bytes (length ring) (entry ring) to_next k l).1

    ring_edge : (k : ℕ) → k < length ring → edge h (entry ring k) (entry ring (round_to (length ring) k)) ≡ true
    ring_edge k l =
        within_edge (edge h) (in_log log) (entry ring k) (entry ring (round_to (length ring) k))
        (linked_round (edge_within (edge h) (in_log log)) ring ring_explains.is_cycle.round k l)

    ring_reason : (k : ℕ) → k < n → TrueReason h (entry ring k) (entry ring (round_to n k)) (entry new (k * record_size + 1))
    ring_reason k l =
        let m = subst (λ (x : ℕ). k < x) ring_length l in
        subst₂ (λ (x byte : ℕ). TrueReason h (entry ring k) (entry ring (round_to x k)) byte) (sym ring_length) (sym (reason_byte k m))
        (edge_has_reason h (entry ring k) (entry ring (round_to (length ring) k)) (ring_edge k m))

    true_edge : (k : ℕ) → k < length ring
        → let i = entry new (k * record_size) in
        let j = entry new (round_to (length ring) k * record_size) in
        (edge h i j ≡ true) × TrueReason h i j (entry new (k * record_size + 1))
    true_edge k l =
        let next = round_to (length ring) k in
        let there = round_low (length ring) k l in
        let i = entry ring k in
        let j = entry ring next in
        rw (member_byte k l, member_byte next there, reason_byte k l) (ring_edge k l, edge_has_reason h i j (ring_edge k l))

    cycle_is_given : CycleGiven log old answer new n
    cycle_is_given =
        record {
          the_cycle = ring;
          by_the_rule = is_ring;
          its_length = ring_length;
          from_2_to_64 = (omega (arith, ring_explains.is_cycle.at_least_two, ring_length), omega (arith, ring_explains.at_most, ring_length));
          written = ring_written;
          is_cycle = ring_explains.is_cycle;
          starts_lowest = ring_explains.starts_lowest;
          true_reasons = ring_reason;
          no_line = ring_explains.no_line;
        }

  -- a line
  module _ (n : ℕ) (a : answer ≡ gives (line n)) where
    abbrev the_given : List ℕ
    the_given = members_of given

    is_the_line : given ≡ line the_given
    is_the_line = (line_of n given (its_length_is (line n) a)).is_one

    line_counted : n ≡ length the_given
    line_counted = (line_of n given (its_length_is (line n) a)).counted

    line_written : new ≡ line_records the_given ++ drop (n * record_size) old
    line_written =
        is_written (line n) a
        ∙ ap₂ (λ (o : LineOrCycle (List ℕ)) (m : ℕ). answer_records log (gives o) ++ drop (m * record_size) old) is_the_line (sym line_counted)

    line_explains : ExplainsByLine h transactions the_given
    line_explains =
        let p = passes (line n) a in by_line h p.sound transactions (in_log_low log p.in_limits) the_given (sym the_rule ∙ is_the_line)

    line_is_given : LineGiven log old answer new n
    line_is_given =
        record {
          the_line = the_given;
          by_the_rule = is_the_line;
          its_length = line_counted;
          all_transactions = line_counted ∙ line_explains.all_of_them;
          written = line_written;
          smallest = line_explains.smallest;
          last_writes_kept = line_explains.last_writes_kept;
        }

  -- which of the two is said is which of the two the rule gives
  module _ (ok : check_answer log ≡ passed) (has : most_answer ≤ room) where
    its_passes : Passes log
    its_passes = passed_passes log ok

    line_said : ((xs : List ℕ) × (given ≡ line xs)) ↔ ((n : ℕ) × (answer ≡ gives (line n)))
    line_said = (
      λ w. (length w.0, given_where_passed ok has ∙ ap (λ (o : LineOrCycle (List ℕ)). gives (length_of o)) w.1),
      λ w. (the_given w.0 w.1, is_the_line w.0 w.1),
    )

    cycle_said : ((xs : List ℕ) × (given ≡ cycle xs)) ↔ ((n : ℕ) × (answer ≡ gives (cycle n)))
    cycle_said = (
      λ w. (length w.0, given_where_passed ok has ∙ ap (λ (o : LineOrCycle (List ℕ)). gives (length_of o)) w.1),
      λ w. (ring w.0 w.1, is_ring w.0 w.1),
    )

    line_when : ((xs : List ℕ) × SerialLine h xs) ↔ ((n : ℕ) × (answer ≡ gives (line n)))
    line_when =
        let e = line_exactly h its_passes.sound transactions (in_log_low log its_passes.in_limits) in
        (λ w. let (xs, q) = e.0 w in line_said.0 (xs, the_rule ∙ q), λ w. let (xs, q) = line_said.1 w in e.1 (xs, sym the_rule ∙ q))

    cycle_when : ((xs : List ℕ) → SerialLine h xs → ⊥) ↔ ((n : ℕ) × (answer ≡ gives (cycle n)))
    cycle_when =
        let e = cycle_exactly h its_passes.sound transactions (in_log_low log its_passes.in_limits) in
        (λ w. let (xs, q) = e.0 w in cycle_said.0 (xs, the_rule ∙ q), λ w. let (xs, q) = cycle_said.1 w in e.1 (xs, sym the_rule ∙ q))

    acyclic_when : ((n : ℕ) × (answer ≡ gives (line n))) ↔ Acyclic (edge h)
    acyclic_when =
        let e = acyclic_exactly h its_passes.sound transactions (in_log_low log its_passes.in_limits) in
        (λ w. let (xs, q) = line_said.1 w in e.0 (xs, sym the_rule ∙ q), λ w. let (xs, q) = e.1 w in line_said.0 (xs, the_rule ∙ q))

  -- THEOREM: demand 3
  pub demand_3 : Demand3 log old answer new
  demand_3 = record { line_exactly = line_when; else_cycle = cycle_when; line_given = line_is_given; cycle_given = cycle_is_given }

  -- THEOREM: demand 2
  pub demand_2 : Demand2 log old answer new
  unfolding line_or_cycle
  demand_2 =
      record {
        given_where_passed = λ ok has. (length_of given, given_where_passed ok has);
        of_this_graph = λ o a. (its_length_is o a, is_written o a);
        line_keeps_every_edge = λ n a. (the_given n a, line_written n a, (line_explains n a).keeps_every_edge);
        cycle_of_edges = λ n a k l.
            subst
            (λ (m : ℕ).
            let i = entry new (k * record_size) in
            let j = entry new (round_to m k * record_size) in
            (edge h i j ≡ true) × TrueReason h i j (entry new (k * record_size + 1)))
            (sym (ring_length n a)) (true_edge n a k (subst (λ (m : ℕ). k < m) (ring_length n a) l));
        extends_SG = extends_SG h;
        induces_write_order = λ ok. induces_write_order h (passed_passes log ok).sound;
        line_where_acyclic = acyclic_when;
        line_is_of_RDSG = λ n a. (line_explains n a).is_RDSG;
      }

-- THEOREM: demand 2 is whole by itself: for a log that passes the checks, any two answers that meet it are the same, and so are the buffers
-- left
pub demand_2_determines : (log old : List ℕ) (a b : Answer (LineOrCycle ℕ)) (left right : List ℕ) → check_answer log ≡ passed → most_answer ≤ length old
    → Demand2 log old a left → Demand2 log old b right → (a ≡ b) × (left ≡ right)
demand_2_determines log old a b left right ok room d e =
    let (o, h) = d.given_where_passed ok room in
    let (p, g) = e.given_where_passed ok room in
    let x = d.of_this_graph o h in
    let y = e.of_this_graph p g in
    (h ∙ ap gives (x.0 ∙ sym y.0) ∙ sym g, x.1 ∙ sym y.1)

-- the graph's answer and the check's, by the table's rows
graph_said : (log : List ℕ) → graph_answer log ≡ (answer_of (log_rows log) then gives (members log))
unfolding graph_answer check_answer
graph_said log = refl

check_passed : (log : List ℕ) → NoneOf (log_rows log) → check_answer log ≡ passed
unfolding check_answer
check_passed log w = (passes_exactly (log_rows log)).1 w

check_refused_by : (log : List ℕ) (n p : ℕ) → FirstOf (log_rows log) n p → check_answer log ≡ refused n p
unfolding check_answer
check_refused_by log n p f = (given_exactly (log_rows log) n p).1 f

-- THEOREM: demand 2, of the graph by itself
pub graph_exactly : (log old : List ℕ) (answer : Answer ℕ) (new : List ℕ) → Graphed log old answer new → GraphExactly log old answer new
graph_exactly log old answer new promised =
    record {
      given_when = (λ w. none_when w.0 w.1, λ w. (members log, said ∙ (gives_exactly (log_rows log) (members log) (members log)).1 (w, refl)));
      refused_when = refused_exactly_when;
      refusal_leaves_the_table = λ n p a. left_by (check_refused_by log n p ((refused_exactly_when n p).0 a));
      edges_exactly = λ set a i j.
          ap (λ (rows : List ℕ). in_row rows i j) (left_by (check_passed log (none_when set a))) ∙ (edges_hold log (limits set a)).said i j;
      transactions_exactly = λ set a t. ap (λ (s : ℕ). has s t) (its_set set a) ∙ members_hold log (limits set a) t;
    }
  where
    said : answer ≡ (answer_of (log_rows log) then gives (members log))
    said = promised.says ∙ graph_said log

    refused_exactly_when : (n p : ℕ) → answer ≡ refused n p ↔ FirstOf (log_rows log) n p
    refused_exactly_when n p =
        let e = refused_exactly (log_rows log) (members log) n p in
        (λ a. e.0 (sym said ∙ a), λ f. said ∙ e.1 f)

    none_when : (set : ℕ) → answer ≡ gives set → NoneOf (log_rows log)
    none_when set a = ((gives_exactly (log_rows log) (members log) set).0 (sym said ∙ a)).0

    its_set : (set : ℕ) → answer ≡ gives set → set ≡ members log
    its_set set a = sym ((gives_exactly (log_rows log) (members log) set).0 (sym said ∙ a)).1

    limits : (set : ℕ) → answer ≡ gives set → InLimits log
    limits set a = (none_passes log (none_when set a)).in_limits

    -- what the table holds goes by the check's answer
    left_by : {a : Answer (Unit {0})} → check_answer log ≡ a → new ≡ unless_refused a (edge_table log) old
    left_by e = promised.leaves ∙ ap (λ (a : Answer (Unit {0})). unless_refused a (edge_table log) old) e
