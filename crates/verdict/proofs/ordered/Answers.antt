-- `verdict::ordered` meets its contract: the tables of the three reasons, joined, are the log's edges, so the sort gives the log's line or
-- cycle; what is then written are its records.
use Rattle.std.proofs.Common.{ap, sym, ◌∙◌}
use Rattle.std.proofs.lemmas.List.{length-take-le}
use Rattle.std.proofs.lemmas.List.Edits.{sets}
use Rattle.rules.specs.Answer.{gives}
use Rattle.sort.specs.declared.Sorted.TheVariants.{Line, Cycle}
use Rattle.verdict.proofs.Written.{SortsLog, sorts_log, front_low, line_written, cycle_written}
use Rattle.verdict.proofs.ordered.Goals as goal
use Rattle.verdict.proofs.ordered.Goals.{In-Line, In-Cycle}

-- a line is in front of the sort's buffer
line_left : (c : In-Line) → SortsLog c.args.passed.now (Line c.in-Line.n) c.sort.new.members
line_left c =
    let said = c.edges_by_reason-set in
    sorts_log c.args.passed.now c.edges_by_reason-set.ensures.passes said.new.tables said.ensures.tables_filled c.joined-table.ensures said.ensures.members c.in-Line.ensures

pub slice_bounds-members-end : goal.slice_bounds-members-end
slice_bounds-members-end c = (line_left (goal.at.slice_bounds-members-end c).In-Line).in_range

pub slice_bounds-write_records-end : goal.slice_bounds-write_records-end
slice_bounds-write_records-end c =
    sym (length-take-le c.in-Line.n c.sort.new.members (line_left (goal.at.slice_bounds-write_records-end c).In-Line).in_range)

pub returns-in-Line-clause-says : goal.returns-in-Line-clause-says
returns-in-Line-clause-says c = ap gives (line_left (goal.at.returns-in-Line-clause-says c).In-Line).says

pub returns-in-Line-clause-written : goal.returns-in-Line-clause-written
returns-in-Line-clause-written c =
    c.write_records.ensures ∙ ap (sets c.args.answer.now 0) (line_written (line_left (goal.at.returns-in-Line-clause-written c).In-Line))

-- a cycle is
cycle_left : (c : In-Cycle) → SortsLog c.args.passed.now (Cycle c.in-Cycle.n) c.sort.new.members
cycle_left c =
    let said = c.edges_by_reason-set in
    sorts_log c.args.passed.now c.edges_by_reason-set.ensures.passes said.new.tables said.ensures.tables_filled c.joined-table.ensures said.ensures.members c.in-Cycle.ensures

pub slice_bounds-members-end-in-Cycle : goal.slice_bounds-members-end-in-Cycle
slice_bounds-members-end-in-Cycle c = (cycle_left (goal.at.slice_bounds-members-end-in-Cycle c).In-Cycle).in_range

pub slice_bounds-cycle-end : goal.slice_bounds-cycle-end
slice_bounds-cycle-end c =
    sym (length-take-le c.in-Cycle.n c.sort.new.members (cycle_left (goal.at.slice_bounds-cycle-end c).In-Cycle).in_range)

pub reasons_along-reasons-requires-clause-low : goal.reasons_along-reasons-requires-clause-low
reasons_along-reasons-requires-clause-low c = front_low (cycle_left (goal.at.reasons_along-reasons-requires-clause-low c).In-Cycle) c.edges_by_reason-set.ensures.passes

pub returns-in-Cycle-clause-says : goal.returns-in-Cycle-clause-says
returns-in-Cycle-clause-says c = ap gives (cycle_left (goal.at.returns-in-Cycle-clause-says c).In-Cycle).says

pub returns-in-Cycle-clause-written : goal.returns-in-Cycle-clause-written
returns-in-Cycle-clause-written c =
    let said = c.edges_by_reason-set in
    let left = cycle_left (goal.at.returns-in-Cycle-clause-written c).In-Cycle in
    c.write_records-in-Cycle.ensures
    ∙ ap (sets c.args.answer.now 0) (cycle_written left said.new.tables said.ensures.tables_filled c.reasons_along-reasons.result c.reasons_along-reasons.ensures)
