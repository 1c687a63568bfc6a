-- `sort::sort` meets its contract: the laws in Endings say what the rule gives where none is left, and where one is.
use Rattle.std.proofs.Common.{ℕ, List, length, sym, ◌∙◌, ap, arith}
use Rattle.std.proofs.lemmas.List.Edits.{sets}
use borrow.Rule.Slice.PartMut.{put_mid}
use Rattle.sets.specs.Bits.{numbers, has, in_row}
use Rattle.lines.specs.Rule.{LineOrCycle, line, cycle, length_of, members_of, placed}
use Rattle.cycles.specs.WaitsFor.{back}
use Rattle.lines.proofs.Endings.{ends_in_line, ends_in_cycle}
use Rattle.lines.proofs.Placing.{placed_fits}
use Rattle.cycles.proofs.CycleWritten.{copied}
use Rattle.sort.proofs.Waits.{first_found, none_found_from, searched_start}
use Rattle.sort.proofs.sort.Goals as goal

pub place_all-placed-requires : goal.place_all-placed-requires
place_all-placed-requires c = searched_start c.new-waits.result c.new-waits.ensures (in_row c.args.table.now) (has c.args.set)

-- none is left: the line is written
pub returns-in-None : goal.returns-in-None
returns-in-None c =
    let edge = in_row c.args.table.now in
    let set = has c.args.set in
    let all = c.place_all-placed in
    let none_left = none_found_from _ _ c.in-None.ensures.found in
    let is_line = ends_in_line numbers _ _ _ all.ensures.same_rest (λ t l. none_left t (omega arith) l) in
    let is_long = c.len-count.ensures.value ∙ ap length all.ensures.is_placed in
    record {
      says = ap line is_long ∙ sym (ap length_of is_line);
      leaves =
          ap (put_mid 0 c.len-count.result c.args.members.now) (c.copy_from_slice.ensures.after ∙ c.deref.ensures.0 ∙ all.ensures.is_placed)
          ∙ copied (placed numbers edge numbers set) c.args.members.now 0 c.len-count.result is_long
          (omega (arith, placed_fits edge numbers numbers set))
          ∙ sym (ap (λ (o : LineOrCycle (List ℕ)). sets c.args.members.now 0 (members_of o)) is_line);
    }

-- one is left: the cycle is written that is found from it
pub returns-in-Some : goal.returns-in-Some
returns-in-Some c =
    let all = c.place_all-placed in
    let first = first_found _ _ c.in-Some.ensures.found in
    let is_cycle =
    ends_in_cycle numbers _ _ _ all.ensures.same_rest (back all.new.waits) all.ensures.blocked c.in-Some.first
    first.below first.passes (λ u m. first.none_before u (omega arith) m)
    in
    record {
      says = ap cycle c.write_cycle.ensures.counted ∙ sym (ap length_of is_cycle);
      leaves =
          c.write_cycle.ensures.written ∙ sym (ap (λ (o : LineOrCycle (List ℕ)). sets c.args.members.now 0 (members_of o)) is_cycle);
    }
