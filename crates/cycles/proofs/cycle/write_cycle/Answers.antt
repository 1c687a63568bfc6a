-- `cycles::cycle::write_cycle` meets its contract: the laws in CycleWritten say what the two copies leave.
use Rattle.std.proofs.Common.{arith}
use Rattle.cycles.proofs.CycleWritten.{cycle_count, cycle_written}
use Rattle.cycles.proofs.cycle.write_cycle.Goals as goal

pub returns-clause-counted : goal.returns-clause-counted
returns-clause-counted c = cycle_count _ _ c.walk_back-cycle.ensures.walked

pub returns-clause-written : goal.returns-clause-written
returns-clause-written c =
    cycle_written _ _ c.walk_back-cycle.ensures.walked c.args.members.now c.place_of_lowest.result c.place_of_lowest.ensures
    (omega (arith, c.walk_back-cycle.ensures.fits)) c.split_at.ensures.back c.split_at.ensures.front c.copy_from_slice.ensures.after
    c.copy_from_slice-2.ensures.after
