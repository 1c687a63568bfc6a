-- `sort::line::place_all` meets its contract: the laws in PlacingLoop say how it goes on, and what is promised at the end.
use Rattle.std.proofs.Common.{sym, arith}
use Rattle.sets.specs.Bits.{numbers, has, in_row}
use Rattle.sort.proofs.Waits.{taken}
use Rattle.sort.proofs.PlacingLoop.{place_start, place_room, placing_on, placing_done}
use Rattle.sort.proofs.line.place_all.Goals as goal

pub loop-t-init : goal.loop-t-init
loop-t-init c =
    record {
      to_place = rw c.new-line.ensures (place_start numbers (in_row c.args.table.now) (has c.args.set));
      searched = c.requires;
    }

pub push-requires : goal.push-requires
push-requires c = omega (arith, place_room numbers _ _ c.loop-t.invariant.to_place (sym c.in-Some.ensures.says))

pub loop-t-smaller : goal.loop-t-smaller
loop-t-smaller c =
    omega (arith, place_room numbers _ _ c.loop-t.invariant.to_place (sym c.in-Some.ensures.says), c.push.ensures.len)

pub loop-t-preserved : goal.loop-t-preserved
loop-t-preserved c =
    rw c.push.ensures.items
    (placing_on _ _ c.loop-t.invariant c.in-Some.ensures (taken _ _ _ c.without-left.ensures))

pub returns : goal.returns
returns c = placing_done _ _ c.loop-t.invariant c.in_default.ensures
