-- `cycles::cycle::walk_back` meets its contract: the laws in WalkLoop say how the path goes on, at one that is not on it yet.
use Rattle.std.proofs.Common.{sym, ◌∙◌, ℕ, arith, rules}
use lib.ListN.{length-take}
use Rattle.sets.specs.Bits.{numbers}
use Rattle.cycles.proofs.WalkLoop.{path_start, path_room, path_step, last_inside, cut_low, walk_done}
use Rattle.cycles.proofs.cycle.walk_back.Goals as goal

pub loop-seen-init : goal.loop-seen-init
loop-seen-init c = path_start numbers c.args.waits.now c.args.first c.args.path.now (search rules) c.requires

pub overflow_sub-at : goal.overflow_sub-at
overflow_sub-at c = path_room c.loop-seen.invariant (sym c.has.ensures ∙ c.loop-seen-test.true)

pub loop-seen-smaller : goal.loop-seen-smaller
loop-seen-smaller c = omega (arith, path_room c.loop-seen.invariant (sym c.has.ensures ∙ c.loop-seen-test.true))

pub loop-seen-preserved : goal.loop-seen-preserved
loop-seen-preserved c =
    rw c.whom-again.ensures.said
    (path_step c.loop-seen.invariant (sym c.has.ensures ∙ c.loop-seen-test.true) c.with-seen.result c.with-seen.ensures (omega arith))

pub overflow_add-result : goal.overflow_add-result
overflow_add-result c =
    let old = sym c.has.ensures ∙ c.loop-seen-test.false in
    omega (arith, last_inside c.loop-seen.invariant old, cut_low c.loop-seen.invariant old)

pub slice_bounds-result-end : goal.slice_bounds-result-end
slice_bounds-result-end c =
    let old = sym c.has.ensures ∙ c.loop-seen-test.false in
    omega (arith, last_inside c.loop-seen.invariant old, length-take {A = ℕ})

pub returns : goal.returns
returns c =
    let old = sym c.has.ensures ∙ c.loop-seen-test.false in
    record {
      walked = walk_done c.loop-seen.invariant old c.place_of.result c.place_of.ensures;
      fits = omega (arith, cut_low c.loop-seen.invariant old, length-take {A = ℕ});
    }
