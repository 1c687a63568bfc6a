-- What the check leaves to show of `WriteOrder::of_log`; its invariant stands beside this file.
use Rattle.std.proofs.Common.{arith, subst}
use Rattle.orders.specs.Kept.{KeptFrom}
use Rattle.orders.proofs.KeptOrders.{order_whole, members_whole}
use Rattle.orders.proofs.order.WriteOrder.of_log.Goals as goal
use Rattle.orders.proofs.order.WriteOrder.of_log.Goals.{After-loop-k}

pub loop-k-init : goal.loop-k-init
loop-k-init c = rw c.records-k.ensures (c.new-order.ensures c.log-log.result)

-- after the last turn k is 0
all_kept : (c : After-loop-k) → KeptFrom c.args.log.now 0 c.loop-k.order
all_kept c =
    let l = c.loop-k in
    subst (λ k. KeptFrom c.args.log.now k l.order) (omega arith) (rw c.log-log.ensures.same at l.invariant)

pub returns-clause-kept_order : goal.returns-clause-kept_order
returns-clause-kept_order c =
    let kept = all_kept (goal.at.returns-clause-kept_order c).After-loop-k in
    order_whole c.args.log.now c.log-log.ensures.passes kept.writers kept.orders

pub returns-clause-members : goal.returns-clause-members
returns-clause-members c =
    members_whole c.args.log.now c.log-log.ensures.passes (all_kept (goal.at.returns-clause-members c).After-loop-k).commits
