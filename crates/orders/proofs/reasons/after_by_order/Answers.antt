-- `orders::reasons::after_by_order` meets its contract: a write puts the later writers of its item after its transaction, and no other
-- record puts any.
use Rattle.std.proofs.Common.{Bool, ap, ap₂, sym, ℕ, ◌&&◌, ◌∙◌}
use Rattle.histories.specs.Order.{writer_after}
use Rattle.histories.proofs.Reasons.{order_given}
use Rattle.rules.specs.LogHistory.{history_of}
use Rattle.rules.specs.Record.{item}
use Rattle.orders.proofs.reasons.after_by_order.Goals as goal

pub returns : goal.returns
returns c j =
    let log = c.args.r.now.log in
    let k = c.args.r.now.place in
    c.only_if.ensures j
    ∙ ap₂ (λ (a b : Bool). a && b) c.is.ensures
    (c.writers_after.ensures j ∙ ap (λ (t : ℕ). writer_after (history_of log) (item log k) t j) c.transaction.ensures.value)
    ∙ sym (order_given (history_of log) k j)
