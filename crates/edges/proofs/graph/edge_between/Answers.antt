-- `edges::graph::edge_between` meets its contract: the check's refusal is passed on, then 10 is tried, and then the reason is given.
use Rattle.std.proofs.Common.{ap, sym, ◌∙◌, ⊎_elim}
use Rattle.std.proofs.lemmas.Result.{err_from_is_err_and}
use Rattle.rules.specs.Answer.{gives}
use Rattle.rules.proofs.Answers.{then_refused, then_given, then_same}
use Rattle.rules.proofs.Asked.{edge_refused, edge_from_none, edge_to_none, edge_given}
use Rattle.edges.proofs.EdgeTables.{lowest_whole}
use Rattle.edges.proofs.graph.edge_between.Goals as goal

pub returns-in_err-passed : goal.returns-in_err-passed
returns-in_err-passed c =
    let p = err_from_is_err_and c.from_residual.result c.from_residual.ensures.1 in
    rw (p.1, p.2) (sym (edge_refused c.args.log.now c.args.i c.args.j (then_refused _ _ _ _ (sym c.in_err-passed.ensures))))

pub returns-then-i-ge-TRANSACTIONS : goal.returns-then-i-ge-TRANSACTIONS
returns-then-i-ge-TRANSACTIONS c =
    let log = c.args.log.now in
    let sound = then_given _ _ _ (sym c.in_ok-passed.ensures) in
    sym
    (⊎_elim (edge_from_none log c.args.i c.args.j sound) (λ w. edge_to_none log c.args.i c.args.j sound w.1) c.then-i-ge-TRANSACTIONS.either)

pub returns : goal.returns
returns c =
    let log = c.args.log.now in
    let sound = then_given _ _ _ (sym c.in_ok-passed.ensures) in
    let holds = rw (sym (then_same _ _ _ (sym c.in_ok-passed.ensures))) at c.edges_by_reason.ensures.tables_filled in
    let reason_is = c.lowest_reason.ensures ∙ lowest_whole log c.edges_by_reason.new.tables holds c.args.i c.args.j in
    ap gives reason_is ∙ sym (edge_given log c.args.i c.args.j sound c.if-i-ge-TRANSACTIONS.false c.if-j-ge-TRANSACTIONS.false)
