-- `edges::graph::graph_of_log` meets its contract: the check's refusal is passed on before the table is touched; and joined, the tables of the
-- three reasons are the table of every edge, which is the only one.
use Rattle.std.proofs.Common.{ap, refl, sym, ◌∙◌}
use Rattle.std.proofs.lemmas.Result.{err_from_is_err_and}
use Rattle.rules.specs.Answer.{gives}
use Rattle.rules.proofs.Answers.{then_refused, then_given, then_same}
use Rattle.rules.proofs.PassedLogs.{passed_passes}
use Rattle.rules.proofs.Graphs.{only_edges}
use Rattle.rules.proofs.Asked.{graph_refused, graph_given}
use Rattle.edges.proofs.EdgeTables.{joined_whole}
use Rattle.edges.proofs.graph.graph_of_log.Goals as goal

pub returns-in_err-passed : goal.returns-in_err-passed
returns-in_err-passed c =
    let p = err_from_is_err_and c.from_residual.result c.from_residual.ensures.1 in
    let is_refused = then_refused _ _ _ _ (sym c.in_err-passed.ensures) in
    rw (p.1, p.2) (record { says = sym (graph_refused c.args.log.now is_refused); leaves = rw is_refused refl })

pub returns : goal.returns
returns c =
    let log = c.args.log.now in
    let sound = then_given _ _ _ (sym c.in_ok-passed.ensures) in
    let same = sym (then_same _ _ _ (sym c.in_ok-passed.ensures)) in
    let tables = c.edges_by_reason-members.new.tables in
    let said = rw same at c.edges_by_reason-members.ensures.members in
    let holds = rw same at c.edges_by_reason-members.ensures.tables_filled in
    record {
      says = ap gives said ∙ sym (graph_given log sound);
      leaves = rw sound (only_edges log (passed_passes log sound).in_limits (joined_whole log tables holds c.joined.ensures));
    }
