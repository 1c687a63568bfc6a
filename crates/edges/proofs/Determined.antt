-- The promises determine the answers about a graph, and the table that was lent.
use Rattle.std.proofs.Common.{ℕ, ◌≡◌, sym, ◌∙◌, ap, List, refl, ◌∷◌, get_or, []}
use Rattle.refusals.proofs.Determined.{same_refusal}
use Rattle.std.specs.Prelude.{Option, Some, None, Result, Ok, Err}
use Rattle.refusals.specs.declared.refusal.Refusal.{Refusal}
use Rattle.tables.specs.Numbers.{reason_says}
use Rattle.tables.specs.declared.reasons.Reason.{Reason}
use Rattle.tables.specs.declared.reasons.Reason.TheVariants.{Conflict, WriteOrder, ReadBefore}
use Rattle.edges.specs.Numbers.{graph_says, edge_says}
use Rattle.edges.specs.Promises.{GivesGraph, TellsEdge}

-- the reason of a number: the cases stand in the order of their numbers
abbrev reason_of : ℕ → Option Reason
reason_of n = get_or (None ∷ Some Conflict ∷ Some WriteOrder ∷ Some ReadBefore ∷ []) n None

known : (r : Option Reason) → reason_of (reason_says r) ≡ r
known None = refl
known (Some Conflict) = refl
known (Some WriteOrder) = refl
known (Some ReadBefore) = refl

pub same_graph : (a b : Result ℕ Refusal) → graph_says a ≡ graph_says b → a ≡ b
same_graph (Ok s) (Ok t) e = cc
same_graph (Ok s) (Err r) e = cc
same_graph (Err r) (Ok t) e = cc
same_graph (Err r) (Err s) e = ap Err (same_refusal r s (cc) (cc))

pub same_edge : (a b : Result (Option Reason) Refusal) → edge_says a ≡ edge_says b → a ≡ b
same_edge (Ok m) (Ok n) e = let q : reason_says m ≡ reason_says n = cc in ap Ok (sym (known m) ∙ ap reason_of q ∙ known n)
same_edge (Ok m) (Err r) e = cc
same_edge (Err r) (Ok n) e = cc
same_edge (Err r) (Err s) e = ap Err (same_refusal r s (cc) (cc))

-- THEOREM: any two answers that `graph_of_log` promises for a log and a table are equal, and so are the tables left
pub graph_determined : (log old : List ℕ) (a b : Result ℕ Refusal) (left right : List ℕ) → GivesGraph log old a left → GivesGraph log old b right
    → (a ≡ b) × (left ≡ right)
graph_determined log old a b left right p q = (same_graph a b (p.says ∙ sym q.says), p.leaves ∙ sym q.leaves)

-- THEOREM: any two answers that `edge_between` promises for a log and two numbers are equal
pub edge_determined : (log : List ℕ) (i j : ℕ) (a b : Result (Option Reason) Refusal) → TellsEdge log i j a → TellsEdge log i j b → a ≡ b
edge_determined log i j a b p q = same_edge a b (p ∙ sym q)
