-- What the check leaves to show of `ReasonTables::joined`; its invariant stands beside this file.
use Rattle.std.proofs.Common.{Bool, rules, ap, ap₂, refl, arith, eqb, not, ◌&&◌, ◌||◌, ◌∙◌}
use Rattle.std.proofs.Math.Bool.{and_comm}
use Rattle.sets.specs.Bits.{in_row}
use Rattle.sets.proofs.Tables.{row_read, rows_none, rows_more}
use Rattle.rules.specs.Record.{transactions}
use Rattle.tables.specs.ReasonTables.{any_reason}
use Rattle.tables.proofs.reasons.ReasonTables.joined.Goals as goal

pub loop-i-init : goal.loop-i-init
loop-i-init c = let s = c.args.self.now in (omega arith, rows_none transactions (any_reason s.by_conflict s.by_order s.by_read))

pub loop-i-preserved : goal.loop-i-preserved
loop-i-preserved c =
    let s = c.args.self.now in
    let l = c.loop-i in
    let first = s.by_conflict in
    let second = s.by_order in
    let third = s.by_read in (
      omega (arith, c.loop-i-test.true),
      rows_more transactions (any_reason first second third) l.i c.without.result l.invariant.1 c.loop-i-test.true
          (λ j.
          c.without.ensures j
          ∙ ap (λ (b : Bool). b && not (eqb l.i j))
          (c.union-all.ensures j
          ∙ ap₂ (λ (a b : Bool). a || b)
          (c.union.ensures j
          ∙ ap₂ (λ (a b : Bool). a || b) (row_read first l.i c.index-self-i.result refl (search rules) j)
          (row_read second l.i c.index-self-i-in-loop-i.result refl (search rules) j))
          (row_read third l.i c.index-self-i-in-loop-i-2.result refl (search rules) j))
          ∙ and_comm (in_row first l.i j || in_row second l.i j || in_row third l.i j) (not (eqb l.i j))),
    )
