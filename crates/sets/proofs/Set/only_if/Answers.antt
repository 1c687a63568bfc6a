-- `Set::only_if` meets its contract, in either branch.
use Rattle.std.proofs.Common.{Bool, ◌&&◌, sym, ◌∙◌, ap}
use Rattle.sets.specs.Bits.{has}
use Rattle.sets.proofs.Members.{has_zero}
use Rattle.sets.proofs.Set.only_if.Goals as goal

pub returns-else-test : goal.returns-else-test
returns-else-test c j = has_zero j ∙ sym (ap (λ (b : Bool). b && has c.args.self j) c.if-test.false)
