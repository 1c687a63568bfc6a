-- `Set::with` meets its contract: 1 << i is the set of i alone.
use Rattle.std.proofs.Common.{ℕ, ap, ◌∙◌, bit_or, arith, ◌*◌, ◌%◌, ◌^◌}
use Rattle.std.proofs.lemmas.Nat.{one_shl, or_lt}
use Rattle.sets.specs.Bits.{has}
use Rattle.sets.proofs.Members.{has_with}
use Rattle.sets.proofs.Set.with.Goals as goal

pub returns : goal.returns
returns c = rw c.self.view_is (λ j. ap (λ (m : ℕ). has (bit_or c.args.self m) j) (one_shl c.args.i 64 c.requires) ∙ has_with c.args.self c.args.i j)

pub invariant_of-result : goal.invariant_of-result
invariant_of-result c = or_lt 64 c.self.inside.bits (1 * 2 ^ c.args.i % 2 ^ 64) c.self.invariant (omega arith)
