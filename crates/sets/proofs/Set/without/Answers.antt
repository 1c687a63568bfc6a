-- `Set::without` meets its contract: the bit is put in first, and so turned over it is out.
use Rattle.std.proofs.Common.{ℕ, ap, ◌∙◌, bit_or, bit_xor, arith, ◌*◌, ◌%◌, ◌^◌}
use Rattle.std.proofs.lemmas.Nat.{one_shl, or_lt, xor_lt}
use Rattle.sets.specs.Bits.{has}
use Rattle.sets.proofs.Members.{has_without}
use Rattle.sets.proofs.Set.without.Goals as goal

pub returns : goal.returns
returns c =
    rw c.self.view_is
    (λ j. ap (λ (m : ℕ). has (bit_xor (bit_or c.args.self m) m) j) (one_shl c.args.i 64 c.requires) ∙ has_without c.args.self c.args.i j)

pub invariant_of-result : goal.invariant_of-result
invariant_of-result c =
    let own = 1 * 2 ^ c.args.i % 2 ^ 64 in
    xor_lt 64 (bit_or c.self.inside.bits own) own (or_lt 64 c.self.inside.bits own c.self.invariant (omega arith)) (omega arith)
