-- `Set::next_from` meets its contract: the lowest 1 of what is above leads to the member, by the laws in Lowest.
use Rattle.std.proofs.Common.{sym, arith, w64}
use Rattle.sets.proofs.Lowest.{lowest_from, none_from, none_past}
use Rattle.sets.proofs.Set.next_from.Goals as goal

pub returns-then-from-ge-NUMBERS-clause-found : goal.returns-then-from-ge-NUMBERS-clause-found
returns-then-from-ge-NUMBERS-clause-found c = sym (none_past c.args.self c.args.from 64 (omega (arith, c.if-from-ge-NUMBERS.true)))

pub returns-then-above-eq0-clause-found : goal.returns-then-above-eq0-clause-found
returns-then-above-eq0-clause-found c = rw (← c.self.view_is) (sym (none_from c.self.inside.bits c.args.from 64 c.if-above-eq0.true))

pub returns-clause-found : goal.returns-clause-found
returns-clause-found c = rw (← c.self.view_is) (sym (lowest_from w64 c.self.inside.bits c.args.from c.self.invariant c.if-above-eq0.false))
