-- A line or a cycle is told by its length: laws of what the rule gives, whatever it is.
use Rattle.std.proofs.Common.{ℕ, ◌≡◌, refl, List, length}
use Rattle.lines.specs.Rule.{LineOrCycle, line, cycle, members_of, length_of}

-- how many members
abbrev pub count_of : LineOrCycle ℕ → ℕ
count_of (line n) = n
count_of (cycle n) = n

-- a line is no cycle
pub line_not_cycle : (m n : ℕ) → line m ≡ cycle n → ⊥
line_not_cycle m n e = cc

-- what has the length of a line is one, and so for a cycle
pub record IsLine (n : ℕ) (o : LineOrCycle (List ℕ)) : Type 0 where
  pub is_one : o ≡ line (members_of o)
  pub counted : n ≡ length (members_of o)

pub record IsCycle (n : ℕ) (o : LineOrCycle (List ℕ)) : Type 0 where
  pub is_one : o ≡ cycle (members_of o)
  pub counted : n ≡ length (members_of o)

pub line_of : (n : ℕ) (o : LineOrCycle (List ℕ)) → line n ≡ length_of o → IsLine n o
line_of n (line xs) e = record { is_one = refl; counted = cc }
line_of n (cycle xs) e = cc

pub cycle_of : (n : ℕ) (o : LineOrCycle (List ℕ)) → cycle n ≡ length_of o → IsCycle n o
cycle_of n (line xs) e = cc
cycle_of n (cycle xs) e = record { is_one = refl; counted = cc }
