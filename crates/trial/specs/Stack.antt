-- What the bytes of a stored stack of logs say.
use Rattle.std.specs.Prelude.{ℕ, ◌+◌, ◌*◌, List, slice_index}

-- the bytes before a log
abbrev pub header_size : ℕ
header_size = 4

-- the number in the two bytes from a place on, the low one first
abbrev pub number_at : List ℕ → ℕ → ℕ
number_at stack at = slice_index stack at + slice_index stack (at + 1) * 256

-- how long the first log is
abbrev pub log_size : List ℕ → ℕ
log_size stack = number_at stack 0

-- how long an answer buffer it asks for
abbrev pub room_asked : List ℕ → ℕ
room_asked stack = number_at stack 2
