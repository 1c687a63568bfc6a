-- What reading comes to.
use Rattle.std.specs.Prelude.{ℕ, Result, Ok, Err}
use Rattle.reading.specs.declared.ReadFailed.{ReadFailed}

-- how many bytes were read, whether or not a read failed
abbrev pub bytes_read : Result ℕ ReadFailed → ℕ
bytes_read (Ok n) = n
bytes_read (Err e) = e.count
