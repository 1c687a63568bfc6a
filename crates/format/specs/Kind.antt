-- What a record's kind says of the record.
use Rattle.std.specs.Prelude.{ℕ, List, Bool}
use Rattle.rules.specs.Record.{is_read, is_write, is_commit}
use Rattle.format.specs.declared.kind.Kind.{Kind}
use Rattle.format.specs.declared.kind.Kind.TheVariants.{Read, Write, Commit}

-- record k is of this kind
abbrev pub is_of : Kind → List ℕ → ℕ → Bool
is_of Read = is_read
is_of Write = is_write
is_of Commit = is_commit
