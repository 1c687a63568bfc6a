-- What is promised of a text that is given.
use Rattle.std.specs.Prelude.{ℕ, ◌≤◌, ◌≡◌, List}
use Rattle.arrayvec.specs.ArrayString.{ArrayString, array_string_len}
use Rattle.printing.specs.Lines.{text_room}

-- the text is these bytes, and there is room for them
pub record Prints (bytes : List ℕ) (text : ArrayString) : Type 0 where
  pub is : text.bytes ≡ bytes
  pub fits : array_string_len text ≤ text_room
