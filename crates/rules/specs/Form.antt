-- Rows 4 and 5 of document 01's table, which look at the bytes of one record alone.
use Rattle.std.specs.Prelude.{ℕ, List, [], ◌∷◌, Bool, not, ◌&&◌, ◌||◌, cond, eqb, ltb}
use Rattle.rules.specs.Rows.{Row, row}
use Rattle.rules.specs.Record.{transactions, items, sites}
use Rattle.rules.specs.Record.{read_kind, write_kind, commit_kind}

-- 4: "kind not 1, 2 or 3"
unfoldable pub known_kind : ℕ → Bool
known_kind b = read_kind b || write_kind b || commit_kind b

-- 5: "a number outside its range for that kind": transactions 0 to 63, items 0 to 63, sites 0 to 15; "a commit has item 0 and
-- site 0"
unfoldable pub in_range : (b t x s : ℕ) → Bool
in_range b t x s = cond (commit_kind b) (eqb x 0 && eqb s 0) (ltb x items && ltb s sites) && ltb t transactions

-- 4 and 5, which look at the four bytes of one record alone
abbrev pub form_rows : (k b t x s : ℕ) → List Row
form_rows k b t x s = row 4 (not (known_kind b)) k ∷ row 5 (not (in_range b t x s)) k ∷ []
