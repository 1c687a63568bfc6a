-- The log of document 01: its records, and what each of them names. A log is the list of its bytes. A record is known by its place, counted
-- from 0.
use Rattle.std.specs.Prelude.{ℕ, ◌+◌, ◌*◌, ◌/◌, ◌<◌, List, Bool, length, get_or, eqb}

-- "a run of records of 4 bytes"
abbrev pub record_bytes : ℕ
record_bytes = 4

-- "at most 64 transactions (0 to 63), 64 items (0 to 63), 16 sites (0 to 15) and 4,096 records"
abbrev pub transactions : ℕ
transactions = 64

abbrev pub items : ℕ
items = 64

abbrev pub sites : ℕ
sites = 16

abbrev pub most_records : ℕ
most_records = 4096

-- "16,384 bytes"
abbrev pub most_bytes : ℕ
most_bytes = most_records * record_bytes

-- "kind, transaction, item, site"
unfoldable pub kind : List ℕ → ℕ → ℕ
kind log k = get_or log (k * record_bytes) 0

unfoldable pub transaction : List ℕ → ℕ → ℕ
transaction log k = get_or log (k * record_bytes + 1) 0

unfoldable pub item : List ℕ → ℕ → ℕ
item log k = get_or log (k * record_bytes + 2) 0

unfoldable pub site : List ℕ → ℕ → ℕ
site log k = get_or log (k * record_bytes + 3) 0

-- how many records the log has
unfoldable pub records : List ℕ → ℕ
records log = length log / record_bytes

-- record k is there, and its numbers are below the limits, whatever its kind (a commit's are narrower still)
pub record Within (log : List ℕ) (k : ℕ) : Type 0 where
  pub there : k < records log
  pub transaction_within : transaction log k < transactions
  pub item_within : item log k < items
  pub site_within : site log k < sites

-- "Kinds: 1 read, 2 write, 3 commit"
unfoldable pub read_kind : ℕ → Bool
read_kind b = eqb b 1

unfoldable pub write_kind : ℕ → Bool
write_kind b = eqb b 2

unfoldable pub commit_kind : ℕ → Bool
commit_kind b = eqb b 3

unfoldable pub is_read : List ℕ → ℕ → Bool
is_read log k = read_kind (kind log k)

unfoldable pub is_write : List ℕ → ℕ → Bool
is_write log k = write_kind (kind log k)

unfoldable pub is_commit : List ℕ → ℕ → Bool
is_commit log k = commit_kind (kind log k)

-- "A copy is an item at a site; its copy number is item × 16 + site"
unfoldable pub copy_number : ℕ → ℕ → ℕ
copy_number x s = x * sites + s

-- the copy that a read or a write names
unfoldable pub copy_of : List ℕ → ℕ → ℕ
copy_of log k = copy_number (item log k) (site log k)
