-- The promises of src/line.rt, and of whoever prints a text, determine every byte of what is given or was lent.
use Rattle.std.proofs.Common.{ℕ, ◌≡◌, sym, ◌∙◌, List}
use Rattle.arrayvec.specs.ArrayString.{ArrayString}
use Rattle.printing.specs.Kept.{Put, PutInFront}
use Rattle.printing.specs.Promises.{Prints}

-- THEOREM: any two texts that come of the same bytes put behind the same text have the same bytes. So it is for `push_records`.
pub put_determined : (bytes : List ℕ) (old left right : ArrayString) → Put old bytes left → Put old bytes right → left.bytes ≡ right.bytes
put_determined bytes old left right p q = p ∙ sym q

-- THEOREM: any two places behind the same bytes, put into the front of the same bytes that were lent, are equal, and so are the bytes left. So
-- it is for `put_first`.
pub put_in_front_determined : (bytes old left right : List ℕ) (r s : ℕ) → PutInFront old bytes left r → PutInFront old bytes right s
    → (r ≡ s) × (left ≡ right)
put_in_front_determined bytes old left right r s p q = (p.ends ∙ sym q.ends, p.written ∙ sym q.written)

-- two texts that print the same bytes have the same bytes
pub same_text : (bytes : List ℕ) (left right : ArrayString) → Prints bytes left → Prints bytes right → left.bytes ≡ right.bytes
same_text bytes left right p q = p.is ∙ sym q.is
