-- A slice taken in chunks of a record each: what a chunk's bytes are in the slice.
use Rattle.std.proofs.Common.{ℕ, zero, suc, ◌+◌, ◌*◌, ◌<◌, arith, ◌≡◌, ◌∙◌, ap, List, [], get_or, drop}
use Rattle.std.proofs.lemmas.List.{get_or-take, get_or-drop}
use Rattle.std.specs.Simd.{first_chunks}

pub byte_of_chunk : (size n k i : ℕ) (xs : List ℕ) → k < n → i < size → get_or (get_or (first_chunks size n xs) k []) i 0 ≡ get_or xs (k * size + i) 0
byte_of_chunk size zero k i xs l m = absurd (omega (arith, l))
byte_of_chunk size (suc n) zero i xs l m = get_or-take size xs i 0 m ∙ ap (λ (j : ℕ). get_or xs j 0) (grind arith)
byte_of_chunk size (suc n) (suc k) i xs l m =
    byte_of_chunk size n k i (drop size xs) (omega (arith, l)) m ∙ get_or-drop size xs (k * size + i) 0 ∙ ap (λ (j : ℕ). get_or xs j 0) (grind arith)
