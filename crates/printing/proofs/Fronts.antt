-- What two copies into the front of a buffer leave in it.
use Rattle.std.proofs.Common.{ℕ, ◌+◌, ◌≤◌, arith, ◌≡◌, refl, sym, ◌∙◌, ap, ap₂, List, ◌++◌, length, drop}
use Rattle.std.proofs.Common.{append_assoc, length-append, take_at, drop_at, drop-drop}
use Rattle.std.proofs.lemmas.List.Edits.{sets, sets-eq}
use borrow.Rule.Slice.PartMut.{put_mid}

-- bytes that were copied to the front, and others copied right behind them, are one run
pub copied_behind : (xs ys old : List ℕ) (k : ℕ) → k ≡ length ys → length xs + length ys ≤ length old
    → put_mid (length xs) k (xs ++ drop (length xs) old) ys ≡ sets old 0 (xs ++ ys)
copied_behind xs ys old k e l =
    let rest = drop (length xs) old in
    ap₂ (λ (front behind : List ℕ). front ++ (ys ++ drop k behind)) (take_at xs rest (length xs) refl) (drop_at xs rest (length xs) refl)
    ∙ ap (λ (behind : List ℕ). xs ++ (ys ++ behind))
    (drop-drop k (length xs) old ∙ ap (λ (n : ℕ). drop n old) (omega (arith, e, length-append xs ys)))
    ∙ sym (append_assoc xs ys (drop (0 + length (xs ++ ys)) old))
    ∙ sym (sets-eq (xs ++ ys) old 0 (omega (arith, l, length-append xs ys)))
