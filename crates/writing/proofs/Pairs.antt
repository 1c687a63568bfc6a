-- Answer records as they are written one by one.
use Rattle.std.proofs.Common.{ℕ, ◌+◌, ◌*◌, arith, add-one, ◌≡◌, refl, sym, ◌∙◌, ap, List, ◌∷◌, length, set, []}
use Rattle.std.proofs.Math.Seq.{sets, length-sets}
use Rattle.lines.proofs.Lists.{sets_append}
use Rattle.answers.specs.Verdict.{record_size, pairs}
use Rattle.answers.proofs.AnswerRecords.{length_pairs}

-- none is written yet, and one more
pub pairs_none : (old : List ℕ) (f g : ℕ → ℕ) → sets old 0 (pairs 0 f g) ≡ old
unfolding pairs
pairs_none old f g = refl

pub pairs_more : (old : List ℕ) (f g : ℕ → ℕ) (k : ℕ)
    → sets old 0 (pairs (k + 1) f g) ≡ set (set (sets old 0 (pairs k f g)) (k * record_size) (f k)) (k * record_size + 1) (g k)
unfolding pairs
pairs_more old f g k =
    let before = sets old 0 (pairs k f g) in
    let at : 0 + length (pairs k f g) ≡ k * record_size = omega (arith, length_pairs k f g) in
    ap (λ (e : ℕ). sets old 0 (pairs e f g)) (add-one k)
    ∙ sets_append (pairs k f g) (f k ∷ g k ∷ []) old 0
    ∙ ap (λ (e : ℕ). sets before e (f k ∷ g k ∷ [])) at
    ∙ sym (ap (λ (e : ℕ). set (set before (k * record_size) (f k)) e (g k)) (add-one (k * record_size)))

-- what has been written takes no room away
pub pairs_room : (old new : List ℕ) (n : ℕ) (f g : ℕ → ℕ) → new ≡ sets old 0 (pairs n f g) → length new ≡ length old
pairs_room old new n f g e = ap length e ∙ length-sets old 0 (pairs n f g)
