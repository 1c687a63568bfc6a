-- Rows 4 and 5 by the kind byte: a read or a write, a commit, or neither. Each law computes the two tests.
use Rattle.std.proofs.Common.{ℕ, zero, suc, ◌<◌, ◌≤◌, arith, ◌≡◌, refl, not, ◌&&◌, eqb, ltb, ne_eqb}
use Rattle.rules.specs.Answer.{refused}
use Rattle.rules.specs.Rows.{row_answer, answer_of}
use Rattle.rules.specs.Record.{transactions, items, sites, read_kind, write_kind, commit_kind}
use Rattle.rules.specs.Form.{known_kind, in_range, form_rows}

-- a read or a write: the kinds 1 and 2
pub access_form : (k b t x s : ℕ) → 1 ≤ b → b < 3
    → answer_of (form_rows k b t x s) ≡ row_answer 5 (not (ltb x items && ltb s sites && ltb t transactions)) k
unfolding answer_of known_kind in_range read_kind write_kind commit_kind
access_form k zero t x s f l = absurd (omega arith)
access_form k (suc zero) t x s f l = refl
access_form k (suc (suc zero)) t x s f l = refl
access_form k (suc (suc (suc b))) t x s f l = absurd (omega arith)

pub commit_form : (k b t x s : ℕ) → b ≡ 3
    → answer_of (form_rows k b t x s) ≡ row_answer 5 (not (eqb x 0 && eqb s 0 && ltb t transactions)) k
unfolding answer_of known_kind in_range read_kind write_kind commit_kind
commit_form k b t x s e = rw e refl

pub no_form : (k b t x s : ℕ) → (b ≡ 1 → ⊥) → (b ≡ 2 → ⊥) → (b ≡ 3 → ⊥) → answer_of (form_rows k b t x s) ≡ refused 4 k
unfolding answer_of known_kind in_range read_kind write_kind commit_kind
no_form k b t x s f g h = simp (ne_eqb b 1 f, ne_eqb b 2 g, ne_eqb b 3 h)
