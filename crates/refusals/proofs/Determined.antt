-- A refusal is known by its number and place, so two answers of a check that say the same are the same.
use Rattle.std.proofs.Common.{ℕ, ◌-◌, ◌≡◌, refl, sym, ◌∙◌, ap, ap₂, ◌∷◌, get_or, []}
use Rattle.refusals.specs.Numbers.{number_of, place_of, checked_says}
use Rattle.refusals.specs.declared.refusal.Refusal.{Refusal}
use Rattle.refusals.specs.declared.refusal.Refusal.TheVariants.{TooLong, Ragged, ShortBuffer, BadKind, OutOfRange, AfterCommit, ReadsUnwritten}
use Rattle.refusals.specs.declared.refusal.Refusal.TheVariants.{ReadsPastOwn, NeverCommits, BadQuestion}
use Rattle.std.specs.Prelude.{Result, Ok, Err}

-- the refusal of a number and a place: the cases stand in the order of their numbers
abbrev refusal_of : ℕ → ℕ → Refusal
refusal_of n k =
    get_or
    (TooLong ∷ Ragged ∷ ShortBuffer ∷ BadKind k ∷ OutOfRange k ∷ AfterCommit k ∷ ReadsUnwritten k ∷ ReadsPastOwn k ∷ NeverCommits k ∷ [])
    (n - 1) BadQuestion

known : (r : Refusal) → refusal_of (number_of r) (place_of r) ≡ r
known TooLong = refl
known Ragged = refl
known ShortBuffer = refl
known (BadKind k) = refl
known (OutOfRange k) = refl
known (AfterCommit k) = refl
known (ReadsUnwritten k) = refl
known (ReadsPastOwn k) = refl
known (NeverCommits k) = refl
known BadQuestion = refl

pub same_refusal : (r s : Refusal) → number_of r ≡ number_of s → place_of r ≡ place_of s → r ≡ s
same_refusal r s n p = sym (known r) ∙ ap₂ refusal_of n p ∙ known s

-- no refusal has number 0: the law behind the words of the C header, "where number is 0 nothing was refused"
pub no_zero : (r : Refusal) → number_of r ≡ 0 → ⊥
no_zero TooLong e = cc
no_zero Ragged e = cc
no_zero ShortBuffer e = cc
no_zero (BadKind k) e = cc
no_zero (OutOfRange k) e = cc
no_zero (AfterCommit k) e = cc
no_zero (ReadsUnwritten k) e = cc
no_zero (ReadsPastOwn k) e = cc
no_zero (NeverCommits k) e = cc
no_zero BadQuestion e = cc

pub same_checked : (a b : Result (Unit {0}) Refusal) → checked_says a ≡ checked_says b → a ≡ b
same_checked (Ok x) (Ok y) e = refl
same_checked (Ok x) (Err s) e = cc
same_checked (Err r) (Ok y) e = cc
same_checked (Err r) (Err s) e = ap Err (same_refusal r s (cc) (cc))
