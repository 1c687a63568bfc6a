-- Laws of answers in order: what it takes to pass, and which refusal is given.
use Rattle.std.proofs.Common.{ℕ, ◌≡◌, refl}
use Rattle.rules.specs.Answer.{Answer, gives, refused, passed, ◌then◌}

-- a refusal is no answer
pub never_both : {A : Type 0} (a : A) (n p : ℕ) → refused n p ≡ gives a → ⊥
never_both a n p e = cc

pub then_left : (a b : Answer (Unit {0})) → (a then b) ≡ passed → a ≡ passed
then_left (gives tt) b e = refl
then_left (refused n p) b e = e

pub then_right : (a b : Answer (Unit {0})) → (a then b) ≡ passed → b ≡ passed
then_right (gives tt) b e = e
then_right (refused n p) b e = cc

pub passed_then : {A : Type 0} (a : Answer (Unit {0})) (b : Answer A) → a ≡ passed → (a then b) ≡ b
passed_then a b e = rw e refl

pub refused_then : (a b : Answer (Unit {0})) {n p : ℕ} → a ≡ refused n p → (a then b) ≡ a
refused_then a b e = rw e refl

-- the number and the place of a refusal
abbrev pub said_number : {A : Type 0} → Answer A → ℕ
said_number (gives a) = 0
said_number (refused n p) = n

abbrev pub said_place : {A : Type 0} → Answer A → ℕ
said_place (gives a) = 0
said_place (refused n p) = p

-- where what comes last is always given, a refusal is that of the checks before it, and what is given has passed them
pub then_refused : {A : Type 0} (a : Answer (Unit {0})) (x : A) (n p : ℕ) → (a then gives x) ≡ refused n p → a ≡ refused n p
then_refused (gives tt) x n p e = cc
then_refused (refused m q) x n p e = cc

pub then_given : {A : Type 0} (a : Answer (Unit {0})) (x y : A) → (a then gives x) ≡ gives y → a ≡ passed
then_given (gives tt) x y e = refl
then_given (refused n p) x y e = cc

-- and it is what was to be given
pub then_same : {A : Type 0} (a : Answer (Unit {0})) (x y : A) → (a then gives x) ≡ gives y → x ≡ y
then_same (gives tt) x y e = cc
then_same (refused n p) x y e = cc
