-- Answers of document 01: what was asked for, or a numbered refusal with its place; and how refusals are tried in order.
use Rattle.std.specs.Prelude.{ℕ}

infixl 20 ◌then◌
pub data Answer (A : Type 0) : Type 0 where
  gives : A → Answer A
  refused : (number place : ℕ) → Answer A

-- a refusal of the first is the answer; without one the second is
abbrev pub ◌then◌ : {A B : Type 0} → Answer A → Answer B → Answer B
gives a then b = b
refused number place then b = refused number place

-- what a check answers of a log in which it finds nothing to refuse
abbrev pub passed : Answer (Unit {0})
passed = gives tt
