-- The promises of the C face determine the numbers and every byte of the buffers lent, and "none" is no source.
use Rattle.std.proofs.Common.{ℕ, arith, ◌≡◌, refl, sym, ◌∙◌, List, ◌⊎◌, inl, inr}
use Rattle.std.proofs.Math.Option.{Option, none, some}
use Rattle.histories.specs.Source.{Source}
use Rattle.rules.specs.Answer.{Answer, gives, refused}
use Rattle.rules.specs.Questions.{source_answer}
use Rattle.rules.proofs.ToldSources.{told_below}
use Rattle.clib.specs.Coding.{none_number, coded_source}
use Rattle.clib.specs.Promises.{ChecksInC, TellsSourceInC, TellsEdgeInC, SortsInC, JudgesInC}
use Rattle.clib.specs.declared.Coded.{Coded}
use Rattle.clib.specs.declared.CodedSource.{CodedSource}
use Rattle.clib.specs.declared.CodedSorted.{CodedSorted}
use Rattle.clib.specs.declared.CodedVerdict.{CodedVerdict}

-- THEOREM: any two answers that a function of the C face promises are equal, and so are the buffers left
pub check_determined_in_C : (log : List ℕ) (a b : Coded) → ChecksInC log a → ChecksInC log b → a ≡ b
check_determined_in_C log a b p q = p ∙ sym q

pub source_determined_in_C : (log : List ℕ) (k : ℕ) (a b : CodedSource) → TellsSourceInC log k a → TellsSourceInC log k b → a ≡ b
source_determined_in_C log k a b p q = p ∙ sym q

-- THEOREM: the number for "none" says none, in each of the two numbers of a source: no transaction and no record has that number
pub none_alone : (log : List ℕ) (k : ℕ)
    → ((coded_source (source_answer log k)).transaction ≡ none_number) ⊎ ((coded_source (source_answer log k)).«record» ≡ none_number)
    → source_answer log k ≡ gives none
none_alone log k = go (source_answer log k) refl
  where
    go : (a : Answer (Option Source)) → source_answer log k ≡ a
        → ((coded_source a).transaction ≡ none_number) ⊎ ((coded_source a).«record» ≡ none_number) → a ≡ gives none
    go (gives none) q e = refl
    go (gives (some s)) q (inl e) = let b = told_below log k s q in absurd (omega (arith, b.transaction_below, b.place_below, e))
    go (gives (some s)) q (inr e) = let b = told_below log k s q in absurd (omega (arith, b.transaction_below, b.place_below, e))
    go (refused n p) q (inl e) = absurd (omega (arith, e))
    go (refused n p) q (inr e) = absurd (omega (arith, e))

pub edge_determined_in_C : (log : List ℕ) (i j : ℕ) (a b : Coded) → TellsEdgeInC log i j a → TellsEdgeInC log i j b → a ≡ b
edge_determined_in_C log i j a b p q = p ∙ sym q

pub sort_determined_in_C : (table : List ℕ) (set : ℕ) (old : List ℕ) (a b : CodedSorted) (left right : List ℕ)
    → SortsInC table set old a left → SortsInC table set old b right → (a ≡ b) × (left ≡ right)
sort_determined_in_C table set old a b left right p q = (p.says ∙ sym q.says, p.leaves ∙ sym q.leaves)

pub verdict_determined_in_C : (log old : List ℕ) (a b : CodedVerdict) (left right : List ℕ)
    → JudgesInC log old a left → JudgesInC log old b right → (a ≡ b) × (left ≡ right)
verdict_determined_in_C log old a b left right p q = (p.says ∙ sym q.says, p.leaves ∙ sym q.leaves)
