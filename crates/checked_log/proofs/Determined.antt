-- The promises determine the answers of a check and of the question of a source.
use Rattle.std.proofs.Common.{ℕ, ◌≡◌, refl, sym, ◌∙◌, ap, ap₂, List}
use Rattle.refusals.proofs.Determined.{same_refusal, same_checked}
use Rattle.sets.specs.Search.{found_says}
use Rattle.histories.specs.Source.{Source}
use Rattle.checked_log.specs.Numbers.{passed_says, source_says, told_source}
use Rattle.std.specs.Prelude.{Result, Ok, Err, Some, None, Option as Found}
use Rattle.refusals.specs.declared.refusal.Refusal.{Refusal}
use Rattle.checked_log.specs.Promises.{ChecksLength, ChecksContent, ChecksLog, ChecksPassed, FindsSource, TellsSource}
use Rattle.checked_log.specs.declared.source.Source.{Source as Told}

abbrev two : (t place : ℕ) → Told
two t place = record { transaction = t; place = place }

pub same_source : (a b : Result (Found Told) Refusal) → source_says a ≡ source_says b → a ≡ b
same_source (Ok (Some s)) (Ok (Some t)) e =
    let q : told_source s ≡ told_source t = cc in
    ap (λ (x : Told). Ok (Some x)) (ap₂ two (ap (λ (x : Source). x.transaction) q) (ap (λ (x : Source). x.place) q))
same_source (Ok (Some s)) (Ok None) e = cc
same_source (Ok (Some s)) (Err r) e = cc
same_source (Ok None) (Ok (Some t)) e = cc
same_source (Ok None) (Ok None) e = refl
same_source (Ok None) (Err s) e = cc
same_source (Err r) (Ok (Some t)) e = cc
same_source (Err r) (Ok None) e = cc
same_source (Err r) (Err s) e = ap Err (same_refusal r s (cc) (cc))

pub same_passed : (a b : Result (List ℕ) Refusal) → passed_says a ≡ passed_says b → a ≡ b
same_passed (Ok l) (Ok m) e = let q : l ≡ m = cc in ap Ok q
same_passed (Ok l) (Err s) e = cc
same_passed (Err r) (Ok m) e = cc
same_passed (Err r) (Err s) e = ap Err (same_refusal r s (cc) (cc))

pub same_found : (a b : Found ℕ) → found_says a ≡ found_says b → a ≡ b
same_found (Some e) (Some f) h = cc
same_found (Some e) None h = cc
same_found None (Some f) h = cc
same_found None None h = refl

-- THEOREM: any two answers that `check` promises for a log are equal; and so for its halves
pub check_determined : (log : List ℕ) (a b : Result (Unit {0}) Refusal) → ChecksLog log a → ChecksLog log b → a ≡ b
check_determined log a b p q = same_checked a b (p ∙ sym q)

pub length_determined : (log : List ℕ) (a b : Result (Unit {0}) Refusal) → ChecksLength log a → ChecksLength log b → a ≡ b
length_determined log a b p q = same_checked a b (p ∙ sym q)

pub content_determined : (log : List ℕ) (a b : Result (Unit {0}) Refusal) → ChecksContent log a → ChecksContent log b → a ≡ b
content_determined log a b p q = same_checked a b (p ∙ sym q)

-- THEOREM: any two answers that `Passed::check` promises for a log are equal
pub passed_determined : (log : List ℕ) (a b : Result (List ℕ) Refusal) → ChecksPassed log a → ChecksPassed log b → a ≡ b
passed_determined log a b p q = same_passed a b (p ∙ sym q)

-- THEOREM: any two answers that `source_of_record` promises for a log and a number are equal
pub source_determined : (log : List ℕ) (k : ℕ) (a b : Result (Found Told) Refusal) → TellsSource log k a → TellsSource log k b → a ≡ b
source_determined log k a b p q = same_source a b (p ∙ sym q)

-- THEOREM: any two answers that `source_record` promises for a log and a record are equal
pub found_determined : (log : List ℕ) (k : ℕ) (a b : Found ℕ) → FindsSource log k a → FindsSource log k b → a ≡ b
found_determined log k a b p q = same_found a b (p ∙ sym q)
