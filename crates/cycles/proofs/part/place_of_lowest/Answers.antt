-- `cycles::part::place_of_lowest` meets its contract: the least number met is the rule's lowest.
use Rattle.std.proofs.Common.{◌≡◌, ℕ, ap, sym, ◌∙◌, min}
use Rattle.std.specs.Prelude.{unwrap_or, Option}
use Rattle.std.specs.List.{reduce}
use Rattle.std.proofs.lemmas.Iterator.{YieldsList-from_slice}
use Rattle.std.proofs.lemmas.Iterator.Adapters.{option_map_id}
use Rattle.std.proofs.lemmas.Iterator.Consumers.{YieldsList-from_copied, min_from_yields_List}
use Rattle.lines.specs.Rule.{place_of, lowest_member}
use Rattle.cycles.proofs.Parts.{least_found}
use Rattle.cycles.proofs.part.place_of_lowest.Goals as goal

pub returns : goal.returns
returns c =
    let xs = c.args.list.now in
    let found : c.min.result ≡ reduce min xs =
    sym (option_map_id _) ∙ min_from_yields_List _ _ c.min.ensures.ran (YieldsList-from_copied (YieldsList-from_slice xs cc))
    in
    let is_lowest : c.unwrap_or-lowest.result ≡ lowest_member xs =
    c.unwrap_or-lowest.ensures ∙ ap (λ (o : Option ℕ). unwrap_or o 0) found ∙ least_found xs
    in
    c.place_of.ensures ∙ ap (λ (x : ℕ). place_of x xs) is_lowest
