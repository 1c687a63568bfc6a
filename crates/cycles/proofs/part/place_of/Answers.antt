-- `cycles::part::place_of` meets its contract: the place found is the rule's, and where none is, so is the length.
use Rattle.std.proofs.Common.{rules, tests, ◌≡◌, ◌==◌, ℕ, length, ◌∙◌, ap}
use Rattle.std.specs.Prelude.{unwrap_or, position, Option}
use Rattle.std.proofs.lemmas.Iterator.{YieldsList-from_slice}
use Rattle.std.proofs.lemmas.Iterator.Search.{position_from_yields_List}
use Rattle.cycles.proofs.Parts.{place_found}
use Rattle.cycles.proofs.part.place_of.Goals as goal

pub returns : goal.returns
returns c =
    let xs = c.args.list.now in
    let is_t = λ (x : ℕ). x == c.args.t in
    let found : c.position.result ≡ position is_t xs =
    position_from_yields_List is_t _ _ _ c.position.ensures.ran (YieldsList-from_slice xs cc) (λ x r q k. search (rules, tests))
    in
    c.unwrap_or.ensures ∙ ap (λ (o : Option ℕ). unwrap_or o (length xs)) found ∙ place_found c.args.t xs
