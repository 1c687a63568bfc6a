-- How the rule ends, told from those that are left. None left: it gives the line. One left: it gives the cycle of the walk from the lowest,
-- by whatever steps go to the lowest predecessors.
use Rattle.std.proofs.Common.{ℕ, zero, suc, ◌<◌, ◌≡◌, refl, sym, ◌∙◌, ap, Bool, true, false, List, ◌∷◌, []}
use Rattle.std.proofs.Math.Path.{fun_ext}
use Rattle.std.proofs.Math.Option.{Option, none, some}
use Rattle.lines.specs.Rule.{among, placed, rest, lowest_predecessor, walk, to_lowest, sorted, line, cycle}
use Rattle.lines.proofs.Chosen.{predecessor_left, lowest_is}
use Rattle.lines.proofs.Clauses.{sorted_line, sorted_cycle, walk_zero, walk_lost, walk_ends, walk_goes}

-- two walks that go the same way from each of a set, and never leave it
pub walk_same : (f g : ℕ → Option ℕ) (p : ℕ → Bool) → ((t : ℕ) → p t ≡ true → f t ≡ g t)
    → ((t s : ℕ) → p t ≡ true → f t ≡ some s → p s ≡ true)
    → (m t : ℕ) (path : List ℕ) → p t ≡ true → walk f m t path ≡ walk g m t path
walk_same f g p e stays zero t path h = walk_zero f t path ∙ sym (walk_zero g t path)
walk_same f g p e stays (suc m) t path h = go (f t) refl (λ s k. walk_same f g p e stays m s (s ∷ path) k)
  where
    go : (o : Option ℕ) → f t ≡ o → ((s : ℕ) → p s ≡ true → walk f m s (s ∷ path) ≡ walk g m s (s ∷ path))
        → walk f (suc m) t path ≡ walk g (suc m) t path
    go none q ih = walk_lost f m t path q ∙ sym (walk_lost g m t path (sym (e t h) ∙ q))
    go (some s) q ih = met (among path s) refl
      where
        met : (b : Bool) → among path s ≡ b → walk f (suc m) t path ≡ walk g (suc m) t path
        met true a = walk_ends f m t s path q a ∙ sym (walk_ends g m t s path (sym (e t h) ∙ q) a)
        met false a = walk_goes f m t s path q a ∙ ih s (stays t s h q) ∙ sym (walk_goes g m t s path (sym (e t h) ∙ q) a)

module _ (n : ℕ) (edge : ℕ → ℕ → Bool) (set left : ℕ → Bool) (same : (t : ℕ) → left t ≡ rest n edge n set t) where
  -- none left
  pub ends_in_line : ((t : ℕ) → t < n → left t ≡ false) → sorted n edge set ≡ line (placed n edge n set)
  ends_in_line none_left = sorted_line n edge set (λ t l. sym (same t) ∙ none_left t l)

  -- one left
  module _ (back : ℕ → Option ℕ) (is_lowest : (t : ℕ) → left t ≡ true → lowest_predecessor n edge left t ≡ back t)
      (t : ℕ) (low : t < n) (there : left t ≡ true) (none_before : (u : ℕ) → u < t → left u ≡ false) where
    stays : (u s : ℕ) → left u ≡ true → lowest_predecessor n edge left u ≡ some s → left s ≡ true
    stays u s h e = predecessor_left edge left u s (lowest_is edge n left u s e).precedes

    same_walk : walk (lowest_predecessor n edge left) n t (t ∷ []) ≡ walk back n t (t ∷ [])
    same_walk = walk_same (lowest_predecessor n edge left) back left is_lowest stays n t (t ∷ []) there

    pub ends_in_cycle : sorted n edge set ≡ cycle (to_lowest (walk back n t (t ∷ [])))
    ends_in_cycle =
        sorted_cycle n edge set t low (λ u m. sym (same u) ∙ none_before u m) (sym (same t) ∙ there)
        ∙ ap (λ (f : ℕ → Bool). cycle (to_lowest (walk (lowest_predecessor n edge f) n t (t ∷ [])))) (sym (fun_ext same))
        ∙ ap (λ (xs : List ℕ). cycle (to_lowest xs)) same_walk
