-- What the rule gives, over any edges and any set of numbers below n: the smallest line, or a cycle where there is no line. So a line
-- exists exactly where there is no cycle, and exactly where the rule gives one.
use Rattle.std.proofs.Common.{ℕ, ◌≤◌, arith, ◌≡◌, refl, sym, ◌∙◌, ap, subst, Bool, true, false, ⊎_elim, ◌↔◌, List, [], ◌∷◌, ◌++◌, length, take}
use Rattle.std.proofs.Math.Option.{Option, none, some}
use Rattle.std.proofs.lemmas.Bool.{false_from_ne_true}
use Rattle.sets.specs.Search.{first_below, count_below}
use Rattle.sets.specs.Paths.{Acyclic}
use borrow.Author.Clash.{clash}
use Rattle.sets.proofs.Searches.{None, First, first_none, first_some, first_view}
use Rattle.sets.proofs.Counts.{count_low}
use Rattle.lines.specs.Rule.{among, next, placed, rest, lowest_predecessor, walk, to_lowest, sorted, LineOrCycle, line, cycle, members_of}
use Rattle.lines.specs.Lines.{edge_within, Below, Line, SmallestLine, Cycle, FromLowest, Stuck, Means}
use Rattle.lines.proofs.Lists.{among_nil, among_cases, pigeonhole}
use Rattle.lines.proofs.Chosen.{next_none, within_more, waiting}
use Rattle.lines.proofs.Clauses.{sorted_line, sorted_cycle}
use Rattle.lines.proofs.Placing.{steps_line, line_steps, line_acyclic, line_length, no_line, rest_within, rest_ends, placed_steps, placed_smallest}
use Rattle.lines.proofs.Turned.{from_lowest}
use Rattle.lines.proofs.Rings.{cycle_precedes, linked_more, to_lowest_cycle, walk_cycle}

-- a cycle among those left is one of the set
pub cycle_more : (edge : ℕ → ℕ → Bool) (small large : ℕ → Bool) → ((t : ℕ) → small t ≡ true → large t ≡ true)
    → (xs : List ℕ) → Cycle edge small xs → Cycle edge large xs
cycle_more edge small large m xs c =
    record {
      at_least_two = c.at_least_two;
      none_twice = c.none_twice;
      members = λ t a. m t (c.members t a);
      round = linked_more (edge_within edge small) (edge_within edge large) (within_more edge small large m) (xs ++ take 1 xs) c.round;
    }

module _ (n : ℕ) (edge : ℕ → ℕ → Bool) where
  -- a rest in which none can be placed, and one is left, is stuck
  pub none_next_stuck : (left : ℕ → Bool) (u : ℕ) → left u ≡ true → Below n left → next n edge left ≡ none → Stuck edge left
  none_next_stuck left u l low e = record { some_left = (u, l); waits = λ t h. waiting edge n left t h (next_none edge n left e t (low t h)) }

  -- the cycle that is found from t
  module _ (left : ℕ → Bool) (low : Below n left) (stuck : Stuck edge left) (t : ℕ) (l : left t ≡ true) where
    abbrev ring : List ℕ
    ring = walk (lowest_predecessor n edge left) n t (t ∷ [])

    -- THEOREM: the walk comes round within as many steps as there are members
    pub walk_comes_round : (m : ℕ) → count_below n left ≤ m → Cycle edge left (walk (lowest_predecessor n edge left) m t (t ∷ []))
    walk_comes_round m c = walk_cycle edge n left low stuck m t [] record { none_twice = (among_nil t, tt); all_left = alone; linked = tt } (omega (arith, c))
      where
        alone : (u : ℕ) → among (t ∷ []) u ≡ true → left u ≡ true
        alone u a =
            ⊎_elim
            (λ (e : t ≡ u). ap left (sym e) ∙ l)
            (λ (e : among [] u ≡ true). absurd (clash (among [] u) e (among_nil u)))
            (among_cases t [] u a)

    ring_cycle : Cycle edge left ring
    ring_cycle = walk_comes_round n (count_low left n)

    found_cycle : Cycle edge left (to_lowest ring)
    found_cycle = to_lowest_cycle edge left ring ring_cycle

    found_lowest : FromLowest (to_lowest ring)
    found_lowest = from_lowest ring (omega (arith, ring_cycle.at_least_two))

  module _ (set : ℕ → Bool) (low : Below n set) where
    left_over : ℕ → Bool
    left_over = rest n edge n set

    low_left : Below n left_over
    unfolding left_over
    low_left t h = low t (rest_within edge n n set t h)

    -- none is left
    all_placed : None left_over n → SmallestLine edge set (placed n edge n set)
    unfolding left_over
    all_placed f = record {
      is_line = steps_line edge n set (placed n edge n set) low (placed_steps edge n n set gone);
      smallest = λ ys l. placed_smallest edge n n set ys (line_steps edge n set ys l);
    }
      where
        gone : (t : ℕ) → rest n edge n set t ≡ false
        gone t = false_from_ne_true (rest n edge n set t) (λ h. clash (rest n edge n set t) h (f t (low t (rest_within edge n n set t h))))

    -- one is left
    left_stuck : (t : ℕ) → left_over t ≡ true → Stuck edge left_over
    unfolding left_over
    left_stuck t l = none_next_stuck left_over t l low_left (rest_ends edge n n set (count_low set n))

    cycle_means : (t : ℕ) → left_over t ≡ true
        → Means n edge set (cycle (to_lowest (walk (lowest_predecessor n edge left_over) n t (t ∷ []))))
    unfolding left_over
    cycle_means t l =
        let stuck = left_stuck t l in
        let within = rest_within edge n n set in
        let xs = to_lowest (ring left_over low_left stuck t l) in
        let c = cycle_more edge left_over set within xs (found_cycle left_over low_left stuck t l) in (
          c,
          found_lowest left_over low_left stuck t l,
          omega (arith, pigeonhole n set xs c.none_twice (λ u a. (low u (c.members u a), c.members u a)), count_low set n),
          no_line edge set left_over stuck within,
        )

    -- THEOREM: the rule's line is the smallest line; where it gives a cycle, it is one, and there is no line
    pub sorted_means : Means n edge set (sorted n edge set)
    unfolding left_over
    sorted_means = go (first_below n left_over) (first_view left_over n)
      where
        go : (o : Option ℕ) → First left_over n o → Means n edge set (sorted n edge set)
        go none (first_none f) = subst (Means n edge set) (sym (sorted_line n edge set f)) (all_placed f)
        go (some t) (first_some l h f) = subst (Means n edge set) (sym (sorted_cycle n edge set t l f h)) (cycle_means t h)

    -- either has at most n members, all of them in the set
    pub means_fit : (o : LineOrCycle (List ℕ)) → Means n edge set o → length (members_of o) ≤ n
    means_fit (line xs) w = omega (arith, line_length edge n set xs low w.is_line, count_low set n)
    means_fit (cycle xs) w = w.2

    pub means_within : (o : LineOrCycle (List ℕ)) → Means n edge set o → (t : ℕ) → among (members_of o) t ≡ true → set t ≡ true
    means_within (line xs) w t a = sym (w.is_line.all_and_only t) ∙ a
    means_within (cycle xs) w t a = w.0.members t a

    -- THEOREM: a line that keeps every edge exists exactly where the rule gives one ..
    pub line_where_given : ((xs : List ℕ) × Line edge set xs) ↔ ((xs : List ℕ) × (sorted n edge set ≡ line xs))
    line_where_given = (
      λ w. given w.0 w.1 (sorted n edge set) refl sorted_means,
      λ w. (w.0, shown w.0 (sorted n edge set) sorted_means w.1),
    )
      where
        given : (ys : List ℕ) → Line edge set ys → (o : LineOrCycle (List ℕ)) → sorted n edge set ≡ o → Means n edge set o
            → (xs : List ℕ) × (sorted n edge set ≡ line xs)
        given ys l (line xs) e w = (xs, e)
        given ys l (cycle xs) e w = absurd (w.3 ys l)

        shown : (xs : List ℕ) (o : LineOrCycle (List ℕ)) → Means n edge set o → o ≡ line xs → Line edge set xs
        shown xs o w e = (subst (Means n edge set) e w).is_line

    -- THEOREM: .. exactly where nothing precedes itself, as the chapter says it ..
    pub line_where_acyclic : ((xs : List ℕ) × Line edge set xs) ↔ Acyclic (edge_within edge set)
    line_where_acyclic = (λ w. line_acyclic edge set w.0 w.1, λ a. go a (sorted n edge set) sorted_means)
      where
        go : Acyclic (edge_within edge set) → (o : LineOrCycle (List ℕ)) → Means n edge set o → (xs : List ℕ) × Line edge set xs
        go a (line xs) w = (xs, w.is_line)
        go a (cycle []) w = absurd (omega (arith, w.0.at_least_two))
        go a (cycle (x ∷ xs)) w = absurd (a x (cycle_precedes edge set x xs w.0))

    -- THEOREM: .. and exactly where no members stand in a ring
    pub line_where_no_cycle : ((xs : List ℕ) × Line edge set xs) ↔ ((xs : List ℕ) → Cycle edge set xs → ⊥)
    line_where_no_cycle = (λ w. without_ring w.0 w.1, λ f. go f (sorted n edge set) sorted_means)
      where
        without_ring : (ys : List ℕ) → Line edge set ys → (xs : List ℕ) → Cycle edge set xs → ⊥
        without_ring ys l [] c = omega (arith, c.at_least_two)
        without_ring ys l (x ∷ xs) c = line_acyclic edge set ys l x (cycle_precedes edge set x xs c)

        go : ((xs : List ℕ) → Cycle edge set xs → ⊥) → (o : LineOrCycle (List ℕ)) → Means n edge set o → (xs : List ℕ) × Line edge set xs
        go f (line xs) w = (xs, w.is_line)
        go f (cycle xs) w = absurd (f xs w.0)
