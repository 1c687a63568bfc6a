-- The cycle. The walk from a stuck rest never lacks a predecessor, and no one is met twice on the path; so the path would outgrow the rest
-- if none came again. What stands before the first coming is left behind; the rest of the path, turned, is still a ring.
use Rattle.std.proofs.Common.{ℕ, zero, suc, ◌+◌, ◌<◌, arith, ◌≡◌, refl, sym, ◌∙◌, ap, subst, Bool, true, false, ⊎_elim, List, [], ◌∷◌, ◌++◌}
use Rattle.std.proofs.Common.{append-nil, append_assoc, length, take, drop, get_or, length-append, drop-cons}
use Rattle.std.proofs.Math.Option.{Option, none, some}
use Rattle.std.proofs.Math.Seq.{split_at}
use Rattle.std.proofs.lemmas.Bool.{or_left}
use Rattle.sets.specs.Search.{count_below}
use Rattle.sets.specs.Paths.{Precedes, by_edge, edge_then}
use borrow.Author.Clash.{clash}
use Rattle.sets.proofs.Searches.{First, first_none, first_some}
use Rattle.lines.specs.Rule.{among, place_of, lowest_member, turned, to_lowest, predecessor, lowest_predecessor, walk, up_to}
use Rattle.lines.specs.Lines.{NoneTwice, edge_within, Below, Linked, Cycle, Stuck}
use Rattle.lines.proofs.Lists.{among_first, among_cases, among_append, twice_split, twice_swap}
use Rattle.lines.proofs.Lists.{first_there, pigeonhole}
use Rattle.lines.proofs.Chosen.{predecessor_left, predecessor_other, predecessor_edge, is_within, lowest_view}
use Rattle.lines.proofs.Clauses.{walk_ends, walk_goes}
use Rattle.lines.proofs.Turned.{among_swap, to_lowest_said, lowest_place}

module _ (r : ℕ → ℕ → Bool) where
  -- linked lists, cut and joined where a number stands in both
  pub linked_cut : (xs : List ℕ) (y : ℕ) (ys : List ℕ) → Linked r (xs ++ y ∷ ys) → Linked r (xs ++ y ∷ []) × Linked r (y ∷ ys)
  linked_cut [] y ys h = (tt, h)
  linked_cut (x ∷ []) y ys h = ((h.0, tt), h.1)
  linked_cut (x ∷ z ∷ zs) y ys h = let w = linked_cut (z ∷ zs) y ys h.1 in ((h.0, w.0), w.1)

  pub linked_join : (xs : List ℕ) (y : ℕ) (ys : List ℕ) → Linked r (xs ++ y ∷ []) → Linked r (y ∷ ys) → Linked r (xs ++ y ∷ ys)
  linked_join [] y ys h k = k
  linked_join (x ∷ []) y ys h k = (h.0, k)
  linked_join (x ∷ z ∷ zs) y ys h k = (h.0, linked_join (z ∷ zs) y ys h.1 k)

  -- a path from the first to the last
  linked_path : (x : ℕ) (xs : List ℕ) (z : ℕ) → Linked r (x ∷ xs ++ z ∷ []) → Precedes r x z
  linked_path x [] z h = by_edge h.0
  linked_path x (y ∷ ys) z h = edge_then h.0 (linked_path y ys z h.1)

  -- a ring may be turned
  ring_turns : (xs : List ℕ) (y : ℕ) (ys : List ℕ) → Linked r ((xs ++ y ∷ ys) ++ take 1 (xs ++ y ∷ ys))
      → Linked r (((y ∷ ys) ++ xs) ++ y ∷ [])
  ring_turns [] y ys h = subst (λ (zs : List ℕ). Linked r (zs ++ y ∷ [])) (sym (append-nil (y ∷ ys))) h
  ring_turns (x ∷ xs) y ys h =
      let w = linked_cut (x ∷ xs) y (ys ++ x ∷ []) (subst (Linked r) (append_assoc (x ∷ xs) (y ∷ ys) (x ∷ [])) h) in
      subst (Linked r) (sym (append_assoc (y ∷ ys) (x ∷ xs) (y ∷ []))) (linked_join (y ∷ ys) x (xs ++ y ∷ []) w.1 w.0)

-- a cycle goes on for ever: each of its members precedes itself
pub cycle_precedes : (edge : ℕ → ℕ → Bool) (set : ℕ → Bool) (x : ℕ) (xs : List ℕ) → Cycle edge set (x ∷ xs)
    → Precedes (edge_within edge set) x x
cycle_precedes edge set x xs c = linked_path (edge_within edge set) x xs x c.round

-- the links of a larger relation
pub linked_more : (r q : ℕ → ℕ → Bool) → ((s t : ℕ) → r s t ≡ true → q s t ≡ true) → (xs : List ℕ) → Linked r xs → Linked q xs
linked_more r q m [] h = tt
linked_more r q m (x ∷ []) h = tt
linked_more r q m (x ∷ y ∷ ys) h = (m x y h.0, linked_more r q m (y ∷ ys) h.1)

module _ (edge : ℕ → ℕ → Bool) where
  -- a cycle may be turned
  turn_cycle : (set : ℕ → Bool) (xs : List ℕ) (y : ℕ) (ys : List ℕ) → Cycle edge set (xs ++ y ∷ ys) → Cycle edge set ((y ∷ ys) ++ xs)
  turn_cycle set xs y ys c =
      record {
        at_least_two = rw (length-append (y ∷ ys) xs) (omega (arith, rw (length-append xs (y ∷ ys)) at c.at_least_two));
        none_twice = twice_swap xs (y ∷ ys) c.none_twice;
        members = λ t a. c.members t (among_swap xs (y ∷ ys) t a);
        round = ring_turns (edge_within edge set) xs y ys c.round;
      }

  module _ (set : ℕ → Bool) (xs : List ℕ) (k : ℕ) (l : k < length xs) (c : Cycle edge set xs) where
    turned_cycle : Cycle edge set (turned k xs)
    turned_cycle =
        subst (λ (zs : List ℕ). Cycle edge set (zs ++ take k xs)) (sym (drop-cons xs k 0 l))
        (turn_cycle set (take k xs) (get_or xs k 0) (drop (suc k) xs) (subst (Cycle edge set) (split_at xs k 0 l) c))

  pub to_lowest_cycle : (set : ℕ → Bool) (xs : List ℕ) → Cycle edge set xs → Cycle edge set (to_lowest xs)
  to_lowest_cycle set xs c =
      subst (Cycle edge set) (to_lowest_said xs)
      (turned_cycle set xs (place_of (lowest_member xs) xs) (lowest_place xs (omega (arith, c.at_least_two))) c)

  -- what a path is: none twice, all of them left, each with an edge to the next
  pub record Path (left : ℕ → Bool) (path : List ℕ) : Type 0 where
    pub none_twice : NoneTwice path
    pub all_left : (t : ℕ) → among path t ≡ true → left t ≡ true
    pub linked : Linked (edge_within edge left) path

  module _ (left : ℕ → Bool) (t : ℕ) (tail : List ℕ) (p : Path left (t ∷ tail)) (s : ℕ) (before : predecessor edge left t s ≡ true) where
    link : edge_within edge left s t ≡ true
    link =
        is_within edge left s t (predecessor_left edge left t s before) (p.all_left t (among_first t tail))
        (predecessor_other edge left t s before) (predecessor_edge edge left t s before)

    -- one more on the path
    pub path_grows : among (t ∷ tail) s ≡ false → Path left (s ∷ t ∷ tail)
    path_grows f =
        record {
          none_twice = (f, p.none_twice);
          all_left = λ u a.
              ⊎_elim
              (λ (e : s ≡ u). ap left (sym e) ∙ predecessor_left edge left t s before)
              (λ (e : among (t ∷ tail) u ≡ true). p.all_left u e)
              (among_cases s (t ∷ tail) u a);
          linked = (link, p.linked);
        }

    -- s comes again
    pub path_closes : among (t ∷ tail) s ≡ true → Cycle edge left (up_to s (t ∷ tail))
    path_closes a = let u = first_there s (t ∷ tail) a in subst (Cycle edge left) (sym u.part) (go u.before u.after u.whole)
      where
        go : (front after : List ℕ) → t ∷ tail ≡ front ++ s ∷ after → Cycle edge left (front ++ s ∷ [])
        go [] after e = absurd (predecessor_other edge left t s before (sym (ap (λ (xs : List ℕ). get_or xs 0 0) e)))
        go (b ∷ bs) after e =
            let front = b ∷ bs in
            let ring = front ++ s ∷ [] in
            let whole = e ∙ sym (append_assoc front (s ∷ []) after) in
            let first = ap (λ (xs : List ℕ). get_or xs 0 0) e in
            record {
              at_least_two = rw (length-append front (s ∷ [])) (omega arith);
              none_twice = (twice_split ring after (subst NoneTwice whole p.none_twice)).first;
              members = λ u m.
                  let on_path = ap (λ (xs : List ℕ). among xs u) whole ∙ among_append ring after u in
                  p.all_left u (on_path ∙ or_left (among ring u) (among after u) m);
              round =
                  subst (Linked (edge_within edge left)) (sym (append_assoc front (s ∷ []) (b ∷ [])))
                  (linked_join (edge_within edge left) front s (b ∷ [])
                  (linked_cut (edge_within edge left) front s after (subst (Linked (edge_within edge left)) e p.linked)).0
                  (ap (edge_within edge left s) (sym first) ∙ link, tt));
            }

  module _ (n : ℕ) (left : ℕ → Bool) where
    -- in a stuck rest the walk always finds a lowest predecessor
    pub record StepBack (t : ℕ) : Type 0 where
      pub to : ℕ
      pub is_lowest : lowest_predecessor n edge left t ≡ some to
      pub precedes : predecessor edge left t to ≡ true

    pub stuck_lowest : Below n left → Stuck edge left → (t : ℕ) → left t ≡ true → StepBack t
    stuck_lowest low stuck t l = go (lowest_predecessor n edge left t) refl (lowest_view edge n left t)
      where
        go : (o : Option ℕ) → lowest_predecessor n edge left t ≡ o → First (predecessor edge left t) n o → StepBack t
        go none e (first_none f) =
            let w = stuck.waits t l in
            absurd (clash (predecessor edge left t w.0) w.1 (f w.0 (low w.0 (predecessor_left edge left t w.0 w.1))))
        go (some s) e (first_some m q f) = record { to = s; is_lowest = e; precedes = q }

    -- the walk, from any path on: it cannot go on for longer than there are members
    pub walk_cycle : Below n left → Stuck edge left → (m t : ℕ) (tail : List ℕ) → Path left (t ∷ tail)
        → count_below n left < m + length (t ∷ tail) → Cycle edge left (walk (lowest_predecessor n edge left) m t (t ∷ tail))
    walk_cycle low stuck zero t tail p c =
        absurd (omega (arith, c, pigeonhole n left (t ∷ tail) p.none_twice (λ u a. (low u (p.all_left u a), p.all_left u a))))
    walk_cycle low stuck (suc m) t tail p c =
        let f = stuck_lowest low stuck t (p.all_left t (among_first t tail)) in
        go f.to f.is_lowest f.precedes (among (t ∷ tail) f.to) refl (λ s q d. walk_cycle low stuck m s (t ∷ tail) q d)
      where
        back : ℕ → Option ℕ
        back = lowest_predecessor n edge left

        Round : ℕ → ℕ → List ℕ → Type 0
        Round k u path = Cycle edge left (walk back k u path)

        go : (s : ℕ) → back t ≡ some s → predecessor edge left t s ≡ true → (b : Bool) → among (t ∷ tail) s ≡ b
            → ((s : ℕ) → Path left (s ∷ t ∷ tail) → count_below n left < m + length (s ∷ t ∷ tail) → Round m s (s ∷ t ∷ tail))
            → Round (suc m) t (t ∷ tail)
        go s e q true a ih = subst (Cycle edge left) (sym (walk_ends back m t s (t ∷ tail) e a)) (path_closes left t tail p s q a)
        go s e q false a ih =
            subst (Cycle edge left) (sym (walk_goes back m t s (t ∷ tail) e a)) (ih s (path_grows left t tail p s q a) (omega (arith, c)))
