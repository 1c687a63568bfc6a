-- The line. Placing one that is ready, again and again until none is left, gives a line that keeps every edge, and every such line is made
-- in that way; the rule's is the smallest, since it takes the lowest that any of them could take. From a stuck rest there is none: of the
-- rest, one would stand first in it, before the predecessor that it waits for.
use Rattle.std.proofs.Common.{ℕ, zero, suc, ◌<◌, ◌≤◌, arith, ◌≡◌, refl, sym, ◌∙◌, ap, subst, Bool, true, false, ⊎_elim, List, [], ◌∷◌, length}
use Rattle.std.proofs.Math.Decide.{ℕ_discrete, dec_lt}
use Rattle.std.proofs.Math.Option.{Option, none, some}
use Rattle.std.proofs.lemmas.Bool.{false_from_ne_true}
use Rattle.sets.specs.Search.{count_below, without}
use Rattle.sets.specs.Paths.{Precedes, by_edge, edge_then, Acyclic}
use borrow.Author.Clash.{clash}
use Rattle.sets.proofs.Searches.{First, first_some}
use Rattle.sets.proofs.Counts.{count_none, count_some, count_without, is_another, passed_before, without_itself, without_other}
use Rattle.lines.specs.Rule.{among, predecessor, ready, next, placed, rest}
use Rattle.lines.specs.Lines.{NoneTwice, stands_before, edge_within, Below, Line, AtMost, ended, smaller, same_first, Stuck}
use Rattle.lines.proofs.Lists.{among_nil, among_first, among_other, differ}
use Rattle.lines.proofs.Stands.{stands_first, stands_later, stands_cases, after_first, stands_not_itself, stands_through}
use Rattle.lines.proofs.Chosen.{is_predecessor, predecessor_left, predecessor_other, predecessor_edge}
use Rattle.lines.proofs.Chosen.{is_within, within_from, within_to, within_other, within_edge, within_more}
use Rattle.lines.proofs.Clauses.{placed_zero, placed_none, placed_some, rest_zero, rest_none, rest_some}
use Rattle.lines.proofs.Chosen.{is_ready, ready_left, ready_free, not_ready_out, next_view, none_next}

module _ (edge : ℕ → ℕ → Bool) where
  -- of a set with one in the list, one stands first in it
  record FirstOf (left : ℕ → Bool) (xs : List ℕ) : Type 0 where
    pub one : ℕ
    pub is_left : left one ≡ true
    pub none_before : (s : ℕ) → stands_before xs s one ≡ true → left s ≡ false

  first_of : (left : ℕ → Bool) (xs : List ℕ) (u : ℕ) → NoneTwice xs → among xs u ≡ true → left u ≡ true → FirstOf left xs
  first_of left [] u d a l = absurd (clash (among [] u) a (among_nil u))
  first_of left (x ∷ xs) u d a l = go (left x) refl (λ q. first_of left xs u d.1 (sym (among_other x xs u q) ∙ a) l)
    where
      go : (b : Bool) → left x ≡ b → ((x ≡ u → ⊥) → FirstOf left xs) → FirstOf left (x ∷ xs)
      go true e w =
          record { one = x; is_left = e; none_before = λ s h. absurd (clash (among xs x) (after_first x xs s x h) d.0) }
      go false e w =
          let f = w (λ (q : x ≡ u). differ left u x l e (sym q)) in
          record {
            one = f.one;
            is_left = f.is_left;
            none_before = λ s h.
                ⊎_elim
                (λ (v : (x ≡ s) × (among xs f.one ≡ true)). ap left (sym v.0) ∙ e)
                (λ (v : stands_before xs s f.one ≡ true). f.none_before s v)
                (stands_cases x xs s f.one h);
          }

  -- THEOREM: from a rest in which every member has a predecessor in the rest no line exists, neither of the rest nor of a set that has it
  pub no_line : (set left : ℕ → Bool) → Stuck edge left → ((t : ℕ) → left t ≡ true → set t ≡ true) → (xs : List ℕ) → Line edge set xs → ⊥
  no_line set left stuck sub xs l =
      let (u, u_left) = stuck.some_left in
      let f = first_of left xs u l.none_twice (l.all_and_only u ∙ sub u u_left) u_left in
      let t = f.one in
      let (s, before) = stuck.waits t f.is_left in
      let s_left = predecessor_left edge left t s before in
      let other = predecessor_other edge left t s before in
      let e = is_within edge set s t (sub s s_left) (sub t f.is_left) other (predecessor_edge edge left t s before) in
      clash (left s) s_left (f.none_before s (l.keeps_edges s t e))

  -- a line has no cycle: along a path of edges, each stands before the next
  path_stands : (set : ℕ → Bool) (xs : List ℕ) → Line edge set xs → (i j : ℕ) → Precedes (edge_within edge set) i j
      → stands_before xs i j ≡ true
  path_stands set xs l i j (by_edge e) = l.keeps_edges i j e
  path_stands set xs l i j (edge_then {j = m} e p) =
      stands_through xs i m j l.none_twice (l.keeps_edges i m e) (path_stands set xs l m j p)

  pub line_acyclic : (set : ℕ → Bool) (xs : List ℕ) → Line edge set xs → Acyclic (edge_within edge set)
  line_acyclic set xs l i p = stands_not_itself xs i l.none_twice (path_stands set xs l i i p)

  module _ (n : ℕ) where
    -- a line made place by place: each is ready when it is placed, and in the end none is left
    abbrev pub Steps : (ℕ → Bool) → List ℕ → Type 0
    Steps left [] = (t : ℕ) → left t ≡ false
    Steps left (t ∷ ts) = (ready n edge left t ≡ true) × Steps (without left t) ts

    low_without : (left : ℕ → Bool) (t : ℕ) → Below n left → Below n (without left t)
    low_without left t low s h = low s (passed_before left t s h)

    -- what is made place by place is a line that keeps every edge
    placed_first : (left : ℕ → Bool) (x : ℕ) (xs : List ℕ) → Below n left → ready n edge left x ≡ true → Line edge (without left x) xs
        → Line edge left (x ∷ xs)
    placed_first left x xs low r l =
        record {
          none_twice = (l.all_and_only x ∙ without_itself left x, l.none_twice);
          all_and_only = λ t. members t (ℕ_discrete x t);
          keeps_edges = λ s t h. keeps s t h (ℕ_discrete x s) (ℕ_discrete x t);
        }
      where
        members : (t : ℕ) → Dec (x ≡ t) → among (x ∷ xs) t ≡ left t
        members t (yes q) = rw (← q) (among_first x xs ∙ sym (ready_left edge n left x r))
        members t (no q) = among_other x xs t q ∙ l.all_and_only t ∙ without_other left x t q

        keeps : (s t : ℕ) → edge_within edge left s t ≡ true → Dec (x ≡ s) → Dec (x ≡ t) → stands_before (x ∷ xs) s t ≡ true
        keeps s t h (yes q) d =
            let other : x ≡ t → ⊥ = λ e. within_other edge left s t h (sym q ∙ e) in
            let later : among xs t ≡ true = l.all_and_only t ∙ without_other left x t other ∙ within_to edge left s t h in
            subst (λ (y : ℕ). stands_before (x ∷ xs) y t ≡ true) q (stands_first x xs t later)
        keeps s t h (no q) (yes e) =
            let from = within_from edge left s t h in
            let before = is_predecessor edge left x s from (λ (z : s ≡ x). q (sym z)) (ap (edge s) e ∙ within_edge edge left s t h) in
            absurd (clash (predecessor edge left x s) before (ready_free edge n left x r s (low s from)))
        keeps s t h (no q) (no e) =
            let from = without_other left x s q ∙ within_from edge left s t h in
            let to = without_other left x t e ∙ within_to edge left s t h in
            let still = is_within edge (without left x) s t from to (within_other edge left s t h) (within_edge edge left s t h) in
            stands_later x xs s t (l.keeps_edges s t still)

    pub steps_line : (left : ℕ → Bool) (xs : List ℕ) → Below n left → Steps left xs → Line edge left xs
    steps_line left [] low none_left =
        record {
          none_twice = tt;
          all_and_only = λ t. among_nil t ∙ sym (none_left t);
          keeps_edges = λ s t h. absurd (clash (left s) (within_from edge left s t h) (none_left s));
        }
    steps_line left (x ∷ xs) low w = placed_first left x xs low w.0 (steps_line (without left x) xs (low_without left x low) w.1)

    -- and every line that keeps every edge is made so
    first_ready : (left : ℕ → Bool) (x : ℕ) (xs : List ℕ) → Line edge left (x ∷ xs) → ready n edge left x ≡ true
    first_ready left x xs l = is_ready edge n left x there (λ s m. false_from_ne_true (predecessor edge left x s) (blocks s))
      where
        there : left x ≡ true
        there = sym (l.all_and_only x) ∙ among_first x xs

        blocks : (s : ℕ) → predecessor edge left x s ≡ true → ⊥
        blocks s h =
            let other = predecessor_other edge left x s h in
            let e = is_within edge left s x (predecessor_left edge left x s h) there other (predecessor_edge edge left x s h) in
            clash (among xs x) (after_first x xs s x (l.keeps_edges s x e)) l.none_twice.0

    later_line : (left : ℕ → Bool) (x : ℕ) (xs : List ℕ) → Line edge left (x ∷ xs) → Line edge (without left x) xs
    later_line left x xs l = record { none_twice = l.none_twice.1; all_and_only = λ t. members t (ℕ_discrete x t); keeps_edges = keeps }
      where
        members : (t : ℕ) → Dec (x ≡ t) → among xs t ≡ without left x t
        members t (yes q) = rw (← q) (l.none_twice.0 ∙ sym (without_itself left x))
        members t (no q) = sym (among_other x xs t q) ∙ l.all_and_only t ∙ sym (without_other left x t q)

        keeps : (s t : ℕ) → edge_within edge (without left x) s t ≡ true → stands_before xs s t ≡ true
        keeps s t h =
            ⊎_elim (λ (w : (x ≡ s) × (among xs t ≡ true)). absurd (is_another left x s (within_from edge (without left x) s t h) w.0))
            (λ (w : stands_before xs s t ≡ true). w)
            (stands_cases x xs s t (l.keeps_edges s t (within_more edge (without left x) left (passed_before left x) s t h)))

    pub line_steps : (left : ℕ → Bool) (xs : List ℕ) → Line edge left xs → Steps left xs
    line_steps left [] l = λ t. sym (l.all_and_only t) ∙ among_nil t
    line_steps left (x ∷ xs) l = (first_ready left x xs l, line_steps (without left x) xs (later_line left x xs l))

    -- THEOREM: a line is as long as the set is large
    pub line_length : (left : ℕ → Bool) (xs : List ℕ) → Below n left → Line edge left xs → length xs ≡ count_below n left
    line_length left xs low l = go left xs low (line_steps left xs l)
      where
        go : (left : ℕ → Bool) (xs : List ℕ) → Below n left → Steps left xs → length xs ≡ count_below n left
        go left [] low gone = sym (count_none left n gone)
        go left (x ∷ xs) low w =
            ap suc (go (without left x) xs (low_without left x low) w.1) ∙ sym (count_without left x n (low x there) there)
          where
            there : left x ≡ true
            there = ready_left edge n left x w.0

    -- no more are placed than places were given
    pub placed_fits : (m : ℕ) (left : ℕ → Bool) → length (placed n edge m left) ≤ m
    placed_fits zero left = rw (placed_zero n edge left) (omega arith)
    placed_fits (suc m) left = go (next n edge left) refl (λ t. placed_fits m (without left t))
      where
        go : (o : Option ℕ) → next n edge left ≡ o → ((t : ℕ) → length (placed n edge m (without left t)) ≤ m)
            → length (placed n edge (suc m) left) ≤ suc m
        go none e ih = rw (placed_none n edge (suc m) left e) (omega arith)
        go (some t) e ih = rw (placed_some n edge m left t e) (omega (arith, ih t))

    -- what is left at the end was in the set
    pub rest_within : (m : ℕ) (left : ℕ → Bool) (t : ℕ) → rest n edge m left t ≡ true → left t ≡ true
    rest_within zero left t h = sym (ap (λ (f : ℕ → Bool). f t) (rest_zero n edge left)) ∙ h
    rest_within (suc m) left t h = go (next n edge left) refl (λ u. rest_within m (without left u) t)
      where
        go : (o : Option ℕ) → next n edge left ≡ o → ((u : ℕ) → rest n edge m (without left u) t ≡ true → without left u t ≡ true)
            → left t ≡ true
        go none e ih = sym (ap (λ (f : ℕ → Bool). f t) (rest_none n edge (suc m) left e)) ∙ h
        go (some u) e ih = passed_before left u t (ih u (sym (ap (λ (f : ℕ → Bool). f t) (rest_some n edge m left u e)) ∙ h))

    -- at the end none can be placed: every place takes one, so as many places as there are members are enough
    none_ready : (left : ℕ → Bool) → count_below n left ≤ 0 → next n edge left ≡ none
    none_ready left c =
        none_next edge n left (λ t l. not_ready_out edge n left t (false_from_ne_true (left t) (λ h. omega (arith, c, count_some left n t l h))))

    pub rest_ends : (m : ℕ) (left : ℕ → Bool) → count_below n left ≤ m → next n edge (rest n edge m left) ≡ none
    rest_ends zero left c = ap (next n edge) (rest_zero n edge left) ∙ none_ready left c
    rest_ends (suc m) left c = go (next n edge left) refl (next_view edge n left) (λ u d. rest_ends m (without left u) d)
      where
        go : (o : Option ℕ) → next n edge left ≡ o → First (ready n edge left) n o
            → ((u : ℕ) → count_below n (without left u) ≤ m → next n edge (rest n edge m (without left u)) ≡ none)
            → next n edge (rest n edge (suc m) left) ≡ none
        go none e v ih = ap (next n edge) (rest_none n edge (suc m) left e) ∙ e
        go (some u) e (first_some l r f) ih =
            ap (next n edge) (rest_some n edge m left u e) ∙ ih u (omega (arith, c, count_without left u n l (ready_left edge n left u r)))

    -- where none is left, what the rule placed was made place by place,
    pub placed_steps : (m : ℕ) (left : ℕ → Bool) → ((t : ℕ) → rest n edge m left t ≡ false) → Steps left (placed n edge m left)
    placed_steps zero left f = rw (placed_zero n edge left) (λ t. sym (ap (λ (g : ℕ → Bool). g t) (rest_zero n edge left)) ∙ f t)
    placed_steps (suc m) left f = go (next n edge left) refl (next_view edge n left) (λ u. placed_steps m (without left u))
      where
        go : (o : Option ℕ) → next n edge left ≡ o → First (ready n edge left) n o
            → ((u : ℕ) → ((t : ℕ) → rest n edge m (without left u) t ≡ false) → Steps (without left u) (placed n edge m (without left u)))
            → Steps left (placed n edge (suc m) left)
        go none e v ih =
            rw (placed_none n edge (suc m) left e) (λ t. sym (ap (λ (g : ℕ → Bool). g t) (rest_none n edge (suc m) left e)) ∙ f t)
        go (some u) e (first_some l r g) ih =
            rw (placed_some n edge m left u e) (r, ih u (λ t. sym (ap (λ (g : ℕ → Bool). g t) (rest_some n edge m left u e)) ∙ f t))

    -- and is the smallest of all that are
    pub placed_smallest : (m : ℕ) (left : ℕ → Bool) (ys : List ℕ) → Steps left ys → AtMost (placed n edge m left) ys
    placed_smallest zero left ys w = rw (placed_zero n edge left) ended
    placed_smallest (suc m) left ys w =
        go (next n edge left) refl (next_view edge n left) ys w (λ u zs. placed_smallest m (without left u) zs)
      where
        go : (o : Option ℕ) → next n edge left ≡ o → First (ready n edge left) n o → (ys : List ℕ) → Steps left ys
            → ((u : ℕ) (zs : List ℕ) → Steps (without left u) zs → AtMost (placed n edge m (without left u)) zs)
            → AtMost (placed n edge (suc m) left) ys
        go none e v ys w ih = rw (placed_none n edge (suc m) left e) ended
        go (some u) e (first_some l r g) [] w ih = absurd (clash (left u) (ready_left edge n left u r) (w u))
        go (some u) e (first_some l r g) (y ∷ ys) w ih = rw (placed_some n edge m left u e) (lower (ℕ_discrete u y) (dec_lt y u))
          where
            lower : Dec (u ≡ y) → Dec (y < u) → AtMost (u ∷ placed n edge m (without left u)) (y ∷ ys)
            lower (yes q) d = rw (← q) (same_first (ih u ys (rw q w.1)))
            lower (no q) (yes d) = absurd (clash (ready n edge left y) w.0 (g y d))
            lower (no q) (no d) = smaller {x = u} {y = y} (omega (arith, q, d))
