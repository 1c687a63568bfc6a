-- While the walk goes back, the path at the end of the buffer is the rule's path, and what is still to come is the rule's walk. No
-- transaction is on it twice, so it never outgrows the buffer.
use Prim.Native.Nat.{ℕ, suc, ◌+◌, ◌-◌, ◌<◌, ◌≤◌}
use native.Mathlib.Omega.{arith}
use native.Mathlib.Numerals.{add-one}
use mathlib.Core.Path.{◌≡◌, refl, sym, ◌∙◌, ap, subst}
use mathlib.Core.Bool.{Bool, true, false, ◌||◌, cond}
use mathlib.Core.Logic.{⊎_elim}
use mathlib.Core.List.{List, [], ◌∷◌}
use mathlib.Core.Option.{Option}
use lib.Dec.{eqb}
use lib.ListN.{length, take, drop, get_or, set, length-set, length-drop, drop_of_length-le}
use lib.Seq.{drop-cons, drop-set-lt, get_or-set_same}
use Rattle.std.proofs.lemmas.Slice.{between_to_end}
use Rattle.sets.specs.Bits.{has}
use Rattle.std.proofs.Math.Bool.{or_comm}
use borrow.Author.Clash.{clash}
use Rattle.sets.proofs.Members.{has_zero}
use Rattle.sets.proofs.Counts.{count_low}
use Rattle.lines.specs.Rule.{among, place_of, walk, up_to}
use Rattle.lines.specs.Lines.{NoneTwice}
use Rattle.cycles.specs.WaitsFor.{back}
use Rattle.lines.proofs.Lists.{among_nil, among_cons, among_cases, place_low, pigeonhole}
use Rattle.lines.proofs.Clauses.{walk_steps}

-- a buffer with one put before the path
front : (path : List ℕ) (at t : ℕ) → at < length path → drop at (set path at t) ≡ t ∷ drop (suc at) path
front path at t l =
    drop-cons (set path at t) at 0 (rw (length-set path at t) l)
    ∙ ap (λ (x : ℕ). x ∷ drop (suc at) (set path at t)) (get_or-set_same path at t 0 l)
    ∙ ap (λ (xs : List ℕ). t ∷ xs) (drop-set-lt (suc at) path at t (omega arith))

-- what the walk yields that has come to s, with m steps to go: the cycle where s is on the path, else what follows from s
abbrev coming : (ℕ → Option ℕ) → ℕ → ℕ → List ℕ → List ℕ
coming step m s path = cond (among path s) (up_to s path) (walk step m s (s ∷ path))

module _ (n : ℕ) (waits : List ℕ) (first : ℕ) where
  -- the path, the set of those on it, and the one that comes next
  pub record OnPath (path : List ℕ) (at seen again : ℕ) : Type 0 where
    pub whole : length path ≡ n
    pub inside : at ≤ n
    pub none_twice : NoneTwice (drop at path)
    pub all_low : (t : ℕ) → among (drop at path) t ≡ true → t < n
    pub seen_are : (t : ℕ) → has seen t ≡ among (drop at path) t
    pub again_low : again < n
    pub same_walk : coming (back waits) at again (drop at path) ≡ walk (back waits) n first (first ∷ [])

  pub path_start : (path : List ℕ) → length path ≡ n → first < n → OnPath path n 0 first
  path_start path w l =
      record {
        whole = w;
        inside = omega arith;
        none_twice = subst NoneTwice (sym empty) tt;
        all_low = λ t a. absurd (clash (among [] t) (sym (ap (λ (xs : List ℕ). among xs t) empty) ∙ a) (among_nil t));
        seen_are = λ t. has_zero t ∙ sym (ap (λ (xs : List ℕ). among xs t) empty ∙ among_nil t);
        again_low = l;
        same_walk = ap (coming (back waits) n first) empty ∙ rw (among_nil first) refl;
      }
    where
      empty : drop n path ≡ []
      empty = drop_of_length-le path {i = n} (omega (arith, w))

module _ {n : ℕ} {waits : List ℕ} {first : ℕ} {path : List ℕ} {at seen again : ℕ} (w : OnPath n waits first path at seen again) where
  -- the one that comes, by whether it is on the path
  came : (b : Bool) → among (drop at path) again ≡ b
      → coming (back waits) at again (drop at path)
      ≡ cond b (up_to again (drop at path)) (walk (back waits) at again (again ∷ drop at path))
  came b e = rw e refl

  -- a new one
  module _ (new : has seen again ≡ false) where
    fresh : among (drop at path) again ≡ false
    fresh = sym (w.seen_are again) ∙ new

    longer_low : (t : ℕ) → among (again ∷ drop at path) t ≡ true → t < n
    longer_low t a =
        ⊎_elim (λ (q : again ≡ t). omega (arith, w.again_low, q)) (λ (q : among (drop at path) t ≡ true). w.all_low t q)
        (among_cases again (drop at path) t a)

    -- no number is on the path twice, so there are no more than the buffer has places
    pub path_room : 1 ≤ at
    path_room =
        let few = pigeonhole n (λ t. true) (again ∷ drop at path) (fresh, w.none_twice) (λ t a. (longer_low t a, refl)) in
        omega (arith, few, count_low (λ t. true) n, length-drop at path, w.whole, w.inside)

    pub path_step : (more : ℕ) → ((t : ℕ) → has more t ≡ (has seen t || eqb again t)) → get_or waits again 0 < n
        → OnPath n waits first (set path (at - 1) again) (at - 1) more (get_or waits again 0)
    path_step more h l =
        record {
          whole = simp length-set w.whole;
          inside = omega (arith, w.inside);
          none_twice = subst NoneTwice (sym longer) (fresh, w.none_twice);
          all_low = λ t a. longer_low t (sym (ap (λ (xs : List ℕ). among xs t) longer) ∙ a);
          seen_are = λ t.
              h t
              ∙ ap (λ (b : Bool). b || eqb again t) (w.seen_are t)
              ∙ or_comm (among (drop at path) t) (eqb again t)
              ∙ sym (ap (λ (xs : List ℕ). among xs t) longer ∙ among_cons again (drop at path) t);
          again_low = l;
          same_walk =
              ap (coming (back waits) (at - 1) (get_or waits again 0)) longer
              ∙ sym (walk_steps (back waits) (at - 1) again (get_or waits again 0) (again ∷ drop at path) refl)
              ∙ ap (λ (m : ℕ). walk (back waits) m again (again ∷ drop at path)) down
              ∙ sym (came false fresh)
              ∙ w.same_walk;
        }
      where
        down : suc (at - 1) ≡ at
        down = omega (arith, path_room)

        longer : drop (at - 1) (set path (at - 1) again) ≡ again ∷ drop at path
        longer = front path (at - 1) again (omega (arith, w.whole, w.inside, path_room)) ∙ ap (λ (k : ℕ). again ∷ drop k path) down

  -- one comes again: of the path, cut out of the buffer, the part up to it is the walk
  module _ (old : has seen again ≡ true) where
    pub comes_again : among (drop at path) again ≡ true
    comes_again = sym (w.seen_are again) ∙ old

    abbrev cut : List ℕ
    cut = take (n - at) (drop at path)

    is_cut : cut ≡ drop at path
    is_cut = between_to_end path at n (omega (arith, w.whole))

    pub last_inside : place_of again cut < length cut
    last_inside = place_low again cut (ap (λ (xs : List ℕ). among xs again) is_cut ∙ comes_again)

    pub cut_low : length cut ≤ n
    cut_low = omega (arith, ap length is_cut, length-drop at path, w.whole)

    pub walk_done : (last : ℕ) → last ≡ place_of again cut → take (last + 1) cut ≡ walk (back waits) n first (first ∷ [])
    walk_done last e =
        ap (λ (k : ℕ). take k cut) (add-one last ∙ ap suc e)
        ∙ ap (up_to again) is_cut
        ∙ sym (came true comes_again)
        ∙ w.same_walk
