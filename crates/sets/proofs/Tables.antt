-- Laws of tables of sets: what a store does to the relation that a table holds, the table of a relation, and that a relation has
-- only one table.
use Rattle.std.proofs.Common.{ℕ, zero, suc, ◌+◌, ◌*◌, ◌<◌, ◌≤◌, ◌^◌, arith, add-one, one-mul, pow-suc, zero-add, ◌≡◌, refl, sym, ◌∙◌, ap, List, ◌∷◌}
use Rattle.std.proofs.Common.{◌++◌, Bool, true, false, ◌&&◌, ◌||◌, cond, ◌⊎◌, inl, inr, ⊎_elim, eqb, ltb, length, get_or, set, replicate, length-set}
use Rattle.std.proofs.Common.{length-append, get_or-set_same, get_or-set_other, ext_get_or, eq-eqb, ne_eqb, lt-ltb, le-ltb, []}
use Rattle.std.proofs.Math.Decide.{ℕ_discrete, dec_lt}
use Rattle.std.proofs.Math.ListN.{length-replicate, get_or-eq_default, get_or-append, get_or-replicate}
use Rattle.std.proofs.Math.Seq.{get_or-append_seam}
use Rattle.std.proofs.lemmas.Bool.Decides.{nat_tests}
use Rattle.std.proofs.lemmas.Nat.{or_shifted}
use Rattle.std.proofs.Math.Bool.{and-true, and-false, or-false}
use Rattle.std.proofs.lemmas.Bool.{cases_Bool, false_from_ne_true}
use Rattle.std.proofs.lemmas.List.{get_or_default}
use Rattle.sets.specs.Bits.{has, in_row, set_of, table_of, Holds}
use Rattle.sets.proofs.Searches.{below_cases}
use Rattle.sets.proofs.Members.{has_zero, has_or, has_power, same_members}

-- what the code reads at i of a table, under any default of its own, is the set there
pub row_read : (table : List ℕ) (i d : ℕ) {r : ℕ} → r ≡ get_or table i d → i < length table → (j : ℕ) → has r j ≡ in_row table i j
row_read table i d e l j = ap (λ (x : ℕ). has x j) (e ∙ get_or_default table i d 0 l)

-- an entry of a table of sets, after a set was joined to the entry c: the old one, and that set where the entry is c
stored : (table : List ℕ) (c v : ℕ) (joined : ℕ → Bool) → c < length table → ((j : ℕ) → has v j ≡ (has (get_or table c 0) j || joined j))
    → (d j : ℕ) → has (get_or (set table c v) d 0) j ≡ (has (get_or table d 0) j || (eqb c d && joined j))
stored table c v joined l h d j = go (ℕ_discrete d c)
  where
    go : Dec (d ≡ c) → has (get_or (set table c v) d 0) j ≡ (has (get_or table d 0) j || (eqb c d && joined j))
    go (yes q) = rw (q, get_or-set_same table c v 0 l, eq-eqb c c refl) (h j)
    go (no q) = rw (get_or-set_other table c d v 0 q, ne_eqb c d (λ e. q (sym e)), or-false (has (get_or table d 0) j)) refl

-- the same relation, said in other words
pub holds_same : {wide : ℕ} {r s : ℕ → ℕ → Bool} {table : List ℕ} → Holds wide r table → ((i j : ℕ) → r i j ≡ s i j) → Holds wide s table
holds_same w e = record { whole = w.whole; said = λ i j. w.said i j ∙ e i j }

-- after a store to one entry
pub holds_store : {wide : ℕ} {r s : ℕ → ℕ → Bool} {table : List ℕ} → Holds wide r table → (c v : ℕ) (joined : ℕ → Bool) → c < wide
    → ((j : ℕ) → has v j ≡ (has (get_or table c 0) j || joined j)) → ((i j : ℕ) → s i j ≡ (r i j || (eqb c i && joined j)))
    → Holds wide s (set table c v)
holds_store {r = r} {s = s} {table = table} w c v joined l h e =
    record {
      whole = simp length-set w.whole;
      said = λ i j.
          stored table c v joined (rw w.whole l) h i j
          ∙ ap (λ (b : Bool). b || (eqb c i && joined j)) (w.said i j)
          ∙ sym (e i j);
    }

-- the empty table
pub empty_entry : (n i : ℕ) → ◌≡◌ {A = ℕ} (get_or (replicate n 0) i 0) 0
empty_entry n i = go (dec_lt i n)
  where
    go : Dec (i < n) → ◌≡◌ {A = ℕ} (get_or (replicate n 0) i 0) 0
    go (yes l) = get_or-replicate n i 0 0 l
    go (no l) = get_or-eq_default (replicate n 0) 0 (rw (length-replicate {A = ℕ} n 0) (omega arith))

pub holds_none : (n : ℕ) {s : ℕ → ℕ → Bool} → ((i j : ℕ) → s i j ≡ false) → Holds n s (replicate n 0)
holds_none n e =
    record {
      whole = length-replicate {A = ℕ} n 0;
      said = λ i j. ap (λ (x : ℕ). has x j) (empty_entry n i) ∙ has_zero j ∙ sym (e i j);
    }

-- one number more under a bound, at n + 1 and at suc n
one_more : (x y : Bool) (n j : ℕ) → (n ≡ j → x ≡ y) → (ltb j (n + 1) && y) ≡ ((ltb j n && y) || (eqb n j && x))
one_more x y n j q = grind (arith, nat_tests)

joined : (x y : Bool) (n j : ℕ) → (n ≡ j → x ≡ y) → ((eqb n j && x) || (ltb j n && y)) ≡ (ltb j (suc n) && y)
joined x y n j q = grind (arith, nat_tests)

-- the set of a test
module _ (p : ℕ → Bool) where
  set_low : (n : ℕ) → set_of n p < 2 ^ n
  unfolding set_of
  set_low zero = omega arith
  set_low (suc n) = go (p n) (set_low n)
    where
      go : (b : Bool) → set_of n p < 2 ^ n → cond b (2 ^ n) 0 + set_of n p < 2 ^ suc n
      go true l = rw pow-suc (omega arith)
      go false l = rw pow-suc (omega arith)

  set_more : (n j : ℕ) → has (set_of (suc n) p) j ≡ ((eqb n j && p n) || has (set_of n p) j)
  unfolding set_of
  set_more n j = go (p n) refl
    where
      go : (b : Bool) → p n ≡ b → has (cond b (2 ^ n) 0 + set_of n p) j ≡ ((eqb n j && b) || has (set_of n p) j)
      go true e =
          ap (λ (x : ℕ). has x j) (ap (λ (x : ℕ). x + set_of n p) (sym (one-mul (2 ^ n))) ∙ sym (or_shifted 1 n (set_of n p) (set_low n)))
          ∙ has_or (1 * 2 ^ n) (set_of n p) j
          ∙ ap (λ (b : Bool). b || has (set_of n p) j) (ap (λ (x : ℕ). has x j) (one-mul (2 ^ n)) ∙ has_power n j ∙ sym (and-true (eqb n j)))
      go false e = rw (and-false (eqb n j), zero-add (set_of n p)) refl

  pub has_set_of : (n j : ℕ) → has (set_of n p) j ≡ (ltb j n && p j)
  unfolding set_of
  has_set_of zero j = rw (le-ltb j 0 (omega arith)) (has_zero j)
  has_set_of (suc n) j =
      set_more n j ∙ ap (λ (b : Bool). (eqb n j && p n) || b) (has_set_of n j) ∙ joined (p n) (p j) n j (λ q. ap p q)

-- a set of everything that passes the test, where nothing from n on does; and it is the only one
pub has_all : (n : ℕ) (p : ℕ → Bool) → ((j : ℕ) → p j ≡ true → j < n) → (j : ℕ) → has (set_of n p) j ≡ p j
has_all n p low j = has_set_of p n j ∙ within (cases_Bool (p j))
  where
    within : (p j ≡ true) ⊎ (p j ≡ false) → (ltb j n && p j) ≡ p j
    within (inl t) = rw (lt-ltb j n (low j t)) refl
    within (inr f) = rw (f, and-false (ltb j n)) refl

pub only_set : (n x : ℕ) (p : ℕ → Bool) → ((j : ℕ) → p j ≡ true → j < n) → ((j : ℕ) → has x j ≡ p j) → x ≡ set_of n p
only_set n x p low h = same_members x (set_of n p) (λ j. h j ∙ sym (has_all n p low j))

-- the table of rows
module _ (row : ℕ → ℕ) where
  length_table : (n : ℕ) → length (table_of n row) ≡ n
  unfolding table_of
  length_table zero = refl
  length_table (suc n) = length-append (table_of n row) (row n ∷ []) ∙ ap (λ (x : ℕ). x + 1) (length_table n) ∙ add-one n

  entry : (n i : ℕ) → i < n → get_or (table_of n row) i 0 ≡ row i
  unfolding table_of
  entry zero i l = absurd (omega arith)
  entry (suc n) i l =
      ⊎_elim (λ (m : i < n). get_or-append (table_of n row) (row n ∷ []) 0 i (rw (length_table n) m) ∙ entry n i m)
      (λ (q : i ≡ n). ap (λ (x : ℕ). get_or (table_of n row ++ (row n ∷ [])) x 0) (q ∙ sym (length_table n)) ∙ get_or-append_seam (table_of n row) (row n) [] 0 ∙ ap row (sym q))
      (below_cases n i l)

-- nothing stands past a table's end
pub row_past : (table : List ℕ) (i j : ℕ) → length table ≤ i → in_row table i j ≡ false
row_past table i j l = ap (λ (x : ℕ). has x j) (get_or-eq_default table 0 l) ∙ has_zero j

-- a table that is filled row by row has the relation's first i rows
module _ (wide : ℕ) (r : ℕ → ℕ → Bool) where
  abbrev pub RowsBelow : ℕ → List ℕ → Type 0
  RowsBelow i = Holds wide (λ a j. ltb a i && r a j)

  pub rows_none : RowsBelow 0 (replicate wide 0)
  rows_none = holds_none wide (λ a j. ap (λ (b : Bool). b && r a j) (le-ltb a 0 (omega arith)))

  pub rows_more : {table : List ℕ} (i v : ℕ) → RowsBelow i table → i < wide → ((j : ℕ) → has v j ≡ r i j) → RowsBelow (i + 1) (set table i v)
  rows_more {table = table} i v w l h = holds_store w i v (r i) l (λ j. h j ∙ sym (ap (λ (b : Bool). b || r i j) (blank j))) more
    where
      blank : (j : ℕ) → in_row table i j ≡ false
      blank j = w.said i j ∙ ap (λ (b : Bool). b && r i j) (le-ltb i i (omega arith))

      more : (a j : ℕ) → (ltb a (i + 1) && r a j) ≡ ((ltb a i && r a j) || (eqb i a && r i j))
      more a j = one_more (r i j) (r a j) i a (λ q. ap (λ (x : ℕ). r x j) q)

  -- all rows are filled, and the relation has no others
  pub rows_all : {table : List ℕ} → RowsBelow wide table → ((i j : ℕ) → wide ≤ i → r i j ≡ false) → Holds wide r table
  rows_all w past = holds_same w (λ i j. go i j (dec_lt i wide))
    where
      go : (i j : ℕ) → Dec (i < wide) → (ltb i wide && r i j) ≡ r i j
      go i j (yes l) = rw (lt-ltb i wide l) refl
      go i j (no l) = rw (le-ltb i wide (omega arith), past i j (omega arith)) refl

-- the table of a relation among the numbers below n; and it is the only one
pub holds_table : (n : ℕ) (r : ℕ → ℕ → Bool) → ((i j : ℕ) → r i j ≡ true → (i < n) × (j < n)) → Holds n r (table_of n (λ i. set_of n (r i)))
holds_table n r low = record { whole = length_table row n; said = λ i j. go i j (dec_lt i n) }
  where
    row : ℕ → ℕ
    row i = set_of n (r i)

    go : (i j : ℕ) → Dec (i < n) → in_row (table_of n row) i j ≡ r i j
    go i j (yes l) = ap (λ (x : ℕ). has x j) (entry row n i l) ∙ has_all n (r i) (λ k h. (low i k h).1) j
    go i j (no l) = row_past (table_of n row) i j (rw (length_table row n) (omega arith)) ∙ sym (false_from_ne_true (r i j) (λ h. l (low i j h).0))

pub holds_once : {n : ℕ} {r : ℕ → ℕ → Bool} {first second : List ℕ} → Holds n r first → Holds n r second → first ≡ second
holds_once {first = first} {second = second} v w =
    ext_get_or 0 first second (v.whole ∙ sym w.whole) (λ i l. same_members (get_or first i 0) (get_or second i 0) (λ j. v.said i j ∙ sym (w.said i j)))
