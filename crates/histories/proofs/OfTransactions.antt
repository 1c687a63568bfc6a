-- Records of a transaction that pass a test, before a record, in all, after a record, and the first: found, and shown by one. So what a
-- transaction has written.
use Rattle.std.proofs.Common.{ℕ, ◌+◌, ◌<◌, arith, ◌≡◌, refl, sym, ◌∙◌, ap, Bool, true, false, ◌&&◌, ◌||◌, eqb, eq-eqb, eqb-true}
use Rattle.std.proofs.Math.Option.{Option, none, some}
use Rattle.std.proofs.Math.Bool.{and-true, and-false}
use Rattle.std.proofs.lemmas.Bool.{and_from, and_parts}
use Rattle.sets.specs.Search.{first_below}
use Rattle.sets.specs.Bits.{has}
use borrow.Author.Clash.{clash}
use Rattle.sets.proofs.Searches.{some_hit, some_found, First, first_none, first_some, first_view, first_found}
use Rattle.sets.proofs.From.{from_hit, from_found}
use Rattle.histories.specs.History.{History, is_by, writes_copy, writes_item}
use Rattle.histories.specs.Earlier.{some_before, some_of, some_after, first_of, wrote_copy, wrote_item, writes}

module _ (h : History) where
  pub by_is : (k t : ℕ) → is_by h k t ≡ eqb (h.transaction k) t
  unfolding is_by
  by_is k t = refl

  pub by_hit : (k t : ℕ) → h.transaction k ≡ t → is_by h k t ≡ true
  unfolding is_by
  by_hit k t e = eq-eqb (h.transaction k) t e

  pub by_same : (k t : ℕ) → is_by h k t ≡ true → h.transaction k ≡ t
  unfolding is_by
  by_same k t b = eqb-true (h.transaction k) t b

  -- A set to which the transaction of record k was added has gained what the record says, where it counts; and a record that does not
  -- count says nothing.
  module _ (k : ℕ) (counts : Bool) where
    pub own_added : (t v old : ℕ) → counts ≡ true → t ≡ h.transaction k → ((j : ℕ) → has v j ≡ (has old j || eqb t j))
        → (j : ℕ) → has v j ≡ (has old j || (is_by h k j && counts))
    own_added t v old c q w j = w j ∙ ap (λ (b : Bool). has old j || b) (ap (λ (x : ℕ). eqb x j) q ∙ sym (by_is k j) ∙ sym it_counts)
      where
        it_counts : (is_by h k j && counts) ≡ is_by h k j
        it_counts = ap (λ (b : Bool). is_by h k j && b) c ∙ and-true (is_by h k j)

    pub none_added : counts ≡ false → (j : ℕ) → (is_by h k j && counts) ≡ false
    none_added c j = ap (λ (b : Bool). is_by h k j && b) c ∙ and-false (is_by h k j)

  -- a record of t that passes, and stands before record k; or after record e
  pub record OneBefore (k t : ℕ) (p : ℕ → Bool) : Type 0 where
    pub at : ℕ
    pub before : at < k
    pub own : h.transaction at ≡ t
    pub passes : p at ≡ true

  pub record OneAfter (e t : ℕ) (p : ℕ → Bool) : Type 0 where
    pub at : ℕ
    pub after : e < at
    pub there : at < h.size
    pub own : h.transaction at ≡ t
    pub passes : p at ≡ true

  module _ (t : ℕ) (p : ℕ → Bool) where
    passes_own : ℕ → Bool
    passes_own e = is_by h e t && p e

    its_own : (e : ℕ) → passes_own e ≡ true → h.transaction e ≡ t
    unfolding passes_own
    its_own e b = by_same e t (and_parts (is_by h e t) (p e) b).0

    its_pass : (e : ℕ) → passes_own e ≡ true → p e ≡ true
    unfolding passes_own
    its_pass e b = (and_parts (is_by h e t) (p e) b).1

    own_passes : (e : ℕ) → h.transaction e ≡ t → p e ≡ true → passes_own e ≡ true
    unfolding passes_own
    own_passes e o b = and_from (is_by h e t) (p e) (by_hit e t o) b

    pub before_found : (k : ℕ) → some_before h k t p ≡ true → OneBefore k t p
    unfolding some_before passes_own
    before_found k b =
        let w = some_found passes_own k b in
        record { at = w.0; before = w.1; own = its_own w.0 w.2; passes = its_pass w.0 w.2 }

    pub before_hit : (k e : ℕ) → e < k → h.transaction e ≡ t → p e ≡ true → some_before h k t p ≡ true
    unfolding some_before passes_own
    before_hit k e l o b = some_hit passes_own k e l (own_passes e o b)

    pub of_found : some_of h t p ≡ true → OneBefore h.size t p
    unfolding some_of
    of_found b = before_found h.size b

    pub of_hit : (e : ℕ) → e < h.size → h.transaction e ≡ t → p e ≡ true → some_of h t p ≡ true
    unfolding some_of
    of_hit e l o b = before_hit h.size e l o b

    pub after_found : (e : ℕ) → some_after h e t p ≡ true → OneAfter e t p
    unfolding some_after passes_own
    after_found e b =
        let w = from_found passes_own (e + 1) h.size b in
        record { at = w.0; after = omega (arith, w.1); there = w.2; own = its_own w.0 w.3; passes = its_pass w.0 w.3 }

    pub after_hit : (e f : ℕ) → e < f → f < h.size → h.transaction f ≡ t → p f ≡ true → some_after h e t p ≡ true
    unfolding some_after passes_own
    after_hit e f l m o b = from_hit passes_own (e + 1) h.size f (omega (arith, l)) m (own_passes f o b)

    -- the first record of t that passes: it is one, and whoever else passes does not stand before it
    pub record IsFirst (c : ℕ) : Type 0 where
      pub there : c < h.size
      pub own : h.transaction c ≡ t
      pub passes : p c ≡ true
      pub none_before : (e : ℕ) → e < c → h.transaction e ≡ t → p e ≡ true → ⊥

    first_seen : (c : ℕ) → First passes_own h.size (some c) → IsFirst c
    first_seen c (first_some l b f) =
        record {
          there = l;
          own = its_own c b;
          passes = its_pass c b;
          none_before = λ e m o q. clash (passes_own e) (own_passes e o q) (f e m);
        }

    pub first_of_found : (c : ℕ) → first_of h t p ≡ some c → IsFirst c
    unfolding first_of passes_own
    first_of_found c q = first_seen c (first_found passes_own h.size q)

    -- where there is one, there is a first
    pub record HasFirst : Type 0 where
      pub first : ℕ
      pub is_first : first_of h t p ≡ some first

    pub first_of_some : (e : ℕ) → e < h.size → h.transaction e ≡ t → p e ≡ true → HasFirst
    unfolding first_of passes_own
    first_of_some e l o b = go (first_below h.size passes_own) refl (first_view passes_own h.size)
      where
        go : (r : Option ℕ) → first_of h t p ≡ r → First passes_own h.size r → HasFirst
        go none q (first_none f) = absurd (clash (passes_own e) (own_passes e o b) (f e l))
        go (some c) q w = record { first = c; is_first = q }

  -- a write of a copy, and of an item
  pub record WritesCopy (e c : ℕ) : Type 0 where
    pub is_one : h.is_write e ≡ true
    pub of_copy : h.copy e ≡ c

  pub writes_copy_found : (e c : ℕ) → writes_copy h e c ≡ true → WritesCopy e c
  unfolding writes_copy
  writes_copy_found e c b =
      record {
        is_one = (and_parts (h.is_write e) (eqb (h.copy e) c) b).0;
        of_copy = eqb-true (h.copy e) c (and_parts (h.is_write e) (eqb (h.copy e) c) b).1;
      }

  pub writes_copy_hit : (e c : ℕ) → h.is_write e ≡ true → h.copy e ≡ c → writes_copy h e c ≡ true
  unfolding writes_copy
  writes_copy_hit e c w q = and_from (h.is_write e) (eqb (h.copy e) c) w (eq-eqb (h.copy e) c q)

  -- what a write writes, and that no other record writes
  module _ (e : ℕ) where
    pub copy_writes : h.is_write e ≡ true → (c : ℕ) → writes_copy h e c ≡ eqb (h.copy e) c
    unfolding writes_copy
    copy_writes w c = rw w refl

    pub item_writes : h.is_write e ≡ true → (x : ℕ) → writes_item h e x ≡ eqb (h.item e) x
    unfolding writes_item
    item_writes w x = rw w refl

    pub copy_silent : h.is_write e ≡ false → (c : ℕ) → writes_copy h e c ≡ false
    unfolding writes_copy
    copy_silent w c = rw w refl

    pub item_silent : h.is_write e ≡ false → (x : ℕ) → writes_item h e x ≡ false
    unfolding writes_item
    item_silent w x = rw w refl

    -- by an item or a copy that was read from the record
    pub writes_item_of : (d : ℕ) {x : ℕ} → x ≡ h.item e → writes_item h e d ≡ (h.is_write e && eqb x d)
    unfolding writes_item
    writes_item_of d q = ap (λ (y : ℕ). h.is_write e && eqb y d) (sym q)

    pub writes_copy_of : (d : ℕ) {c : ℕ} → c ≡ h.copy e → writes_copy h e d ≡ (h.is_write e && eqb c d)
    unfolding writes_copy
    writes_copy_of d q = ap (λ (y : ℕ). h.is_write e && eqb y d) (sym q)

  -- t has written the copy c, or the item x, before record k
  pub record WroteCopy (t c k : ℕ) : Type 0 where
    pub at : ℕ
    pub before : at < k
    pub own : h.transaction at ≡ t
    pub is_one : h.is_write at ≡ true
    pub of_copy : h.copy at ≡ c

  pub record WroteItem (t x k : ℕ) : Type 0 where
    pub at : ℕ
    pub before : at < k
    pub own : h.transaction at ≡ t
    pub is_one : h.is_write at ≡ true
    pub of_item : h.item at ≡ x

  pub wrote_copy_found : (t c k : ℕ) → wrote_copy h t c k ≡ true → WroteCopy t c k
  unfolding wrote_copy
  wrote_copy_found t c k b =
      let w = before_found t (λ e. writes_copy h e c) k b in
      let v = writes_copy_found w.at c w.passes in
      record { at = w.at; before = w.before; own = w.own; is_one = v.is_one; of_copy = v.of_copy }

  pub wrote_item_found : (t x k : ℕ) → wrote_item h t x k ≡ true → WroteItem t x k
  unfolding wrote_item writes_item
  wrote_item_found t x k b =
      let w = before_found t (λ e. h.is_write e && eqb (h.item e) x) k b in
      let e = w.at in
      record {
        at = e;
        before = w.before;
        own = w.own;
        is_one = (and_parts (h.is_write e) (eqb (h.item e) x) w.passes).0;
        of_item = eqb-true (h.item e) x (and_parts (h.is_write e) (eqb (h.item e) x) w.passes).1;
      }

  pub wrote_item_hit : (t x e k : ℕ) → e < k → h.transaction e ≡ t → h.is_write e ≡ true → h.item e ≡ x → wrote_item h t x k ≡ true
  unfolding wrote_item writes_item
  wrote_item_hit t x e k l o w q =
      before_hit t (λ i. h.is_write i && eqb (h.item i) x) k e l o
      (and_from (h.is_write e) (eqb (h.item e) x) w (eq-eqb (h.item e) x q))

  -- who writes an item has a record that does
  pub writes_found : (t x : ℕ) → writes h t x ≡ true → WroteItem t x h.size
  unfolding writes
  writes_found t x b = wrote_item_found t x h.size b

  pub writes_hit : (t x e : ℕ) → e < h.size → h.transaction e ≡ t → h.is_write e ≡ true → h.item e ≡ x → writes h t x ≡ true
  unfolding writes
  writes_hit t x e l o w q = wrote_item_hit t x e h.size l o w q
