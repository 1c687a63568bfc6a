-- What each reason says, as facts of records and of the write order, there and back; so nothing above opens one of the three.
use Rattle.std.proofs.Common.{ℕ, ◌<◌, ◌≡◌, refl, sym, ◌∙◌, true, false, ◌&&◌, ⊎_elim}
use Rattle.std.proofs.Math.Option.{Option, none, some}
use Rattle.std.proofs.Math.Bool.{and-false}
use Rattle.std.proofs.lemmas.Bool.{cases_Bool, and_parts}
use borrow.Author.Clash.{clash}
use Rattle.histories.specs.History.{History, conflicting}
use Rattle.histories.specs.Earlier.{writes}
use Rattle.histories.specs.Source.{source_record, writer_behind}
use Rattle.histories.specs.Order.{writer_after}
use Rattle.histories.specs.Reasons.{gives_conflict, gives_write_order, gives_read_before, conflict, write_order, read_before}
use Rattle.histories.proofs.OfTransactions.{of_found, after_found, writes_hit}
use Rattle.histories.proofs.Sources.{writer_of, writer_none}
use Rattle.histories.proofs.Orders.{WriterAfter, writer_after_found}

module _ (h : History) (e j : ℕ) where
  -- what record e gives by reason 2: a write, the writers after its own transaction
  pub order_given : gives_write_order h e j ≡ (h.is_write e && writer_after h (h.item e) (h.transaction e) j)
  unfolding gives_write_order
  order_given = refl

  pub write_gives : h.is_write e ≡ true → gives_write_order h e j ≡ writer_after h (h.item e) (h.transaction e) j
  unfolding gives_write_order
  write_gives w = rw w refl

  -- by reason 3: a real read, the writers after its source
  pub sourced_gives : (s : ℕ) → h.real e ≡ true → writer_behind h e ≡ some s → gives_read_before h e j ≡ writer_after h (h.item e) s j
  unfolding gives_read_before
  sourced_gives s r q = rw (r, q) refl

  pub unreal_gives : h.real e ≡ false → gives_read_before h e j ≡ false
  unfolding gives_read_before
  unreal_gives r = rw r refl

  pub no_source_gives : writer_behind h e ≡ none → gives_read_before h e j ≡ false
  unfolding gives_read_before
  no_source_gives q = rw q (and-false (h.real e))

  -- by the record of the source, as a walk back finds it
  pub read_gives : (f : ℕ) → h.real e ≡ true → source_record h e ≡ some f
      → gives_read_before h e j ≡ writer_after h (h.item e) (h.transaction f) j
  read_gives f r q = sourced_gives (h.transaction f) r (writer_of h e f q)

  pub sourceless_gives : source_record h e ≡ none → gives_read_before h e j ≡ false
  sourceless_gives q = no_source_gives (writer_none h e q)

  record OrderGiven : Type 0 where
    is_one : h.is_write e ≡ true
    after : writer_after h (h.item e) (h.transaction e) j ≡ true

  order_found : gives_write_order h e j ≡ true → OrderGiven
  unfolding gives_write_order
  order_found b =
      record {
        is_one = (and_parts (h.is_write e) (writer_after h (h.item e) (h.transaction e) j) b).0;
        after = (and_parts (h.is_write e) (writer_after h (h.item e) (h.transaction e) j) b).1;
      }

  record ReadGiven : Type 0 where
    is_real : h.real e ≡ true
    origin : ℕ
    from : writer_behind h e ≡ some origin
    after : writer_after h (h.item e) origin j ≡ true

  read_found : gives_read_before h e j ≡ true → ReadGiven
  read_found b = ⊎_elim is_real (λ (r : h.real e ≡ false). absurd (clash (gives_read_before h e j) b (unreal_gives r))) (cases_Bool (h.real e))
    where
      is_real : h.real e ≡ true → ReadGiven
      is_real r = go (writer_behind h e) refl
        where
          go : (o : Option ℕ) → writer_behind h e ≡ o → ReadGiven
          go (some s) q = record { is_real = r; origin = s; from = q; after = sym (sourced_gives s r q) ∙ b }
          go none q = absurd (clash (gives_read_before h e j) b (no_source_gives q))

module _ (h : History) (i j : ℕ) where
  -- 1: two records in conflict, in that order
  pub record InConflict : Type 0 where
    pub first : ℕ
    pub second : ℕ
    pub in_order : first < second
    pub there : second < h.size
    pub from : h.transaction first ≡ i
    pub to : h.transaction second ≡ j
    pub conflict_between : conflicting h first second ≡ true

  pub conflict_found : conflict h i j ≡ true → InConflict
  unfolding conflict gives_conflict
  conflict_found b =
      let w = of_found h i (λ e. gives_conflict h e j) b in
      let v = after_found h j (conflicting h w.at) w.at w.passes in
      record {
        first = w.at;
        second = v.at;
        in_order = v.after;
        there = v.there;
        from = w.own;
        to = v.own;
        conflict_between = v.passes;
      }

  -- 2: two writers of an item, in its write order
  pub record InWriteOrder : Type 0 where
    pub of_item : ℕ
    pub wrote : writes h i of_item ≡ true
    pub next : WriterAfter h of_item i j

  pub write_order_found : write_order h i j ≡ true → InWriteOrder
  unfolding write_order
  write_order_found b =
      let w = of_found h i (λ e. gives_write_order h e j) b in
      let e = w.at in
      let v = order_found h e j w.passes in
      let after : writer_after h (h.item e) i j ≡ true = rw w.own at v.after in
      record {
        of_item = h.item e;
        wrote = writes_hit h i (h.item e) e w.before w.own v.is_one refl;
        next = writer_after_found h (h.item e) i j after;
      }

  -- 3: a real read, and a writer of its item that comes after its source
  pub record ReadBefore : Type 0 where
    pub at : ℕ
    pub origin : ℕ
    pub there : at < h.size
    pub reader : h.transaction at ≡ i
    pub is_real : h.real at ≡ true
    pub from : writer_behind h at ≡ some origin
    pub next : WriterAfter h (h.item at) origin j

  pub read_before_found : read_before h i j ≡ true → ReadBefore
  unfolding read_before
  read_before_found b =
      let w = of_found h i (λ e. gives_read_before h e j) b in
      let v = read_found h w.at j w.passes in
      record {
        at = w.at;
        origin = v.origin;
        there = w.before;
        reader = w.own;
        is_real = v.is_real;
        from = v.from;
        next = writer_after_found h (h.item w.at) v.origin j v.after;
      }
