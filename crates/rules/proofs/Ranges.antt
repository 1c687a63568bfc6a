-- What a record has that passes 4 and 5: a known kind, and numbers within the limits.
use Rattle.std.proofs.Common.{ℕ, ◌<◌, arith, ◌≡◌, List, [], ◌∷◌, Bool, true, false, not, ◌&&◌, cond, eqb, ltb, ltb-true, eqb-true}
use Rattle.std.proofs.lemmas.Bool.{not-false, and_parts}
use Rattle.rules.specs.Rows.{row, NoneOf}
use Rattle.rules.specs.Record.{Within, transactions, items, sites, kind, transaction, item, site, records, commit_kind}
use Rattle.rules.specs.Form.{known_kind, in_range, form_rows}
use Rattle.rules.proofs.Rows.{none_here, none_later}

-- a commit's item and site are 0, so they are in range too
low_numbers : (c : Bool) (x s : ℕ) → cond c (eqb x 0 && eqb s 0) (ltb x items && ltb s sites) ≡ true → (x < items) × (s < sites)
low_numbers true x s h =
    let e = eqb-true x 0 (and_parts (eqb x 0) (eqb s 0) h).0 in
    let f = eqb-true s 0 (and_parts (eqb x 0) (eqb s 0) h).1 in
    (omega arith, omega arith)
low_numbers false x s h = (ltb-true x items (and_parts (ltb x items) (ltb s sites) h).0, ltb-true s sites (and_parts (ltb x items) (ltb s sites) h).1)

-- the two tests that did not apply
pub known_passes : (k b t x s : ℕ) → NoneOf (form_rows k b t x s) → known_kind b ≡ true
known_passes k b t x s w =
    not-false (known_kind b) (none_here (row 4 (not (known_kind b)) k) (row 5 (not (in_range b t x s)) k ∷ []) w)

pub range_passes : (k b t x s : ℕ) → NoneOf (form_rows k b t x s) → in_range b t x s ≡ true
range_passes k b t x s w =
    not-false (in_range b t x s)
    (none_here (row 5 (not (in_range b t x s)) k) [] (none_later (row 4 (not (known_kind b)) k) (row 5 (not (in_range b t x s)) k ∷ []) w))

module _ (log : List ℕ) (k : ℕ) where
  pub within_record : k < records log → in_range (kind log k) (transaction log k) (item log k) (site log k) ≡ true → Within log k
  unfolding in_range
  within_record l w =
      let b = commit_kind (kind log k) in
      let t = transaction log k in
      let x = item log k in
      let s = site log k in
      let low = low_numbers b x s (and_parts (cond b (eqb x 0 && eqb s 0) (ltb x items && ltb s sites)) (ltb t transactions) w).0 in
      record {
        there = l;
        transaction_within = ltb-true t transactions (and_parts (cond b (eqb x 0 && eqb s 0) (ltb x items && ltb s sites)) (ltb t transactions) w).1;
        item_within = low.0;
        site_within = low.1;
      }
