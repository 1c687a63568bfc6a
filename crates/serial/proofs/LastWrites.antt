-- In every line in log order the last writer of an item made the last write on each copy of the item that it wrote: another's later write
-- would put that other after it.
use Rattle.std.proofs.Common.{ℕ, ◌<◌, arith, ◌≡◌, refl, sym, ◌∙◌, ap, subst, true, false, List, ⊎_elim}
use Rattle.std.proofs.Math.Decide.{ℕ_discrete, dec_lt}
use Rattle.std.proofs.Math.Option.{Option, none, some}
use Rattle.std.proofs.lemmas.Bool.{cases_Bool, and_parts}
use borrow.Author.Clash.{clash}
use Rattle.sets.proofs.Searches.{Last, last_none, last_some, last_view}
use Rattle.histories.specs.History.{History, Counts, writes_copy}
use Rattle.histories.specs.Earlier.{writes}
use Rattle.histories.specs.Sound.{Sound}
use Rattle.histories.proofs.OfTransactions.{WritesCopy, writes_copy_found, writes_copy_hit, writes_hit}
use Rattle.histories.proofs.Conflicts.{write_uses, write_then_use}
use Rattle.lines.specs.Lines.{stands_before}
use Rattle.lines.proofs.Stands.{not_both}
use Rattle.serial.specs.Run.{last_writer}
use Rattle.serial.specs.Serial.{InLogOrder, part_writes, last_write, MadeLastWrite, LastWritesKept}
use Rattle.serial.proofs.Runs.{last_of_found}

-- a write on a copy, of one that takes part
module _ (h : History) (c e : ℕ) where
  its_part : part_writes h c e ≡ true → h.takes_part (h.transaction e) ≡ true
  its_part b = ⊎_elim (λ p. p) (λ p. absurd (clash (part_writes h c e) b (no_part p))) (cases_Bool (h.takes_part (h.transaction e)))
    where
      no_part : h.takes_part (h.transaction e) ≡ false → part_writes h c e ≡ false
      no_part p = rw p refl

  its_write : part_writes h c e ≡ true → WritesCopy h e c
  its_write b = writes_copy_found h e c (and_parts (h.takes_part (h.transaction e)) (writes_copy h e c) b).1

  is_part_write : h.takes_part (h.transaction e) ≡ true → WritesCopy h e c → part_writes h c e ≡ true
  is_part_write p w = rw (p, writes_copy_hit h e c w.is_one w.of_copy) refl

module _ (h : History) (sound : Sound h) (line : List ℕ) (o : InLogOrder h line) where
  -- t is the last writer of the item x, and wrote it at record d
  module _ (x t d : ℕ) (last : last_writer h x line ≡ some t) (c : Counts h d) (w : h.is_write d ≡ true) (own : h.transaction d ≡ t) (of_item : h.item d ≡ x) where
    -- another's later write of the copy would put it after the last writer
    none_later : (e : ℕ) → d < e → Counts h e → WritesCopy h e (h.copy d) → (h.transaction e ≡ t → ⊥) → ⊥
    none_later e l v u q =
        let after = subst (λ (i : ℕ). stands_before line i (h.transaction e) ≡ true) own
        (o.keeps_conflicts d e l c v (write_then_use h d e w (write_uses h e u.is_one) u.of_copy) (λ p. q (sym p ∙ own))) in
        let one_item = sound.of_copies.one_item e d v.there c.there (write_uses h e u.is_one) (write_uses h d w) u.of_copy in
        let is_writer = writes_hit h (h.transaction e) x e v.there refl u.is_one (one_item ∙ of_item) in
        ⊎_elim q (λ (b : stands_before line (h.transaction e) t ≡ true). not_both line t (h.transaction e) o.each_once after b)
        ((last_of_found (λ i. writes h i x) line t last).others (h.transaction e) (o.all_and_only (h.transaction e) ∙ v.part) is_writer)

    made_last : MadeLastWrite h t (h.copy d)
    made_last = go (last_write h (h.copy d)) (last_view (part_writes h (h.copy d)) h.size) refl
      where
        own_write : part_writes h (h.copy d) d ≡ true
        own_write = is_part_write h (h.copy d) d c.part (record { is_one = w; of_copy = refl })

        go : (r : Option ℕ) → Last (part_writes h (h.copy d)) h.size r → last_write h (h.copy d) ≡ r → MadeLastWrite h t (h.copy d)
        go none (last_none f) q = absurd (clash (part_writes h (h.copy d) d) own_write (f d c.there))
        go (some e) (last_some m b f) q =
            record { at = e; is_last = q; own = is_own (ℕ_discrete (h.transaction e) t) (dec_lt d e) (ℕ_discrete d e) }
          where
            is_own : Dec (h.transaction e ≡ t) → Dec (d < e) → Dec (d ≡ e) → h.transaction e ≡ t
            is_own (yes p) l s = p
            is_own (no p) (yes l) s =
                absurd (none_later e l (record { there = m; part = its_part h (h.copy d) e b }) (its_write h (h.copy d) e b) p)
            is_own (no p) (no l) (yes s) = absurd (p (ap h.transaction (sym s) ∙ own))
            is_own (no p) (no l) (no s) = absurd (clash (part_writes h (h.copy d) d) own_write (f d (omega (arith, l, s)) c.there))

  -- THEOREM: "Its last writer of an item made the last write on each copy of the item that it wrote."
  pub last_writes : LastWritesKept h line
  last_writes = made_last
