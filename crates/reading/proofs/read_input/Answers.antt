-- `reading::read_input` meets its contract: what a read puts behind the bytes in front goes on where they end.
use Rattle.std.proofs.Common.{◌≡◌, ℕ, ◌+◌, ◌-◌, ◌≤◌, List, ◌++◌, rules, length, take, drop, sym, ap, ap₂, ◌∙◌, subst, le_refl, drop_at}
use Rattle.std.proofs.Common.{length-take-le}
use Rattle.std.proofs.Math.Seq.{take-add, take-append-le}
use Rattle.std.proofs.lemmas.Slice.{take-put_mid_below}
use Rattle.std.proofs.KnownBytes.{Consumes-trans}
use Rattle.std.specs.Io.KnownBytes.{Consumes}
use borrow.Rule.Slice.PartMut.{put_mid, post_of}
use Rattle.reading.proofs.read_input.Goals as goal

-- the first a + n bytes of a buffer whose part from a on was lent: the a bytes in front of it, and n of the part
take-put_mid_more : (a k n : ℕ) (xs ys : List ℕ) → a ≤ length xs → n ≤ length ys → take (a + n) (put_mid a k xs ys) ≡ take a xs ++ take n ys
take-put_mid_more a k n xs ys within fits =
    let behind = post_of a k xs in
    let lent : take n (drop a (put_mid a k xs ys)) ≡ take n ys =
    ap (take n) (drop_at (take a xs) (ys ++ behind) a (length-take-le a xs within)) ∙ take-append-le n ys behind fits in
    take-add a n (put_mid a k xs ys) ∙ ap₂ ◌++◌ (take-put_mid_below a k xs ys a (le_refl a) within) lent

pub loop-count-preserved : goal.loop-count-preserved
loop-count-preserved g c =
    let at = c.loop-count.count in
    let room = length c.loop-count.buffer - at in
    let same = take-put_mid_more at room c.in-Ok.n c.loop-count.buffer c.read.new.buf c.loop-count.invariant.within c.in-Ok.ensures.bound.0 in
    record {
      within = search rules;
      reads = subst (Consumes _ _) (sym same) (Consumes-trans _ _ _ _ _ c.loop-count.invariant.reads c.in-Ok.ensures.bytes.0);
    }
