-- Laws of parts of a buffer that no proof of the code cites: a part that is written number by number, and the lowest of a part, found by
-- looking at one number after the other.
use Rattle.std.proofs.Common.{ℕ, suc, ◌+◌, ◌-◌, ◌<◌, ◌≤◌, arith, add-one, ◌≡◌, sym, ◌∙◌, ap, List, [], ◌∷◌, ◌++◌, length, take, drop, get_or, set}
use Rattle.std.proofs.Common.{length-take-le}
use Rattle.std.proofs.Math.Decide.{ℕ_discrete}
use Rattle.std.proofs.Math.Seq.{sets, slice, length-slice, slice_empty, take-suc, get_or-take, get_or-drop, drop-append-le}
use Rattle.lines.specs.Rule.{place_of, lowest_member}
use Rattle.lines.proofs.Lists.{sets_append}
use Rattle.lines.proofs.Turned.{lowest_place_is}

-- a part grows by one
slice_more : (from : List ℕ) (start k : ℕ) → start ≤ k → k < length from
    → slice start (suc k) from ≡ slice start k from ++ get_or from k 0 ∷ []
slice_more from start k l m =
    ap (drop start) (take-suc from k 0 m)
    ∙ drop-append-le start (take k from) (get_or from k 0 ∷ []) (rw (length-take-le k from (omega (arith, m))) l)

-- at first nothing of it is written, and then one more
pub part_none : (from to : List ℕ) (start at : ℕ) → to ≡ sets to at (slice start start from)
part_none from to start at = sym (ap (sets to at) (slice_empty start from))

pub part_more : (from to : List ℕ) (start at k : ℕ) → start ≤ k → k < length from
    → set (sets to at (slice start k from)) (at + (k - start)) (get_or from k 0) ≡ sets to at (slice start (k + 1) from)
part_more from to start at k l m =
    sym
    (ap (λ (e : ℕ). sets to at (slice start e from)) (add-one k)
    ∙ ap (sets to at) (slice_more from start k l m)
    ∙ sets_append (slice start k from) (get_or from k 0 ∷ []) to at
    ∙ ap (λ (e : ℕ). set (sets to at (slice start k from)) (at + e) (get_or from k 0)) (length-slice start k from (omega (arith, m))))

-- entries of a part
pub slice_entry : (from : List ℕ) (start end j : ℕ) → start + j < end → get_or (slice start end from) j 0 ≡ get_or from (start + j) 0
slice_entry from start end j l = get_or-drop start (take end from) j 0 ∙ get_or-take end from (start + j) 0 l

-- of the part from `at` to k the lowest stands at `low`, and before it nothing as low
pub record LowestAt (buffer : List ℕ) (at low k : ℕ) : Type 0 where
  pub from : at ≤ low
  pub none_lower : (j : ℕ) → at ≤ j → j < k → get_or buffer low 0 ≤ get_or buffer j 0
  pub none_before : (j : ℕ) → at ≤ j → j < low → get_or buffer low 0 < get_or buffer j 0

pub lowest_start : (buffer : List ℕ) (at : ℕ) → LowestAt buffer at at at
lowest_start buffer at =
    record { from = omega arith; none_lower = λ j a b. absurd (omega (arith, a, b)); none_before = λ j a b. absurd (omega (arith, a, b)) }

-- one more looked at: it is the lowest now, or the lowest stays
module _ (buffer : List ℕ) (at low k : ℕ) (w : LowestAt buffer at low k) where
  pub lowest_new : at ≤ k → get_or buffer k 0 < get_or buffer low 0 → LowestAt buffer at k (k + 1)
  lowest_new a l =
      record { from = a; none_lower = λ j b m. go j b m (ℕ_discrete j k); none_before = λ j b m. omega (arith, l, w.none_lower j b m) }
    where
      go : (j : ℕ) → at ≤ j → j < k + 1 → Dec (j ≡ k) → get_or buffer k 0 ≤ get_or buffer j 0
      go j b m (yes q) = rw q (omega arith)
      go j b m (no q) = omega (arith, l, w.none_lower j b (omega (arith, m, q)))

  pub lowest_stays : get_or buffer low 0 ≤ get_or buffer k 0 → LowestAt buffer at low (k + 1)
  lowest_stays l = record { from = w.from; none_lower = λ j b m. go j b m (ℕ_discrete j k); none_before = w.none_before }
    where
      go : (j : ℕ) → at ≤ j → j < k + 1 → Dec (j ≡ k) → get_or buffer low 0 ≤ get_or buffer j 0
      go j b m (yes q) = rw q l
      go j b m (no q) = w.none_lower j b (omega (arith, m, q))

-- the whole part looked at: this is the place of its lowest
pub part_lowest : (buffer : List ℕ) (at end low : ℕ) → end ≤ length buffer → low < end → LowestAt buffer at low end
    → low ≡ at + place_of (lowest_member (slice at end buffer)) (slice at end buffer)
part_lowest buffer at end low fits l w = omega (arith, w.from, lowest_place_is (slice at end buffer) (low - at) inside all before)
  where
    long : length (slice at end buffer) ≡ end - at
    long = length-slice at end buffer fits

    inside : low - at < length (slice at end buffer)
    inside = rw long (omega (arith, w.from, l))

    entry : (j : ℕ) → j < end - at → get_or (slice at end buffer) j 0 ≡ get_or buffer (at + j) 0
    entry j m = slice_entry buffer at end j (omega (arith, m))

    own : get_or (slice at end buffer) (low - at) 0 ≡ get_or buffer low 0
    own = entry (low - at) (omega (arith, w.from, l)) ∙ ap (λ (x : ℕ). get_or buffer x 0) (omega (arith, w.from))

    all : (j : ℕ) → j < length (slice at end buffer) → get_or (slice at end buffer) (low - at) 0 ≤ get_or (slice at end buffer) j 0
    all j m = let n : j < end - at = omega (arith, m, long) in rw (own, entry j n) (w.none_lower (at + j) (omega arith) (omega (arith, n)))

    before : (j : ℕ) → j < low - at → get_or (slice at end buffer) (low - at) 0 < get_or (slice at end buffer) j 0
    before j m = rw (own, entry j (omega (arith, m, l))) (w.none_before (at + j) (omega arith) (omega (arith, m)))
