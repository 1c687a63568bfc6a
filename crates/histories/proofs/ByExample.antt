-- The definitions by examples, each computed from them alone: small histories, and what document 01 says of them where a wrong definition
-- would say something else. Each proof opens all that a wrong one may use, so that it computes.
use Rattle.std.proofs.Common.{ℕ, ◌+◌, ◌*◌, ◌≡◌, refl, Bool, true, false, not, ◌||◌, List, [], ◌∷◌, length, get_or, eqb}
use Rattle.std.proofs.Math.Option.{Option, none, some}
use Rattle.sets.specs.Search.{some_below, some_from, first_below, last_below}
use Rattle.histories.specs.History.{History, is_by, uses, uses_copy, writes_copy, writes_item, on_same_copy, conflicting}
use Rattle.histories.specs.Earlier.{some_before, some_of, some_after, first_of, committed, wrote_copy, wrote_item, writes}
use Rattle.histories.specs.Source.{Source, shows, is_written, source_record, write_record, source, writer_behind}
use Rattle.histories.specs.Order.{comes_before, writer_after}
use Rattle.histories.specs.Reasons.{gives_conflict, gives_write_order, gives_read_before}
use Rattle.histories.specs.Reasons.{conflict, write_order, read_before, two_of_them, edge, reason}
use Rattle.histories.specs.Faults.{after_commit, reads_unwritten, reads_past_own}

-- a record of an example: a read or a write by t of item x at site s, or a commit of t
pub data Step : Type 0 where
  r : (t x s : ℕ) → Step
  w : (t x s : ℕ) → Step
  c : (t : ℕ) → Step

abbrev by : Step → ℕ
by (r t x s) = t
by (w t x s) = t
by (c t) = t

abbrev of : Step → ℕ
of (r t x s) = x
of (w t x s) = x
of (c t) = 0

-- "A copy is an item at a site": four sites are enough here
abbrev at : Step → ℕ
at (r t x s) = x * 4 + s
at (w t x s) = x * 4 + s
at (c t) = 0

abbrev reads_here : Step → Bool
reads_here (r t x s) = true
reads_here (w t x s) = false
reads_here (c t) = false

abbrev writes_here : Step → Bool
writes_here (r t x s) = false
writes_here (w t x s) = true
writes_here (c t) = false

abbrev commits_here : Step → Bool
commits_here (r t x s) = false
commits_here (w t x s) = false
commits_here (c t) = true

abbrev names : List Step → ℕ → Bool
names [] t = false
names (e ∷ es) t = eqb (by e) t || names es t

-- the history of these records, and of who takes part, which writes are seen, and which reads are real
abbrev history : List Step → (ℕ → Bool) → (ℕ → ℕ → Bool) → (ℕ → Bool) → History
history steps takes_part seen real =
    record {
      size = length steps;
      transaction = λ k. by (get_or steps k (c 0));
      item = λ k. of (get_or steps k (c 0));
      copy = λ k. at (get_or steps k (c 0));
      is_read = λ k. reads_here (get_or steps k (c 0));
      is_write = λ k. writes_here (get_or steps k (c 0));
      is_commit = λ k. commits_here (get_or steps k (c 0));
      takes_part = takes_part;
      seen = seen;
      real = real;
    }

-- as document 01 has them: all who are named take part, no write is passed over, and every read is real
abbrev plain : List Step → History
plain steps = history steps (names steps) (λ e k. true) (λ k. true)

-- "Items x, y, z are 0, 1, 2; sites A to D are 0 to 3."
abbrev x : ℕ
x = 0

abbrev y : ℕ
y = 1

abbrev A : ℕ
A = 0

abbrev B : ℕ
B = 1

abbrev C : ℕ
C = 2

abbrev D : ℕ
D = 3

abbrev P2 : List Step
P2 = w 0 x A ∷ w 0 x B ∷ w 0 y C ∷ c 0 ∷ r 1 y C ∷ w 1 x A ∷ c 1 ∷ r 2 x B ∷ w 2 y C ∷ c 2 ∷ []

abbrev P4 : List Step
P4 = w 0 x A ∷ w 1 x A ∷ c 1 ∷ c 0 ∷ []

abbrev P5 : List Step
P5 = w 0 x A ∷ r 0 x A ∷ c 0 ∷ []

abbrev P6 : List Step
P6 = w 0 x A ∷ w 0 x B ∷ c 0 ∷ w 1 x A ∷ r 1 x B ∷ c 1 ∷ []

abbrev P9 : List Step
P9 = w 5 x A ∷ c 5 ∷ w 3 x B ∷ c 3 ∷ []

abbrev P12 : List Step
P12 = w 0 x A ∷ w 0 x B ∷ w 0 y C ∷ w 0 y D ∷ c 0 ∷ r 1 x A ∷ r 2 y D ∷ w 1 y C ∷ c 1 ∷ w 2 x B ∷ c 2 ∷ []

-- "w0[xA] c0 r1[xA] w1[xA] r1[xA] c1 is serial 0 1"
abbrev two_reads : List Step
two_reads = w 0 x A ∷ c 0 ∷ r 1 x A ∷ w 1 x A ∷ r 1 x A ∷ c 1 ∷ []

-- "P3 with w3[yC] c3 put in front, which is serial 3 0 1 2"
abbrev P3_after_3 : List Step
P3_after_3 = w 3 y C ∷ c 3 ∷ w 0 x A ∷ w 0 x B ∷ w 0 y C ∷ c 0 ∷ r 1 y C ∷ w 1 x A ∷ c 1 ∷ w 2 y C ∷ c 2 ∷ []

-- Sources: the transaction, and the place of the write record.
abbrev written : (t place : ℕ) → Option Source
written t place = some (record { transaction = t; place = place })

pub record SourcesTold : Type 0 where
  -- "the last earlier write record on the same copy", and the error "taking the latest write of the item, at any site": r2[xB] of P2 has
  -- source 0 at record 1, though transaction 1 has written x since, at A; and r1[yC] has source 0 at record 2
  on_the_copy : source (plain P2) 7 ≡ written 0 1
  of_another_item : source (plain P2) 4 ≡ written 0 2
  -- "two reads of one item with different sources": before w1[xA] the source is 0, after it 1, "the reader itself"
  before_the_write : source (plain two_reads) 2 ≡ written 0 0
  after_the_write : source (plain two_reads) 4 ≡ written 1 3
  -- "the last earlier write record": of two by one transaction it is the later, and none that stands after the read
  written_again : source (plain (w 0 x A ∷ w 0 x A ∷ r 1 x A ∷ w 0 x A ∷ [])) 2 ≡ written 0 1
  -- "none for a write or commit"
  of_a_write : source (plain two_reads) 3 ≡ none
  of_a_commit : source (plain P2) 9 ≡ none
  -- a write that the read passes over is not its source: here 1, so that the source is 0
  passed_over : source (history (w 0 x A ∷ w 1 x A ∷ r 2 x A ∷ []) (λ t. true) (λ e k. not (eqb e 1)) (λ k. true)) 2 ≡ written 0 0
  -- the writer alone
  writer_alone : writer_behind (plain two_reads) 4 ≡ some 1

pub sources_told : SourcesTold
unfolding some_below first_below last_below writes_copy writes_item shows source_record write_record source writer_behind
sources_told =
    record {
      on_the_copy = refl;
      of_another_item = refl;
      before_the_write = refl;
      after_the_write = refl;
      written_again = refl;
      of_a_write = refl;
      of_a_commit = refl;
      passed_over = refl;
      writer_alone = refl;
    }

-- Write order: "the one whose commit stands earlier comes first".
pub record OrdersTold : Type 0 where
  -- P4: 0 wrote x first, and 1 committed first
  commits_first : comes_before (plain P4) x 1 0 ≡ true
  commits_last : comes_before (plain P4) x 0 1 ≡ false
  -- P9, "serial 5 3": the two have written no copy in common
  no_shared_copy : comes_before (plain P9) x 5 3 ≡ true
  -- of two commits of a transaction the first counts (document 01 refuses the second)
  first_commit : first_of (plain (c 0 ∷ c 1 ∷ c 0 ∷ [])) 0 (λ k. true) ≡ some 0

pub orders_told : OrdersTold
unfolding some_below some_from first_below last_below is_by writes_copy writes_item some_before some_of some_after first_of committed
    wrote_copy wrote_item writes comes_before
orders_told = record { commits_first = refl; commits_last = refl; no_shared_copy = refl; first_commit = refl }

-- Reasons, of pairs from and to: "the lowest number that applies", and 0 "where there is none".
abbrev reasons : History → List (ℕ × ℕ) → List ℕ
reasons h [] = []
reasons h (p ∷ ps) = reason h p.0 p.1 ∷ reasons h ps

pub record ReasonsTold : Type 0 where
  -- P2: "cycle 1, 2 with reasons 1, 3". From 0 to 1 there are a conflict and the write order: 1; from 1 to 0 there is none
  of_P2 : reasons (plain P2) ((1, 2) ∷ (2, 1) ∷ (0, 1) ∷ (1, 0) ∷ []) ≡ 1 ∷ 3 ∷ 1 ∷ 0 ∷ []
  -- P4: "cycle 0, 1 with reasons 1, 2"
  of_P4 : reasons (plain P4) ((0, 1) ∷ (1, 0) ∷ []) ≡ 1 ∷ 2 ∷ []
  -- "i and j different": in P5, 0 writes a copy and reads it, and has no edge to itself
  of_P5 : reasons (plain P5) ((0, 0) ∷ []) ≡ 0 ∷ []
  -- P12: "cycle 1, 2 with reasons 3, 3", and "P12 has no cycle among conflicts": r1[xA] and w2[xB] are not on the same copy
  of_P12 : reasons (plain P12) ((1, 2) ∷ (2, 1) ∷ []) ≡ 3 ∷ 3 ∷ []
  -- the error "giving a read-before edge to a writer that comes before the source": r1[yC] has source 0, and gives none to 3, nor to 0
  after_3 : reasons (plain P3_after_3) ((1, 3) ∷ (1, 0) ∷ []) ≡ 0 ∷ 0 ∷ []
  -- "at least one a write": two reads of a copy are in no conflict
  of_readers : reasons (plain (w 0 x A ∷ c 0 ∷ r 1 x A ∷ r 2 x A ∷ c 1 ∷ c 2 ∷ [])) ((0, 2) ∷ (1, 2) ∷ (2, 1) ∷ []) ≡ 1 ∷ 0 ∷ 0 ∷ []
  -- P2 with r2[xB] not real: it does not count in reason 3
  without_read : reasons (history P2 (names P2) (λ e k. true) (λ k. not (eqb k 7))) ((1, 2) ∷ (2, 1) ∷ []) ≡ 1 ∷ 0 ∷ []
  -- P2 where 1 does not take part: no edge from it, and none to it
  without_1 : reasons (history P2 (λ t. not (eqb t 1)) (λ e k. true) (λ k. true)) ((1, 2) ∷ (2, 1) ∷ (0, 2) ∷ []) ≡ 0 ∷ 0 ∷ 1 ∷ []

pub reasons_told : ReasonsTold
unfolding some_below some_from first_below last_below is_by uses uses_copy writes_copy writes_item some_before some_of some_after first_of
    committed wrote_copy wrote_item writes shows is_written source_record write_record source writer_behind comes_before writer_after on_same_copy conflicting
    gives_conflict gives_write_order gives_read_before conflict write_order read_before two_of_them edge reason
reasons_told =
    record {
      of_P2 = refl;
      of_P4 = refl;
      of_P5 = refl;
      of_P12 = refl;
      after_3 = refl;
      of_readers = refl;
      without_read = refl;
      without_1 = refl;
    }

-- Numbers 6 to 8 at single records.
pub record RefusalsTold : Type 0 where
  -- 6, "has committed earlier": P14 at its second commit, and no transaction at its first ("c7 gives serial 7")
  second_commit : after_commit (plain (c 0 ∷ c 0 ∷ [])) 1 ≡ true
  first_commit : after_commit (plain (c 7 ∷ [])) 0 ≡ false
  -- 7, "that no earlier record writes": a later write does not help
  written_later : reads_unwritten (plain (r 0 x A ∷ w 0 x A ∷ c 0 ∷ [])) 0 ≡ true
  -- 8: P6 at r1[xB]
  another_site : reads_past_own (plain P6) 4 ≡ true
  -- "wrote earlier", and "at a site where it did not write": both reads of r1[xA] w1[xA] r1[xA] pass
  own_write_later : reads_past_own (plain two_reads) 2 ≡ false
  own_write_there : reads_past_own (plain two_reads) 4 ≡ false

pub refusals_told : RefusalsTold
unfolding some_below is_by writes_copy writes_item some_before some_of committed wrote_copy wrote_item writes shows is_written
    after_commit reads_unwritten reads_past_own
refusals_told =
    record {
      second_commit = refl;
      first_commit = refl;
      written_later = refl;
      another_site = refl;
      own_write_later = refl;
      own_write_there = refl;
    }
