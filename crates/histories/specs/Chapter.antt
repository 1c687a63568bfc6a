-- What the chapter asks of a graph: SG, reads-from, the two conditions on a graph, and the RDSG. The crawled text has lost subscripts;
-- docs/DECISIONS.md says which were put back here.
use Rattle.std.specs.Prelude.{ℕ, ◌≡◌, Bool, true, ◌&&◌, ◌⊎◌}
use Rattle.std.proofs.Math.Option.{some}
use Rattle.sets.specs.Paths.{Precedes}
use Rattle.histories.specs.History.{History, Counts}
use Rattle.histories.specs.Earlier.{Writer}
use Rattle.histories.specs.Source.{writer_behind}
use Rattle.histories.specs.Reasons.{conflict, two_of_them}

module _ (h : History) where
  -- an edge of SG(H): two transactions with conflicting operations, in that order
  unfoldable pub serialization_edge : ℕ → ℕ → Bool
  serialization_edge i j = two_of_them h i j && conflict h i j

  -- "T_j reads-x-from T_i", at record e: it is a real read of x by j, which takes part, and the writer behind it is i
  pub record ReadsFrom (x j i e : ℕ) : Type 0 where
    pub counts : Counts h e
    pub its_own : h.transaction e ≡ j
    pub of_item : h.item e ≡ x
    pub is_real : h.real e ≡ true
    pub from : writer_behind h e ≡ some i

  -- "1. if T_i and T_k write x, then either T_i << T_k or T_k << T_i": two transactions, so i is not k
  abbrev pub InducesWriteOrder : (ℕ → ℕ → Bool) → Type 0
  InducesWriteOrder edge = (x i k : ℕ) → Writer h x i → Writer h x k → (i ≡ k → ⊥) → Precedes edge i k ⊎ Precedes edge k i

  -- "2. if T_j reads-x-from T_i, T_k writes some copy of x (k ≠ i, k ≠ j), and T_i << T_k, then T_j << T_k"
  abbrev pub InducesReadOrder : (ℕ → ℕ → Bool) → Type 0
  InducesReadOrder edge =
      (x i j k e : ℕ) → ReadsFrom x j i e → Writer h x k → (k ≡ i → ⊥) → (k ≡ j → ⊥) → Precedes edge i k → Precedes edge j k

  -- an RDSG: a graph of the transactions that take part, "an extension of SG(H) that induces a read order and a write order for H"
  pub record RDSG (edge : ℕ → ℕ → Bool) : Type 0 where
    pub of_its_transactions : (i j : ℕ) → edge i j ≡ true → (h.takes_part i ≡ true) × (h.takes_part j ≡ true)
    pub extends_SG : (i j : ℕ) → serialization_edge i j ≡ true → edge i j ≡ true
    pub induces_write_order : InducesWriteOrder edge
    pub induces_read_order : InducesReadOrder edge
