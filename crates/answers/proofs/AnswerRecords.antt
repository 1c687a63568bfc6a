-- Laws of answer records: how they are written one by one, that they are known by what stands at each place, and that the records of an answer
-- have room in the buffer and leave what is behind them.
use Rattle.std.proofs.Common.{ℕ, zero, suc, ◌+◌, ◌*◌, ◌<◌, ◌≤◌, arith, add-zero, zero-add, add-one, ◌≡◌, refl, sym, ◌∙◌, ap, ap₂, subst, List, []}
use Rattle.std.proofs.Common.{◌∷◌, ◌++◌, length, drop, length-append, get_or-append-add, lt-ltb, le-ltb}
use Rattle.std.proofs.Math.Decide.{ℕ_discrete, dec_lt}
use Rattle.std.proofs.Math.ListN.{get_or-append}
use Rattle.std.proofs.Math.Seq.{sets, sets-eq}
use Rattle.histories.specs.Reasons.{edge, reason}
use Rattle.rules.specs.Answer.{Answer, gives, refused}
use Rattle.rules.specs.Record.{transactions}
use Rattle.rules.specs.LogHistory.{in_log, history_of}
use Rattle.rules.specs.Passes.{Passes}
use Rattle.rules.proofs.PassedLogs.{in_log_low}
use Rattle.lines.specs.Rule.{LineOrCycle, line, cycle, members_of}
use Rattle.lines.specs.Lines.{Below, Means}
use Rattle.lines.proofs.Lists.{among_entry}
use Rattle.lines.proofs.Sorts.{sorted_means, means_fit, means_within}
use Rattle.answers.specs.Verdict.{record_size, entry, pairs, round_to, line_records, cycle_records, answer_records}
use Rattle.answers.specs.Verdict.{verdict_check, line_or_cycle, verdict_answer}
use Rattle.answers.proofs.VerdictRows.{check_passes, enough_room, answer_refused, answer_given}

pub length_pairs : (n : ℕ) (f g : ℕ → ℕ) → length (pairs n f g) ≡ n * record_size
unfolding pairs
length_pairs zero f g = refl
length_pairs (suc n) f g = length-append (pairs n f g) _ ∙ omega (arith, length_pairs n f g)

-- the two bytes of record k
pub pairs_bytes : (n : ℕ) (f g : ℕ → ℕ) (k : ℕ) → k < n
    → (entry (pairs n f g) (k * record_size) ≡ f k) × (entry (pairs n f g) (k * record_size + 1) ≡ g k)
unfolding pairs
pairs_bytes zero f g k l = absurd (omega (arith, l))
pairs_bytes (suc n) f g k l = go (ℕ_discrete k n) (λ m. pairs_bytes n f g k m)
  where
    after : (j : ℕ) → entry (pairs n f g ++ f n ∷ g n ∷ []) (n * record_size + j) ≡ entry (f n ∷ g n ∷ []) j
    after j =
        ap (λ (i : ℕ). entry (pairs n f g ++ f n ∷ g n ∷ []) (i + j)) (sym (length_pairs n f g))
        ∙ get_or-append-add (pairs n f g) (f n ∷ g n ∷ []) j 0

    earlier : (j : ℕ) → j < n * record_size → entry (pairs n f g ++ f n ∷ g n ∷ []) j ≡ entry (pairs n f g) j
    earlier j m = get_or-append (pairs n f g) (f n ∷ g n ∷ []) 0 j (omega (arith, m, length_pairs n f g))

    go : Dec (k ≡ n) → (k < n → (entry (pairs n f g) (k * record_size) ≡ f k) × (entry (pairs n f g) (k * record_size + 1) ≡ g k))
        → (entry (pairs n f g ++ f n ∷ g n ∷ []) (k * record_size) ≡ f k) × (entry (pairs n f g ++ f n ∷ g n ∷ []) (k * record_size + 1) ≡ g k)
    go (yes e) ih = rw e (ap (entry (pairs n f g ++ f n ∷ g n ∷ [])) (sym (add-zero (n * record_size))) ∙ after 0, after 1)
    go (no d) ih =
        let m : k < n = omega (arith, l, d) in
        (earlier (k * record_size) (omega (arith, m)) ∙ (ih m).0, earlier (k * record_size + 1) (omega (arith, m)) ∙ (ih m).1)

-- records with the same bytes at every place
pub pairs_same : (n : ℕ) (f g p q : ℕ → ℕ) → ((k : ℕ) → k < n → f k ≡ p k) → ((k : ℕ) → k < n → g k ≡ q k) → pairs n f g ≡ pairs n p q
unfolding pairs
pairs_same zero f g p q v w = refl
pairs_same (suc n) f g p q v w =
    ap₂ ◌++◌ (pairs_same n f g p q (λ k l. v k (omega (arith, l))) (λ k l. w k (omega (arith, l))))
    (ap₂ (λ (a b : ℕ). a ∷ b ∷ []) (v n (omega arith)) (w n (omega arith)))

-- the next place round a cycle, which is one of its places
pub round_next : (n k : ℕ) → k + 1 < n → round_to n k ≡ k + 1
unfolding round_to
round_next n k l = rw (lt-ltb (suc k) n (omega (arith, l))) (sym (add-one k))

pub round_back : (n k : ℕ) → n ≤ k + 1 → round_to n k ≡ 0
unfolding round_to
round_back n k l = rw (le-ltb (suc k) n (omega (arith, l))) refl

pub round_low : (n k : ℕ) → k < n → round_to n k < n
round_low n k l = go (dec_lt (k + 1) n)
  where
    go : Dec (k + 1 < n) → round_to n k < n
    go (yes m) = rw (round_next n k m) m
    go (no m) = rw (round_back n k (omega (arith, m))) (omega (arith, l))

-- the records of a line and of a cycle, by what stands at each place
pub line_records_are : (xs : List ℕ) → line_records xs ≡ pairs (length xs) (entry xs) (λ k. 0)
unfolding line_records
line_records_are xs = refl

pub cycle_records_are : (log xs : List ℕ)
    → cycle_records log xs ≡ pairs (length xs) (entry xs) (λ k. reason (history_of log) (entry xs k) (entry xs (round_to (length xs) k)))
unfolding cycle_records
cycle_records_are log xs = refl

-- which line or cycle a log that passes has, and that its members are transactions
module _ (log : List ℕ) (sound : Passes log) where
  low : Below transactions (in_log log)
  low = in_log_low log sound.in_limits

  ordered_means : Means transactions (edge (history_of log)) (in_log log) (line_or_cycle log)
  unfolding line_or_cycle
  ordered_means = sorted_means transactions (edge (history_of log)) (in_log log) low

  pub ordered_fits : length (members_of (line_or_cycle log)) ≤ transactions
  ordered_fits = means_fit transactions (edge (history_of log)) (in_log log) low (line_or_cycle log) ordered_means

  pub ordered_low : (k : ℕ) → k < length (members_of (line_or_cycle log)) → entry (members_of (line_or_cycle log)) k < transactions
  ordered_low k l =
      let xs = members_of (line_or_cycle log) in
      let within = means_within transactions (edge (history_of log)) (in_log log) low (line_or_cycle log) ordered_means in
      low (entry xs k) (within (entry xs k) (among_entry xs k l))

-- two bytes for each member
pub records_long : (log : List ℕ) (o : LineOrCycle (List ℕ)) → length (answer_records log (gives o)) ≡ length (members_of o) * record_size
records_long log (line xs) = ap length (line_records_are xs) ∙ length_pairs (length xs) (entry xs) (λ k. 0)
records_long log (cycle xs) =
    ap length (cycle_records_are log xs)
    ∙ length_pairs (length xs) (entry xs) (λ k. reason (history_of log) (entry xs k) (entry xs (round_to (length xs) k)))

-- an answer that is given has room
pub records_fit : (log : List ℕ) (room : ℕ) → length (answer_records log (verdict_answer log room)) ≤ room
records_fit log room = go (verdict_check log room) refl
  where
    Fits : Answer (LineOrCycle (List ℕ)) → Type 0
    Fits a = length (answer_records log a) ≤ room

    go : (a : Answer (Unit {0})) → verdict_check log room ≡ a → Fits (verdict_answer log room)
    go (refused n p) e = subst Fits (sym (answer_refused log room e)) (omega arith)
    go (gives tt) e =
        subst Fits (sym (answer_given log room e))
        (omega (arith, records_long log (line_or_cycle log), ordered_fits log (check_passes log room e), enough_room log room e))

-- THEOREM: the answer's records stand in front of the buffer, and behind them is what was there
pub verdict_written : (log old : List ℕ)
    → let bytes = answer_records log (verdict_answer log (length old)) in sets old 0 bytes ≡ bytes ++ drop (length bytes) old
verdict_written log old =
    let bytes = answer_records log (verdict_answer log (length old)) in
    sets-eq bytes old 0 (omega (arith, records_fit log (length old))) ∙ ap (λ (k : ℕ). bytes ++ drop k old) (zero-add (length bytes))
