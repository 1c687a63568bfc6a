-- P1 to P14 of document 01, a row each: the log, what the verdict says, and the answer's bytes.
use Rattle.std.specs.Prelude.{ℕ, List, [], ◌∷◌}
use Rattle.rules.specs.Answer.{Answer, gives, refused}
use Rattle.lines.specs.Rule.{LineOrCycle, line, cycle}
use Rattle.answers.specs.Verdict.{most_answer, verdict_answer, answer_records, how_many}

-- "Items x, y, z are 0, 1, 2; sites A to D are 0 to 3."
abbrev x : ℕ
x = 0

abbrev y : ℕ
y = 1

abbrev z : ℕ
z = 2

abbrev A : ℕ
A = 0

abbrev B : ℕ
B = 1

abbrev C : ℕ
C = 2

abbrev D : ℕ
D = 3

-- a record, and the log after it: a read, a write and a commit of transaction t
abbrev r : (t item site : ℕ) → List ℕ → List ℕ
r t item site log = 1 ∷ t ∷ item ∷ site ∷ log

abbrev w : (t item site : ℕ) → List ℕ → List ℕ
w t item site log = 2 ∷ t ∷ item ∷ site ∷ log

abbrev c : ℕ → List ℕ → List ℕ
c t log = 3 ∷ t ∷ 0 ∷ 0 ∷ log

-- a row of the table: what the verdict says of a log, and the answer's bytes
pub record MarkedLog : Type 0 where
  pub log : List ℕ
  pub says : Answer (LineOrCycle ℕ)
  pub bytes : List ℕ

abbrev serial : List ℕ → (n : ℕ) → List ℕ → MarkedLog
serial log n bytes = record { log = log; says = gives (line n); bytes = bytes }

abbrev cyclic : List ℕ → (n : ℕ) → List ℕ → MarkedLog
cyclic log n bytes = record { log = log; says = gives (cycle n); bytes = bytes }

abbrev refusal : List ℕ → (number place : ℕ) → MarkedLog
refusal log number place = record { log = log; says = refused number place; bytes = [] }

-- the row that the definitions give for a log, with a buffer of 128 bytes
abbrev pub marked_given : MarkedLog → MarkedLog
marked_given p =
    let answer = verdict_answer p.log most_answer in
    record { log = p.log; says = how_many answer; bytes = answer_records p.log answer }

abbrev pub all_given : List MarkedLog → List MarkedLog
all_given [] = []
all_given (p ∷ ps) = marked_given p ∷ all_given ps

-- P2 (history H1 of source document 000) w0[xA] w0[xB] w0[yC] c0 r1[yC] w1[xA] c1 r2[xB] w2[yC] c2: cycle 1, 2 with reasons 1, 3.
abbrev pub P2 : MarkedLog
P2 = cyclic (w 0 x A (w 0 x B (w 0 y C (c 0 (r 1 y C (w 1 x A (c 1 (r 2 x B (w 2 y C (c 2 [])))))))))) 2 (1 ∷ 1 ∷ 2 ∷ 3 ∷ [])

-- the logs that document 01 marks P
abbrev pub marked : List MarkedLog
marked =
    -- P1 empty: serial, 0.
    serial [] 0 []
    ∷ P2
    -- P3 the same without r2[xB]: serial 0 1 2.
    ∷ serial (w 0 x A (w 0 x B (w 0 y C (c 0 (r 1 y C (w 1 x A (c 1 (w 2 y C (c 2 []))))))))) 3 (0 ∷ 0 ∷ 1 ∷ 0 ∷ 2 ∷ 0 ∷ [])
    -- P4 w0[xA] w1[xA] c1 c0: cycle 0, 1 with reasons 1, 2.
    ∷ cyclic (w 0 x A (w 1 x A (c 1 (c 0 [])))) 2 (0 ∷ 1 ∷ 1 ∷ 2 ∷ [])
    -- P5 w0[xA] r0[xA] c0: serial 0.
    ∷ serial (w 0 x A (r 0 x A (c 0 []))) 1 (0 ∷ 0 ∷ [])
    -- P6 w0[xA] w0[xB] c0 w1[xA] r1[xB] c1: refusal 8, place 4.
    ∷ refusal (w 0 x A (w 0 x B (c 0 (w 1 x A (r 1 x B (c 1 [])))))) 8 4
    -- P7 r0[xA] c0: refusal 7, place 0.
    ∷ refusal (r 0 x A (c 0 [])) 7 0
    -- P8 w0[xA] w0[xB] c0 w1[xA] c1 r2[xA] r2[xB] c2: cycle 1, 2 with reasons 1, 3.
    ∷ cyclic (w 0 x A (w 0 x B (c 0 (w 1 x A (c 1 (r 2 x A (r 2 x B (c 2 [])))))))) 2 (1 ∷ 1 ∷ 2 ∷ 3 ∷ [])
    -- P9 w5[xA] c5 w3[xB] c3: serial 5 3.
    ∷ serial (w 5 x A (c 5 (w 3 x B (c 3 [])))) 2 (5 ∷ 0 ∷ 3 ∷ 0 ∷ [])
    -- P10 w5[xA] c5 w3[yA] c3: serial 3 5.
    ∷ serial (w 5 x A (c 5 (w 3 y A (c 3 [])))) 2 (3 ∷ 0 ∷ 5 ∷ 0 ∷ [])
    -- P11 w0[xA]: refusal 9, place 0.
    ∷ refusal (w 0 x A []) 9 0
    -- P12 w0[xA] w0[xB] w0[yC] w0[yD] c0 r1[xA] r2[yD] w1[yC] c1 w2[xB] c2: cycle 1, 2 with reasons 3, 3.
    ∷ cyclic (w 0 x A (w 0 x B (w 0 y C (w 0 y D (c 0 (r 1 x A (r 2 y D (w 1 y C (c 1 (w 2 x B (c 2 []))))))))))) 2 (1 ∷ 3 ∷ 2 ∷ 3 ∷ [])
    -- P13 w3[zA] c3 r1[zA] w0[zA] w0[xA] w2[xA] w2[yA] w1[yA] c0 c2 c1: cycle 0, 2, 1 with reasons 1, 1, 1.
    ∷ cyclic (w 3 z A (c 3 (r 1 z A (w 0 z A (w 0 x A (w 2 x A (w 2 y A (w 1 y A (c 0 (c 2 (c 1 []))))))))))) 3 (0 ∷ 1 ∷ 2 ∷ 1 ∷ 1 ∷ 1 ∷ [])
    -- P14 c0 c0: refusal 6, place 1.
    ∷ refusal (c 0 (c 0 [])) 6 1
    ∷ []
