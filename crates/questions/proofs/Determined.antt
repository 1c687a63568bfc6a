-- The promises of this crate determine what is answered, with every byte of it.
use Rattle.std.proofs.Common.{ℕ, ◌≡◌, List, [], arith, refl, sym, ap}
use Rattle.std.specs.Prelude.{Option, Some, None, option_map}
use Rattle.arrayvec.specs.ArrayString.{ArrayString}
use Rattle.printing.proofs.Determined.{same_text}
use Rattle.questions.specs.Asked.{printed_asked}
use Rattle.questions.specs.Promises.{PrintsSource, PrintsEdge, PrintsAsked}
use Rattle.questions.proofs.Asks.{no_question}

-- THEOREM: any two texts of `source_text` for a log and a number have the same bytes
pub source_text_determined : (log : List ℕ) (k : ℕ) (left right : ArrayString)
    → PrintsSource log k left → PrintsSource log k right → left.bytes ≡ right.bytes
source_text_determined log k left right p q = same_text _ left right p q

-- THEOREM: and so for `edge_text`
pub edge_text_determined : (log : List ℕ) (i j : ℕ) (left right : ArrayString)
    → PrintsEdge log i j left → PrintsEdge log i j right → left.bytes ≡ right.bytes
edge_text_determined log i j left right p q = same_text _ left right p q

-- THEOREM: any two answers of `asked_text`, of any bytes, are both none, or are both texts, which have the same bytes
pub asked_text_determined : (input : List ℕ) (left right : Option ArrayString) → PrintsAsked input left → PrintsAsked input right
    → option_map (λ (text : ArrayString). text.bytes) left ≡ option_map (λ (text : ArrayString). text.bytes) right
asked_text_determined input None None p q = refl
asked_text_determined input None (Some right) p q = absurd (omega (arith, p, q.0))
asked_text_determined input (Some left) None p q = absurd (omega (arith, p.0, q))
asked_text_determined input (Some left) (Some right) p q = ap Some (same_text _ left right p.1 q.1)

-- an answer's bytes; none has no bytes
abbrev pub answer_bytes : Option ArrayString → List ℕ
answer_bytes None = []
answer_bytes (Some text) = text.bytes

-- THEOREM: any answer of `asked_text`, of any bytes, has the bytes that `printed_asked` says, and is none only where these are none
pub asked_text_printed : (input : List ℕ) (answer : Option ArrayString) → PrintsAsked input answer → answer_bytes answer ≡ printed_asked input
asked_text_printed input None p = sym (no_question input p)
asked_text_printed input (Some text) p = p.1.is
