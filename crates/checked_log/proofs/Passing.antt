-- The rows of a record in two parts: 4 and 5 come first, and then 6 to 8.
use Rattle.std.proofs.Common.{ℕ, ◌≡◌, sym, ◌∙◌, List}
use Rattle.rules.specs.Answer.{passed, refused}
use Rattle.rules.specs.Form.{form_rows}
use Rattle.rules.specs.LogHistory.{history_of}
use Rattle.rules.specs.Record.{kind, transaction, item, site}
use Rattle.rules.specs.Refusals.{history_rows, record_rows}
use Rattle.rules.specs.Rows.{answer_of}
use Rattle.rules.proofs.Rows.{append_passed, append_refused}

-- 4 and 5 by the record's numbers, as they were read
module _ (log : List ℕ) (k b t x s : ℕ) (kinds : b ≡ kind log k) (own : t ≡ transaction log k) (of : x ≡ item log k) (at : s ≡ site log k) where
  same_form : answer_of (form_rows k b t x s) ≡ answer_of (form_rows k (kind log k) (transaction log k) (item log k) (site log k))
  same_form = (λ i. answer_of (form_rows k (kinds i) (own i) (of i) (at i)))

  pub form_refuses : (n p : ℕ) → refused n p ≡ answer_of (form_rows k b t x s) → refused n p ≡ answer_of (record_rows log k)
  form_refuses n p h = sym (append_refused (form_rows k (kind log k) (transaction log k) (item log k) (site log k)) (history_rows (history_of log) k) n p (sym (h ∙ same_form)))

  pub form_passes : passed ≡ answer_of (form_rows k b t x s) → answer_of (history_rows (history_of log) k) ≡ answer_of (record_rows log k)
  form_passes h = sym (append_passed (form_rows k (kind log k) (transaction log k) (item log k) (site log k)) (history_rows (history_of log) k) (sym (h ∙ same_form)))
