-- `refusals::form::form_answer` meets its contract: in each arm the law for its kinds says which ranges are asked, and the arms'
-- own tests answer them.
use Rattle.std.proofs.Common.{arith, eq-eqb, le-ltb, lt-ltb, ne_eqb}
use Rattle.rules.proofs.Forms.{access_form, commit_form, no_form}
use Rattle.refusals.proofs.form.form_answer.Goals as goal

-- a commit
pub returns-in-0-eq0 : goal.returns-in-0-eq0
returns-in-0-eq0 c =
    let r = c.args.bytes in
    rw (commit_form c.args.k r.kind r.transaction r.item r.site c.in-3.is)
    (simp (eq-eqb _ _ c.in-0-eq0.is-0, eq-eqb _ _ c.in-0-eq0.is-1) c.transaction_form.ensures)

pub returns-in_default-2 : goal.returns-in_default-2
returns-in_default-2 c =
    let r = c.args.bytes in
    rw (commit_form c.args.k r.kind r.transaction r.item r.site c.in-3.is)
    (simp (eq-eqb _ _ c.in_default-2.is-0, ne_eqb r.site 0 (λ q. omega arith)))

pub returns-in_default-2-2 : goal.returns-in_default-2-2
returns-in_default-2-2 c =
    let r = c.args.bytes in
    rw (commit_form c.args.k r.kind r.transaction r.item r.site c.in-3.is) (simp (ne_eqb r.item 0 (λ q. omega arith)))

-- a read or a write
pub returns-in-0-to-63-0-to-15 : goal.returns-in-0-to-63-0-to-15
returns-in-0-to-63-0-to-15 c =
    let r = c.args.bytes in
    rw (access_form c.args.k r.kind r.transaction r.item r.site (omega arith) (omega arith))
    (simp (lt-ltb r.item 64 (omega arith), lt-ltb r.site 16 (omega arith)) c.transaction_form-in-0-to-63-0-to-15.ensures)

pub returns-in_default-3 : goal.returns-in_default-3
returns-in_default-3 c =
    let r = c.args.bytes in
    rw (access_form c.args.k r.kind r.transaction r.item r.site (omega arith) (omega arith))
    (simp (lt-ltb r.item 64 (omega arith), le-ltb r.site 16 (omega arith)))

pub returns-in_default-3-2 : goal.returns-in_default-3-2
returns-in_default-3-2 c =
    let r = c.args.bytes in
    rw (access_form c.args.k r.kind r.transaction r.item r.site (omega arith) (omega arith)) (simp (le-ltb r.item 64 (omega arith)))

-- neither
pub returns-in_default : goal.returns-in_default
returns-in_default c =
    let r = c.args.bytes in
    rw (no_form c.args.k r.kind r.transaction r.item r.site (λ e. omega arith) (λ e. omega arith) (λ e. omega arith))

pub returns-in_default-4 : goal.returns-in_default-4
returns-in_default-4 c =
    let r = c.args.bytes in
    rw (no_form c.args.k r.kind r.transaction r.item r.site (λ e. omega arith) (λ e. omega arith) (λ e. omega arith))
