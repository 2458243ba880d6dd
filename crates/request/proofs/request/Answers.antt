-- `request::request` meets its contract. Assumes nothing.
use borrow.Author.Tests.{eq-eqb, ne_eqb}
use mathlib.Core.Path.{sym, ◌∙◌}
use Rattle.protocol.proofs.Follows.{failing, passes, stops}
use Rattle.request.proofs.request.Goals as goal

pub returns-then-code-ne-PAIRING_REQUEST : goal.returns-then-code-ne-PAIRING_REQUEST
returns-then-code-ne-PAIRING_REQUEST c = λ a. stops (ne_eqb _ _ c.if-code-ne-PAIRING_REQUEST.true) (failing c.failed.ensures)

pub returns-in-Err : goal.returns-in-Err
returns-in-Err c =
    λ a. passes (eq-eqb _ _ c.if-code-ne-PAIRING_REQUEST.false)
    (rw (sym c.accept.ensures ∙ c.in-Err.is, ← c.lost_bond.ensures) (failing c.failed_after.ensures))

pub returns-in-Ok : goal.returns-in-Ok
returns-in-Ok c =
    λ a. passes (eq-eqb _ _ c.if-code-ne-PAIRING_REQUEST.false) (rw (sym c.accept.ensures ∙ c.in-Ok.is) (c.answer.ensures a))
