-- `keys::identity_address` meets its contract. Assumes nothing.
use mathlib.Core.Path.{refl, sym, ◌∙◌}
use borrow.Author.Tests.{eq-eqb, ne_eqb}
use Rattle.protocol.proofs.Follows.{failing, passes, stops}
use Rattle.keys.proofs.identity_address.Goals as goal

pub returns-then-code-ne-IDENTITY_ADDRESS : goal.returns-then-code-ne-IDENTITY_ADDRESS
returns-then-code-ne-IDENTITY_ADDRESS c = λ a out. stops (ne_eqb _ _ c.if-code-ne-IDENTITY_ADDRESS.true) (failing c.failed.ensures)

pub returns-in-Some : goal.returns-in-Some
returns-in-Some c =
    λ a out. passes (eq-eqb _ _ c.if-code-ne-IDENTITY_ADDRESS.false) (rw (sym c.decode.ensures ∙ c.in-Some.is) (passes refl (c.keep_address.ensures a out)))

pub returns-in-None : goal.returns-in-None
returns-in-None c =
    λ a out. passes (eq-eqb _ _ c.if-code-ne-IDENTITY_ADDRESS.false) (rw (sym c.decode.ensures ∙ c.in-None.is) (stops refl (failing c.failed-in-None.ensures)))
