-- `dhkey::check` meets its contract. Assumes nothing.
use mathlib.Core.Path.{sym, ◌∙◌}
use borrow.Author.Tests.{eqb-true, eq-eqb, ne_eqb}
use Rattle.octets.proofs.Octets.{turned_whole}
use Rattle.protocol.proofs.Follows.{failing, asking, passes, stops}
use Rattle.dhkey.proofs.check.Goals as goal

pub returns-then-code-ne-DHKEY_CHECK : goal.returns-then-code-ne-DHKEY_CHECK
returns-then-code-ne-DHKEY_CHECK c = stops (ne_eqb _ _ c.if-code-ne-DHKEY_CHECK.true) (failing c.failed.ensures)

pub returns-then-is_value : goal.returns-then-is_value
returns-then-is_value c =
    let whole = sym c.is_value.ensures ∙ c.if-is_value.true in
    passes (eq-eqb _ _ c.if-code-ne-DHKEY_CHECK.false) (rw (whole, ← (c.reversed.ensures ∙ turned_whole 16 _ (eqb-true _ 16 whole))) c.check_value.ensures)

pub returns : goal.returns
returns c = passes (eq-eqb _ _ c.if-code-ne-DHKEY_CHECK.false) (asking (asking (stops (rw (sym c.is_value.ensures ∙ c.if-is_value.false)) (failing c.failed-2.ensures))))
