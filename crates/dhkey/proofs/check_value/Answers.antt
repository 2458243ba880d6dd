-- `dhkey::check_value` meets its contract. Assumes nothing.
use mathlib.Core.Path.{sym, ◌∙◌}
use Rattle.protocol.proofs.Follows.{failing, moving, asking, passes, stops}
use Rattle.dhkey.proofs.check_value.Goals as goal

pub returns-then-equal : goal.returns-then-equal
returns-then-equal c =
    asking (asking (passes (sym c.equal.ensures ∙ c.if-equal.true)
    (asking (rw (← c.new_bond-bond.ensures) (moving (rw c.at.ensures) c.dhkey_check-sent.ensures)))))

pub returns : goal.returns
returns c = asking (asking (stops (sym c.equal.ensures ∙ c.if-equal.false) (failing c.failed.ensures)))
