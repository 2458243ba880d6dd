-- `oob::receive` meets its contract. Assumes nothing.
use mathlib.Core.Path.{sym, ◌∙◌}
use Rattle.protocol.proofs.Follows.{failing, asking, passes, stops}
use Rattle.oob.proofs.receive.Goals as goal
use Rattle.oob.proofs.receive.Goals.{then-absent-via-then-absent, then-absent-via-else-absent+then-equal}

pub returns-then-absent : goal.returns-then-absent
returns-then-absent c =
    λ out. elim c.then-absent.branch [
      | then-absent-via-then-absent w ↦ passes (sym c.absent.ensures ∙ w.if-absent.true) (c.received.ensures _ out)
      | then-absent-via-else-absent+then-equal w ↦
          stops (sym c.absent.ensures ∙ w.if-absent.false) (asking (passes (sym w.equal.ensures ∙ w.if-equal.true) (c.received.ensures _ out)))
    ]

pub returns : goal.returns
returns c =
    λ out. stops (sym c.absent.ensures ∙ c.if-absent.false)
    (asking (stops (sym c.equal.ensures ∙ c.if-equal.false) (failing c.failed.ensures)))
