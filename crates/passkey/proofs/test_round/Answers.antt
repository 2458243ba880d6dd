-- `passkey::test_round` meets its contract: the nonce's frame is written after the comparison. Assumes nothing.
use mathlib.Core.Path.{sym, ◌∙◌}
use Rattle.protocol.proofs.Follows.{failing, moving, asking, passes, stops}
use Rattle.passkey.proofs.test_round.Goals as goal

pub returns-then-confirmed : goal.returns-then-confirmed
returns-then-confirmed c =
    asking (passes (sym c.confirmed.ensures ∙ c.if-confirmed.true)
    (rw (← c.following_phase.ensures) (moving c.goes.ensures c.random-sent.ensures)))

pub returns : goal.returns
returns c = asking (stops (sym c.confirmed.ensures ∙ c.if-confirmed.false) (failing c.failed.ensures))
