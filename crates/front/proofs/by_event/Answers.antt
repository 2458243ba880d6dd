-- `front::by_event` meets its contract. Assumes nothing.
use Rattle.protocol.proofs.Follows.{refusing, failing}
use Rattle.front.proofs.Other.{event_other, event_ended}
use Rattle.front.proofs.by_event.Goals as goal

pub returns-in-Success : goal.returns-in-Success
returns-in-Success c = rw (event_ended _ _ _ c.in-Success.is) (refusing c.refused.ensures)

pub returns-in_default : goal.returns-in_default
returns-in_default c =
    rw (event_other _ _ _ c.in_default.not-WaitingPairingRequest c.in_default.not-WaitingNumericComparisonResult c.in_default.not-WaitingPassKeyInput c.in_default.not-WaitingOobData c.in_default.not-WaitingLinkEncrypted c.in_default.not-Success c.in_default.not-Error)
    (failing c.failed.ensures)
