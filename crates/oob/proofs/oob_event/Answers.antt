-- `oob::oob_event` meets its contract. Assumes nothing.
use Rattle.protocol.proofs.Follows.{failing}
use Rattle.oob.proofs.Other.{oob_other}
use Rattle.oob.proofs.oob_event.Goals as goal

pub returns-in_default : goal.returns-in_default
returns-in_default c = rw (oob_other _ _ c.in_default.not-OobDataReceived) (λ out. failing c.failed.ensures)
