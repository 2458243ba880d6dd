-- `passkey::typing_event` meets its contract. Assumes nothing.
use Rattle.protocol.proofs.Follows.{failing}
use Rattle.passkey.proofs.Other.{typing_other}
use Rattle.passkey.proofs.typing_event.Goals as goal

pub returns-in-PassKeyCancel : goal.returns-in-PassKeyCancel
returns-in-PassKeyCancel c = rw c.in-PassKeyCancel.is (failing c.failed.ensures)

pub returns-in_default : goal.returns-in_default
returns-in_default c = rw (typing_other _ _ _ c.in_default.not-PassKeyCancel c.in_default.not-PassKeyInput) (failing c.failed-in_default.ensures)
