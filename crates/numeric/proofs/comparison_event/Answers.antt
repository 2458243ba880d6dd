-- `numeric::comparison_event` meets its contract. Assumes nothing.
use Rattle.protocol.proofs.Follows.{failing}
use Rattle.numeric.proofs.Other.{comparison_other}
use Rattle.numeric.proofs.comparison_event.Goals as goal

pub returns-in-PassKeyCancel : goal.returns-in-PassKeyCancel
returns-in-PassKeyCancel c = rw c.in-PassKeyCancel.is (failing c.failed.ensures)

pub returns-in_default : goal.returns-in_default
returns-in_default c = rw (comparison_other _ _ _ c.in_default.not-PassKeyConfirm c.in_default.not-PassKeyCancel) (failing c.failed-in_default.ensures)
