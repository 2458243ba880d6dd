-- No second answer meets a contract of this crate: neither the step nor an octet of the outbox is left open. Assumes nothing.
use Rattle.octets.proofs.Settles.{Settles}
use Rattle.protocol.proofs.Follows.{only_followed}
use Rattle.dhkey.proofs.check.Reads as check
use Rattle.dhkey.proofs.check_value.Reads as check-value

pub check_settled : Settles check.Post (λ κs e. e.1.1.1.1.0.now)
check_settled κs a z z' e e' p q = only_followed p q

pub check_value_settled : Settles check-value.Post (λ κs e. e.1.1.1.0.now)
check_value_settled κs a z z' e e' p q = only_followed p q
