-- No second answer meets a contract of this crate. Assumes nothing.
use Rattle.octets.proofs.Settles.{Unique}
use Rattle.protocol.proofs.Unhanded.{only_quiet_unhanded}
use Rattle.holding.proofs.confirm.Reads as confirm
use Rattle.holding.proofs.check.Reads as check

pub confirm_unique : Unique confirm.Post
confirm_unique κs a z z' e e' p q = only_quiet_unhanded p q

pub check_unique : Unique check.Post
check_unique κs a z z' e e' p q = only_quiet_unhanded p q
