-- No second answer meets a public contract of this crate. Assumes nothing.
use Rattle.octets.proofs.Settles.{Unique, Settles, only, only_wrote}
use Rattle.setups.proofs.SetupCall.from_setup.Reads as from-setup
use Rattle.setups.proofs.SetupCall.setup.Reads as setup
use Rattle.setups.proofs.read_setup.Reads as read-setup
use Rattle.setups.proofs.put_setup.Reads as put-setup
use Rattle.setups.proofs.U8FromStartKind.from.Reads as from-start
use Rattle.setups.proofs.StartKindTryFromU8.try_from.Reads as start-from

pub read_setup_unique : Unique read-setup.Post
read_setup_unique κs a z z' e e' p q = only p q

pub put_setup_settled : Settles put-setup.Post (λ κs e. e.0.now)
put_setup_settled κs a z z' e e' p q = only_wrote p q

pub from_setup_unique : Unique from-setup.Post
from_setup_unique κs a z z' e e' p q = only p q

pub setup_unique : Unique setup.Post
setup_unique κs a z z' e e' p q = only p q

pub from_start_unique : Unique from-start.Post
from_start_unique κs a z z' e e' p q = only p q

pub start_from_unique : Unique start-from.Post
start_from_unique κs a z z' e e' p q = only p q
