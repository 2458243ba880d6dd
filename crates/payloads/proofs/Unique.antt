-- No second answer meets a contract of this crate. Assumes nothing.
use Rattle.octets.proofs.Settles.{Unique, only}
use Rattle.payloads.proofs.is_value.Reads as is-value
use Rattle.payloads.proofs.value.Reads as value
use Rattle.payloads.proofs.confirm.Reads as confirm
use Rattle.payloads.proofs.random.Reads as random
use Rattle.payloads.proofs.public_key.Reads as public-key
use Rattle.payloads.proofs.peer_x.Reads as peer-x
use Rattle.payloads.proofs.peer_y.Reads as peer-y

pub is_value_unique : Unique is-value.Post
is_value_unique κs a z z' e e' p q = only p q

pub value_unique : Unique value.Post
value_unique κs a z z' e e' p q = only p q

pub confirm_unique : Unique confirm.Post
confirm_unique κs a z z' e e' p q = only p q

pub random_unique : Unique random.Post
random_unique κs a z z' e e' p q = only p q

pub public_key_unique : Unique public-key.Post
public_key_unique κs a z z' e e' p q = only p q

pub peer_x_unique : Unique peer-x.Post
peer_x_unique κs a z z' e e' p q = only p q

pub peer_y_unique : Unique peer-y.Post
peer_y_unique κs a z z' e e' p q = only p q
