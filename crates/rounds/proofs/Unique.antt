-- No second answer meets a contract of this crate. Assumes nothing.
use Rattle.octets.proofs.Settles.{Unique, only}
use Rattle.rounds.proofs.z.Reads as z
use Rattle.rounds.proofs.after.Reads as after
use Rattle.rounds.proofs.in_range.Reads as in_range
use Rattle.rounds.proofs.secret.Reads as secret

pub z_unique : Unique z.Post
z_unique κs a z z' e e' p q = only p q

pub after_unique : Unique after.Post
after_unique κs a z z' e e' p q = only p q

pub in_range_unique : Unique in_range.Post
in_range_unique κs a z z' e e' p q = only p q

pub secret_unique : Unique secret.Post
secret_unique κs a z z' e e' p q = only p q
