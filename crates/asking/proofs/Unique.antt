-- No second answer meets a contract of this crate. Assumes nothing.
use Rattle.octets.proofs.Settles.{Unique, only}
use Rattle.asking.proofs.kind.Reads as kind
use Rattle.asking.proofs.unless.Reads as unless

pub unless_unique : Unique unless.Post
unless_unique κs a z z' e e' p q = only p q

pub kind_unique : Unique kind.Post
kind_unique κs a z z' e e' p q = only p q
