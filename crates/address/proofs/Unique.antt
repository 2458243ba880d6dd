-- No second answer meets a contract of this crate. Assumes nothing.
use Rattle.octets.proofs.Settles.{Unique, only}
use Rattle.address.proofs.decode.Reads as decode
use Rattle.address.proofs.U8FromAddressKind.from.Reads as from-kind
use Rattle.address.proofs.AddressKindTryFromU8.try_from.Reads as kind-from

pub decode_unique : Unique decode.Post
decode_unique κs a z z' e e' p q = only p q

pub from_kind_unique : Unique from-kind.Post
from_kind_unique κs a z z' e e' p q = only p q

pub kind_from_unique : Unique kind-from.Post
kind_from_unique κs a z z' e e' p q = only p q
