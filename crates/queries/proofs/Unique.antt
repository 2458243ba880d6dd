-- No second answer meets a contract of this crate. Assumes nothing.
use Rattle.octets.proofs.Settles.{Unique, only}
use Rattle.queries.proofs.is_encrypted.Reads as is-encrypted
use Rattle.queries.proofs.security_level.Reads as security-level
use Rattle.queries.proofs.bond_information.Reads as bond-information
use Rattle.queries.proofs.peer_address.Reads as peer-address
use Rattle.queries.proofs.result.Reads as result

pub is_encrypted_unique : Unique is-encrypted.Post
is_encrypted_unique κs a z z' e e' p q = only p q

pub security_level_unique : Unique security-level.Post
security_level_unique κs a z z' e e' p q = only p q

pub bond_information_unique : Unique bond-information.Post
bond_information_unique κs a z z' e e' p q = only p q

pub peer_address_unique : Unique peer-address.Post
peer_address_unique κs a z z' e e' p q = only p q

pub result_unique : Unique result.Post
result_unique κs a z z' e e' p q = only p q
