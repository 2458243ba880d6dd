-- No second answer meets a contract of this crate. Assumes nothing.
use Rattle.octets.proofs.Settles.{Unique, only}
use Rattle.method.proofs.U8FromSecurityLevel.from.Reads as from-level
use Rattle.method.proofs.SecurityLevelTryFromU8.try_from.Reads as level-from
use Rattle.method.proofs.PairingMethod.security_level.Reads as security-level
use Rattle.method.proofs.choose_pairing_method.Reads as choose-pairing-method
use Rattle.method.proofs.choose_legacy_pairing_method.Reads as choose-legacy-pairing-method

pub security_level_unique : Unique security-level.Post
security_level_unique κs a z z' e e' p q = only p q

pub choose_pairing_method_unique : Unique choose-pairing-method.Post
choose_pairing_method_unique κs a z z' e e' p q = only p q

pub choose_legacy_pairing_method_unique : Unique choose-legacy-pairing-method.Post
choose_legacy_pairing_method_unique κs a z z' e e' p q = only p q

pub from_level_unique : Unique from-level.Post
from_level_unique κs a z z' e e' p q = only p q

pub level_from_unique : Unique level-from.Post
level_from_unique κs a z z' e e' p q = only p q
