-- No second answer meets a contract of this crate. Assumes nothing.
use Rattle.octets.proofs.Settles.{Unique, only}
use Rattle.features.proofs.decode.Reads as decode
use Rattle.features.proofs.PairingFeatures.encode.Reads as encode
use Rattle.features.proofs.PairingFeatures.io_cap.Reads as io-cap
use Rattle.features.proofs.PairingFeatures.bonding.Reads as bonding
use Rattle.features.proofs.PairingFeatures.man_in_the_middle.Reads as man-in-the-middle
use Rattle.features.proofs.PairingFeatures.secure_connection.Reads as secure-connection
use Rattle.features.proofs.identity_key.Reads as identity-key
use Rattle.features.proofs.auth_req.Reads as auth-req
use Rattle.features.proofs.U8FromIoCapabilities.from.Reads as from-io
use Rattle.features.proofs.IoCapabilitiesTryFromU8.try_from.Reads as io-from
use Rattle.features.proofs.U8FromUseOutOfBand.from.Reads as from-oob
use Rattle.features.proofs.UseOutOfBandTryFromU8.try_from.Reads as oob-from
use Rattle.features.proofs.io_of.Reads as io-of
use Rattle.features.proofs.oob_of.Reads as oob-of

pub decode_unique : Unique decode.Post
decode_unique κs a z z' e e' p q = only p q

pub encode_unique : Unique encode.Post
encode_unique κs a z z' e e' p q = only p q

pub io_cap_unique : Unique io-cap.Post
io_cap_unique κs a z z' e e' p q = only p q

pub bonding_unique : Unique bonding.Post
bonding_unique κs a z z' e e' p q = only p q

pub man_in_the_middle_unique : Unique man-in-the-middle.Post
man_in_the_middle_unique κs a z z' e e' p q = only p q

pub secure_connection_unique : Unique secure-connection.Post
secure_connection_unique κs a z z' e e' p q = only p q

pub identity_key_unique : Unique identity-key.Post
identity_key_unique κs a z z' e e' p q = only p q

pub auth_req_unique : Unique auth-req.Post
auth_req_unique κs a z z' e e' p q = only p q

pub io_of_unique : Unique io-of.Post
io_of_unique κs a z z' e e' p q = only p q

pub oob_of_unique : Unique oob-of.Post
oob_of_unique κs a z z' e e' p q = only p q

pub from_io_unique : Unique from-io.Post
from_io_unique κs a z z' e e' p q = only p q

pub io_from_unique : Unique io-from.Post
io_from_unique κs a z z' e e' p q = only p q

pub from_oob_unique : Unique from-oob.Post
from_oob_unique κs a z z' e e' p q = only p q

pub oob_from_unique : Unique oob-from.Post
oob_from_unique κs a z z' e e' p q = only p q
