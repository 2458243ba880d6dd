-- No second answer meets a contract of this crate: the count and every octet of the outbox are settled. Assumes nothing.
use Rattle.octets.proofs.Settles.{Settles, only_wrote}
use Rattle.frames.proofs.pairing_response.Reads as pairing-response
use Rattle.frames.proofs.confirm.Reads as confirm
use Rattle.frames.proofs.random.Reads as random
use Rattle.frames.proofs.identity_information.Reads as identity-information
use Rattle.frames.proofs.identity_address.Reads as identity-address
use Rattle.frames.proofs.identity.Reads as identity
use Rattle.frames.proofs.security_request.Reads as security-request
use Rattle.frames.proofs.public_key.Reads as public-key
use Rattle.frames.proofs.public_key_confirm.Reads as public-key-confirm
use Rattle.frames.proofs.dhkey_check.Reads as dhkey-check

pub pairing_response_settled : Settles pairing-response.Post (λ κs e. e.0.now)
pairing_response_settled κs a z z' e e' p q = only_wrote p q

pub confirm_settled : Settles confirm.Post (λ κs e. e.0.now)
confirm_settled κs a z z' e e' p q = only_wrote p q

pub random_settled : Settles random.Post (λ κs e. e.0.now)
random_settled κs a z z' e e' p q = only_wrote p q

pub identity_information_settled : Settles identity-information.Post (λ κs e. e.0.now)
identity_information_settled κs a z z' e e' p q = only_wrote p q

pub identity_address_settled : Settles identity-address.Post (λ κs e. e.0.now)
identity_address_settled κs a z z' e e' p q = only_wrote p q

pub identity_settled : Settles identity.Post (λ κs e. e.0.now)
identity_settled κs a z z' e e' p q = only_wrote p q

pub security_request_settled : Settles security-request.Post (λ κs e. e.0.now)
security_request_settled κs a z z' e e' p q = only_wrote p q

pub public_key_settled : Settles public-key.Post (λ κs e. e.0.now)
public_key_settled κs a z z' e e' p q = only_wrote p q

pub public_key_confirm_settled : Settles public-key-confirm.Post (λ κs e. e.0.now)
public_key_confirm_settled κs a z z' e e' p q = only_wrote p q

pub dhkey_check_settled : Settles dhkey-check.Post (λ κs e. e.0.now)
dhkey_check_settled κs a z z' e e' p q = only_wrote p q
