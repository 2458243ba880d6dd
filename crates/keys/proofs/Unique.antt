-- No second answer meets a contract of this crate: neither the step nor an octet of the outbox is left open. Assumes nothing.
use Rattle.octets.proofs.Settles.{Unique, Settles}
use Rattle.protocol.proofs.Unhanded.{only_unhanded, only_quiet_unhanded}
use Rattle.keys.proofs.bonded_link_event.Reads as bonded-link-event
use Rattle.keys.proofs.encrypted_event.Reads as encrypted-event
use Rattle.keys.proofs.identity_information.Reads as identity-information
use Rattle.keys.proofs.identity_address.Reads as identity-address

pub bonded_link_event_settled : Settles bonded-link-event.Post (λ κs e. e.1.1.0.now)
bonded_link_event_settled κs a z z' e e' p q = only_unhanded p q

pub encrypted_event_settled : Settles encrypted-event.Post (λ κs e. e.1.1.0.now)
encrypted_event_settled κs a z z' e e' p q = only_unhanded p q

pub identity_information_unique : Unique identity-information.Post
identity_information_unique κs a z z' e e' p q = only_quiet_unhanded p q

pub identity_address_unique : Unique identity-address.Post
identity_address_unique κs a z z' e e' p q = only_quiet_unhanded p q
