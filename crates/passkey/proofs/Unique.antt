-- No second answer meets a contract of this crate: neither the step nor an octet of the outbox is left open. Assumes nothing.
use Rattle.octets.proofs.Settles.{Settles}
use Rattle.protocol.proofs.Follows.{only_followed}
use Rattle.passkey.proofs.typing_event.Reads as typing-event
use Rattle.passkey.proofs.confirm.Reads as confirm
use Rattle.passkey.proofs.random.Reads as random

pub typing_event_settled : Settles typing-event.Post (λ κs e. e.1.1.1.1.0.now)
typing_event_settled κs a z z' e e' p q = only_followed p q

pub confirm_settled : Settles confirm.Post (λ κs e. e.1.1.1.1.1.0.now)
confirm_settled κs a z z' e e' p q = only_followed p q

pub random_settled : Settles random.Post (λ κs e. e.1.1.1.1.1.0.now)
random_settled κs a z z' e e' p q = only_followed p q
