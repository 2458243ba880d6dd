-- No second answer meets a contract of this crate: neither the step nor an octet of the outbox is left open. Assumes nothing.
use Rattle.octets.proofs.Settles.{Settles}
use Rattle.protocol.proofs.Follows.{only_followed}
use Rattle.front.proofs.on_command.Reads as on_command_lem
use Rattle.front.proofs.on_event.Reads as on_event_lem

pub on_command_settled : Settles on_command_lem.Post (λ κs e. e.1.1.1.0.now)
on_command_settled κs a z z' e e' p q = only_followed p q

pub on_event_settled : Settles on_event_lem.Post (λ κs e. e.1.1.1.0.now)
on_event_settled κs a z z' e e' p q = only_followed p q
