-- No second answer meets a public contract of this crate. Assumes nothing.
use Rattle.octets.proofs.Settles.{Unique, Settles, only, only_wrote}
use Rattle.inputs.proofs.EventCall.from_event.Reads as from-event
use Rattle.inputs.proofs.EventCall.event.Reads as event
use Rattle.inputs.proofs.read_command.Reads as read-command
use Rattle.inputs.proofs.put_command.Reads as put-command
use Rattle.inputs.proofs.read_event.Reads as read-event
use Rattle.inputs.proofs.put_event.Reads as put-event

pub read_command_unique : Unique read-command.Post
read_command_unique κs a z z' e e' p q = only p q

pub put_command_settled : Settles put-command.Post (λ κs e. e.0.now)
put_command_settled κs a z z' e e' p q = only_wrote p q

pub read_event_unique : Unique read-event.Post
read_event_unique κs a z z' e e' p q = only p q

pub put_event_settled : Settles put-event.Post (λ κs e. e.0.now)
put_event_settled κs a z z' e e' p q = only_wrote p q

pub from_event_unique : Unique from-event.Post
from_event_unique κs a z z' e e' p q = only p q

pub event_unique : Unique event.Post
event_unique κs a z z' e e' p q = only p q
