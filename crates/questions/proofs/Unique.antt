-- No second answer meets a contract of this crate. Assumes nothing.
use Rattle.octets.proofs.Settles.{Unique, only}
use Rattle.questions.proofs.of_command.Reads as of-command
use Rattle.questions.proofs.of_event.Reads as of-event

pub of_command_unique : Unique of-command.Post
of_command_unique κs a z z' e e' p q = only p q

pub of_event_unique : Unique of-event.Post
of_event_unique κs a z z' e e' p q = only p q
