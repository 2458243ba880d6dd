-- No second answer meets a contract of this crate. Assumes nothing.
use Rattle.octets.proofs.Settles.{Unique, Settles, only}
use Rattle.responder.proofs.Handed.{only_met}
use Rattle.responder.proofs.Responder.command.Reads as command
use Rattle.responder.proofs.Responder.event.Reads as event
use Rattle.responder.proofs.Responder.command_question.Reads as command-question
use Rattle.responder.proofs.Responder.event_question.Reads as event-question
use Rattle.responder.proofs.Responder.mark_timeout.Reads as mark-timeout

pub command_settled : Settles command.Post (λ κs e. e.1.1.1.0.now)
command_settled κs a z z' e e' p q = only_met p q

pub event_settled : Settles event.Post (λ κs e. e.1.1.1.0.now)
event_settled κs a z z' e e' p q = only_met p q

pub command_question_unique : Unique command-question.Post
command_question_unique κs a z z' e e' p q = only p q

pub event_question_unique : Unique event-question.Post
event_question_unique κs a z z' e e' p q = only p q

pub mark_timeout_unique : Unique mark-timeout.Post
mark_timeout_unique κs a z z' e e' p q = only p q
