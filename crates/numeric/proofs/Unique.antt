-- No second answer meets a contract of this crate: neither the step nor an octet of the outbox is left open. Assumes nothing.
use Rattle.octets.proofs.Settles.{Settles}
use Rattle.protocol.proofs.Follows.{only_followed}
use Rattle.numeric.proofs.comparison_random.Reads as comparison-random
use Rattle.numeric.proofs.comparison_event.Reads as comparison-event

pub comparison_random_settled : Settles comparison-random.Post (λ κs e. e.1.1.1.1.0.now)
comparison_random_settled κs a z z' e e' p q = only_followed p q

pub comparison_event_settled : Settles comparison-event.Post (λ κs e. e.1.1.1.1.0.now)
comparison_event_settled κs a z z' e e' p q = only_followed p q
