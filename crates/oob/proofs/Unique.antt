-- No second answer meets a contract of this crate: neither the step nor an octet of the outbox is left open. Assumes nothing.
use Rattle.octets.proofs.Settles.{Unique, Settles, only}
use Rattle.protocol.proofs.Follows.{only_followed}
use Rattle.protocol.proofs.Unhanded.{only_quiet}
use Rattle.oob.proofs.oob_event.Reads as oob-event
use Rattle.oob.proofs.oob_random.Reads as oob-random
use Rattle.oob.proofs.absent.Reads as absent

pub oob_event_unique : Unique oob-event.Post
oob_event_unique κs a z z' e e' p q = only_quiet p q

pub oob_random_settled : Settles oob-random.Post (λ κs e. e.1.1.1.1.0.now)
oob_random_settled κs a z z' e e' p q = only_followed p q

pub absent_unique : Unique absent.Post
absent_unique κs a z z' e e' p q = only p q
