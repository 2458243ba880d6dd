-- No second answer meets a contract of this crate: neither the step nor an octet of the outbox is left open. Assumes nothing.
use Rattle.octets.proofs.Settles.{Settles}
use Rattle.protocol.proofs.Follows.{only_followed}
use Rattle.exchange.proofs.public_key.Reads as public-key

pub public_key_settled : Settles public-key.Post (λ κs e. e.1.1.1.1.0.now)
public_key_settled κs a z z' e e' p q = only_followed p q
