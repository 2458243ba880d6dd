-- No second answer meets a contract of this crate: neither the step nor an octet of the outbox is left open. Assumes nothing.
use Rattle.octets.proofs.Settles.{Unique, Settles, only}
use Rattle.protocol.proofs.Unhanded.{only_unhanded}
use Rattle.request.proofs.accept.Reads as accept
use Rattle.request.proofs.own_features.Reads as own-features
use Rattle.request.proofs.interactive_io.Reads as interactive-io
use Rattle.request.proofs.request.Reads as request

pub accept_unique : Unique accept.Post
accept_unique κs a z z' e e' p q = only p q

pub own_features_unique : Unique own-features.Post
own_features_unique κs a z z' e e' p q = only p q

pub interactive_io_unique : Unique interactive-io.Post
interactive_io_unique κs a z z' e e' p q = only p q

pub request_settled : Settles request.Post (λ κs e. e.1.1.1.0.now)
request_settled κs a z z' e e' p q = only_unhanded p q
