-- No second answer meets a contract of this crate. Assumes nothing.
use Rattle.octets.proofs.Settles.{Unique, only}
use Rattle.states.proofs.at.Reads as at
use Rattle.states.proofs.finished.Reads as finished
use Rattle.states.proofs.fresh_secrets.Reads as fresh-secrets
use Rattle.states.proofs.with_passkey.Reads as with-passkey
use Rattle.states.proofs.in_range.Reads as in_range
use Rattle.states.proofs.refused.Reads as refused
use Rattle.states.proofs.failed.Reads as failed
use Rattle.states.proofs.failed_after.Reads as failed-after
use Rattle.states.proofs.goes.Reads as goes
use Rattle.states.proofs.succeeded.Reads as succeeded
use Rattle.states.proofs.joined.Reads as joined

pub at_unique : Unique at.Post
at_unique κs a z z' e e' p q = only p q

pub joined_unique : Unique joined.Post
joined_unique κs a z z' e e' p q = only p q

pub finished_unique : Unique finished.Post
finished_unique κs a z z' e e' p q = only p q

pub fresh_secrets_unique : Unique fresh-secrets.Post
fresh_secrets_unique κs a z z' e e' p q = only p q

pub with_passkey_unique : Unique with-passkey.Post
with_passkey_unique κs a z z' e e' p q = only p q

pub in_range_unique : Unique in_range.Post
in_range_unique κs a z z' e e' p q = only p q

pub refused_unique : Unique refused.Post
refused_unique κs a z z' e e' p q = only p q

pub failed_unique : Unique failed.Post
failed_unique κs a z z' e e' p q = only p q

pub failed_after_unique : Unique failed-after.Post
failed_after_unique κs a z z' e e' p q = only p q

pub goes_unique : Unique goes.Post
goes_unique κs a z z' e e' p q = only p q

pub succeeded_unique : Unique succeeded.Post
succeeded_unique κs a z z' e e' p q = only p q
