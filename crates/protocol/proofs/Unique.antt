-- No second answer meets a contract of this crate. Assumes nothing.
use Rattle.octets.proofs.Settles.{Unique, only}
use Rattle.protocol.proofs.U8FromFailure.from.Reads as failure-number
use Rattle.protocol.proofs.FailureTryFromU8.try_from.Reads as numbered-failure
use Rattle.protocol.proofs.U8FromRefusal.from.Reads as refusal-number
use Rattle.protocol.proofs.RefusalTryFromU8.try_from.Reads as numbered-refusal

pub failure_number_unique : Unique failure-number.Post
failure_number_unique κs a z z' e e' p q = only p q

pub numbered_failure_unique : Unique numbered-failure.Post
numbered_failure_unique κs a z z' e e' p q = only p q

pub refusal_number_unique : Unique refusal-number.Post
refusal_number_unique κs a z z' e e' p q = only p q

pub numbered_refusal_unique : Unique numbered-refusal.Post
numbered_refusal_unique κs a z z' e e' p q = only p q
