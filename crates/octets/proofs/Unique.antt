-- No second answer meets a contract of this crate. Assumes nothing.
use Rattle.octets.proofs.Settles.{Unique, Settles, only, only_wrote}
use Rattle.std.proofs.Common.{ℕ, Fits, w64}
use Rattle.octets.proofs.put.Reads as put
use Rattle.octets.proofs.put_reversed.Reads as put-reversed
use Rattle.octets.proofs.reversed.Reads as reversed
use Rattle.octets.proofs.equal.Reads as equal
use Rattle.octets.proofs.all_zero16.Reads as all-zero16

pub put_settled : Settles put.Post (λ κs e. e.0.now)
put_settled κs a z z' e e' p q = only_wrote p q

pub put_reversed_settled : Settles put-reversed.Post (λ κs e. e.0.now)
put_reversed_settled κs a z z' e e' p q = only_wrote p q

pub reversed_unique : (n : ℕ) (fits : Fits w64 n) → Unique (reversed.Post n fits)
reversed_unique n fits κs a z z' e e' p q = only p q

pub equal_unique : Unique equal.Post
equal_unique κs a z z' e e' p q = only p q

pub all_zero16_unique : Unique all-zero16.Post
all_zero16_unique κs a z z' e e' p q = only p q
