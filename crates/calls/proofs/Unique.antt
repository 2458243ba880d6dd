-- No second answer meets a public contract of this crate. Assumes nothing.
use Rattle.octets.proofs.Settles.{Unique, Settles, only, only_wrote}
use Rattle.calls.proofs.read_header.Reads as read-header
use Rattle.calls.proofs.put_header.Reads as put-header
use Rattle.calls.proofs.read_answer.Reads as read_answer
use Rattle.calls.proofs.put_answer.Reads as put-answer
use Rattle.calls.proofs.U8FromKind.from.Reads as from-kind
use Rattle.calls.proofs.KindTryFromUsize.try_from.Reads as kind-from

pub read_header_unique : Unique read-header.Post
read_header_unique κs a z z' e e' p q = only p q

pub put_header_settled : Settles put-header.Post (λ κs e. e.0.now)
put_header_settled κs a z z' e e' p q = only_wrote p q

pub read_answer_unique : Unique read_answer.Post
read_answer_unique κs a z z' e e' p q = only p q

pub put_answer_settled : Settles put-answer.Post (λ κs e. e.0.now)
put_answer_settled κs a z z' e e' p q = only_wrote p q

pub from_kind_unique : Unique from-kind.Post
from_kind_unique κs a z z' e e' p q = only p q

pub kind_from_unique : Unique kind-from.Post
kind_from_unique κs a z z' e e' p q = only p q
