-- No second answer meets a contract of this crate. Assumes nothing.
use mathlib.Core.Path.{sym, ◌∙◌}
use Rattle.octets.proofs.Settles.{Unique, Settles, only}
use Rattle.wrapper.proofs.new_peripheral.Reads as new-peripheral
use Rattle.wrapper.proofs.initiate_peripheral.Reads as initiate-peripheral

pub initiate_peripheral_settled : Settles initiate-peripheral.Post (λ κs e. e.1.1.0.now)
initiate_peripheral_settled κs a z z' e e' p q = (p.begun ∙ sym q.begun, p.out ∙ sym q.out)

pub new_peripheral_unique : Unique new-peripheral.Post
new_peripheral_unique κs a z z' e e' p q = only p q
