-- `exchange::send_key` meets its contract. Assumes nothing.
use Rattle.protocol.proofs.Follows.{moving}
use Rattle.exchange.proofs.send_key.Goals as goal

pub returns : goal.returns
returns c = λ a. moving c.goes.ensures c.public_key-sent.ensures
