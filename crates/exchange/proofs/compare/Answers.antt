-- `exchange::compare` meets its contract. Assumes nothing.
use Rattle.protocol.proofs.Follows.{moving, asking, drawing}
use Rattle.exchange.proofs.compare.Goals as goal

pub returns : goal.returns
returns c = drawing (asking (moving c.goes.ensures c.public_key_confirm-sent.ensures))
