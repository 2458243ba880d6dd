-- `passkey::confirm_round` meets its contract. Assumes nothing.
use Rattle.protocol.proofs.Follows.{moving, asking, drawing}
use Rattle.passkey.proofs.confirm_round.Goals as goal

pub returns : goal.returns
returns c = drawing (asking (moving c.goes.ensures c.confirm-sent.ensures))
