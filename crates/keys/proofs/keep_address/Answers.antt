-- `keys::keep_address` meets its contract. Assumes nothing.
use Rattle.protocol.proofs.Follows.{moving_silent}
use Rattle.keys.proofs.keep_address.Goals as goal

pub returns : goal.returns
returns c = λ a out. rw (← c.bond_with_address.ensures) (moving_silent c.succeeded.ensures)
