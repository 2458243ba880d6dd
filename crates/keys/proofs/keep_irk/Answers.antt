-- `keys::keep_irk` meets its contract. Assumes nothing.
use Rattle.protocol.proofs.Follows.{moving_silent}
use Rattle.keys.proofs.keep_irk.Goals as goal

pub returns : goal.returns
returns c = λ a out. rw (← c.bond_with_irk.ensures) (moving_silent c.goes.ensures)
