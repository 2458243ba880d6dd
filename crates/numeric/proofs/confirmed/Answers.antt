-- `numeric::confirmed` meets its contract. Assumes nothing.
use Rattle.protocol.proofs.Follows.{moving_silent}
use Rattle.numeric.proofs.confirmed.Goals as goal

pub returns-in-None : goal.returns-in-None
returns-in-None c = rw c.in-None.is (moving_silent c.goes.ensures)
