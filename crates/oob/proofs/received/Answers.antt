-- `oob::received` meets its contract. Assumes nothing.
use Rattle.protocol.proofs.Follows.{moving_silent}
use Rattle.oob.proofs.received.Goals as goal

pub returns : goal.returns
returns c = λ a out. rw (← c.own_secret-own.ensures) (moving_silent c.goes.ensures)
