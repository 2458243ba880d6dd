-- `passkey::typed` meets its contract. Assumes nothing.
use Rattle.protocol.proofs.Follows.{moving_silent}
use Rattle.passkey.proofs.typed.Goals as goal

pub returns-in-Some : goal.returns-in-Some
returns-in-Some c = rw c.in-Some.is (rw c.with_passkey-keyed.ensures at c.confirm_round.ensures)

pub returns-in-None : goal.returns-in-None
returns-in-None c = rw (c.in-None.is, ← c.with_passkey-keyed.ensures) (moving_silent c.goes.ensures)
