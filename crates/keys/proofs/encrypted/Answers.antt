-- `keys::encrypted` meets its contract. Assumes nothing.
use Rattle.protocol.proofs.Follows.{failing, passes, stops}
use Rattle.keys.proofs.encrypted.Goals as goal

pub returns-then-ok : goal.returns-then-ok
returns-then-ok c = λ a. passes c.if-ok.true (c.distribute.ensures _ a)

pub returns : goal.returns
returns c = λ a. stops c.if-ok.false (failing c.failed.ensures)
