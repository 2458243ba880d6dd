-- `keys::bonded_link` meets its contract. Assumes nothing.
use Rattle.protocol.proofs.Follows.{failing, passes, stops}
use Rattle.keys.proofs.bonded_link.Goals as goal

pub returns-then-linked : goal.returns-then-linked
returns-then-linked c = λ a. passes c.if-linked.true (c.distribute.ensures _ a)

pub returns : goal.returns
returns c = λ a. stops c.if-linked.false (failing c.failed.ensures)
