-- `exchange::keyed` meets its contract. Assumes nothing.
use Rattle.protocol.proofs.Follows.{failing, asking, passes, stops}
use Rattle.exchange.proofs.keyed.Goals as goal

pub returns-then-supplied : goal.returns-then-supplied
returns-then-supplied c = λ y. asking (passes c.if-supplied.true (rw (← c.fresh_secrets-secrets.ensures) c.begin.ensures))

pub returns : goal.returns
returns c = λ y. asking (stops c.if-supplied.false (failing c.failed.ensures))
