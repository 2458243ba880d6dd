-- `keys::distribute` meets its contract. Assumes nothing.
use mathlib.Core.Path.{sym, ◌∙◌}
use Rattle.protocol.proofs.Follows.{moving, passes, stops}
use Rattle.keys.proofs.distribute.Goals as goal

pub returns-then-identity_key : goal.returns-then-identity_key
returns-then-identity_key c =
    λ m a. passes (sym c.identity_key.ensures ∙ c.if-identity_key.true) (moving c.goes.ensures c.send_identity-sent.ensures)

pub returns : goal.returns
returns c =
    λ m a. stops (sym c.identity_key.ensures ∙ c.if-identity_key.false) (moving c.succeeded.ensures c.send_identity-sent.ensures)
