-- `keys::send_identity` meets its contract. Assumes nothing.
use mathlib.Core.Path.{sym, ◌∙◌}
use Rattle.frames.specs.Packets.{channel}
use Rattle.protocol.proofs.Follows.{nothing}
use Rattle.keys.proofs.send_identity.Goals as goal

pub returns : goal.returns
returns c = rw (← c.own_features-own.ensures, sym c.identity_key.ensures ∙ c.if-identity_key.false) (nothing channel _)
