-- `numeric::compare` meets its contract. Assumes nothing.
use mathlib.Core.Path.{ap}
use Rattle.machine.specs.Numeric.{compares}
use Rattle.protocol.proofs.Follows.{moving, asking}
use Rattle.numeric.proofs.Other.{compares_other}
use Rattle.numeric.proofs.compare.Goals as goal

pub returns-in-JustWorks : goal.returns-in-JustWorks
returns-in-JustWorks c = rw (ap (λ x. compares x c.args.state c.args.nonce) c.in-JustWorks.is) (moving c.goes.ensures c.random-sent.ensures)

pub returns-in_default : goal.returns-in_default
returns-in_default c = rw (compares_other _ _ _ c.in_default.not-JustWorks) (asking (moving c.goes-in_default.ensures c.random-sent.ensures))
