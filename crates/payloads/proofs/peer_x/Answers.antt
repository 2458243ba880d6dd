-- `payloads::peer_x` meets its contract. Assumes nothing.
use native.Mathlib.Omega.{arith}
use lib.Seq.{take_all}
use Rattle.payloads.proofs.peer_x.Goals as goal

pub returns-then-payload-lt32 : goal.returns-then-payload-lt32
returns-then-payload-lt32 c = rw (take_all 32 c.args.payload.now (omega arith)) c.reversed.ensures
