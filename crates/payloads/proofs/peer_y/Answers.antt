-- `payloads::peer_y` meets its contract. Assumes nothing.
use mathlib.Core.Path.{ap, ◌∙◌}
use Prim.Native.Nat.{◌-◌}
use native.Mathlib.Omega.{arith}
use lib.ListN.{length, drop, length-drop, drop_of_length-le}
use lib.Seq.{take_all}
use Rattle.octets.specs.Octets.{zeros, turned}
use Rattle.payloads.proofs.peer_y.Goals as goal

pub returns-then-payload-lt32 : goal.returns-then-payload-lt32
unfolding zeros turned
returns-then-payload-lt32 c = rw (drop_of_length-le c.args.payload.now {i = 32} (omega arith))

pub returns : goal.returns
returns c =
    let l = c.args.payload.now in
    c.reversed.ensures ∙ ap (turned 32) (take_all (length l - 32) (drop 32 l) (omega (arith, length-drop 32 l)))
