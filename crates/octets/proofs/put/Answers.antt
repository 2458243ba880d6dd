-- `octets::put` meets its contract. Assumes nothing.
use mathlib.Core.Path.{refl}
use lib.Seq.{take-length}
use Rattle.octets.proofs.Write.{too_short, copied}
use Rattle.octets.proofs.put.Goals as goal

pub returns-then-dst-src : goal.returns-then-dst-src
returns-then-dst-src c = too_short _ _ _ refl c.if-dst-src.true

pub returns : goal.returns
returns c = copied _ _ _ _ refl (rw (c.copy_from_slice.ensures.after, take-length c.args.src.now)) c.if-dst-src.false
