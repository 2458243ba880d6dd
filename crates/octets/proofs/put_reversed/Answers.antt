-- `octets::put_reversed` meets its contract: after i turns the last i octets of src stand, last first, at the start of dst. Assumes nothing.
use mathlib.Core.Path.{refl}
use native.Mathlib.Omega.{arith}
use lib.ListN.{length-set}
use Rattle.octets.proofs.Octets.{length_flip, turning_none, turning_more, turning_all}
use Rattle.octets.proofs.Write.{too_short, written}
use Rattle.octets.proofs.put_reversed.Goals as goal

pub returns-then-dst-n : goal.returns-then-dst-n
returns-then-dst-n c = too_short _ _ _ (length_flip _) c.if-dst-n.true

pub loop-i-init : goal.loop-i-init
loop-i-init c = (refl, turning_none _ _)

pub loop-i-preserved : goal.loop-i-preserved
loop-i-preserved c =
    (simp length-set (omega arith), turning_more _ _ _ _ c.loop-i.invariant.1 c.loop-i-test.true c.if-dst-n.false)

pub returns : goal.returns
returns c = written _ _ _ (length_flip _) _ c.if-dst-n.false (turning_all _ _ _ _ c.loop-i.invariant.1 (omega arith))
