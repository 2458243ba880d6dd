-- `octets::put_reversed` meets its contract: after i turns the last i octets of src stand, last first, at the start of dst. Assumes nothing.
use mathlib.Core.Path.{◌≡◌}
use lib.ListN.{length}
use Rattle.octets.proofs.Octets.{turning}
use Rattle.octets.proofs.put_reversed.Given as goal

abbrev pub invariant-loop-i : goal.invariant-loop-i
invariant-loop-i l = (length l.dst ≡ length l.initial.dst) × (l.dst ≡ turning l.src l.initial.dst l.i)
