-- `octets::equal` meets its contract: after i turns `alike` says whether the first i octets agree. Assumes nothing.
use mathlib.Core.Path.{◌≡◌}
use Rattle.octets.proofs.Octets as octets
use Rattle.octets.proofs.equal.Given as goal

abbrev pub invariant-loop-i : goal.invariant-loop-i
invariant-loop-i l = l.alike ≡ octets.alike l.a l.b l.i
