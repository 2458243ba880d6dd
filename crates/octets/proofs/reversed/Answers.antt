-- `octets::reversed` meets its contract. Assumes nothing.
use mathlib.Core.Path.{sym}
use lib.ListN.{length-replicate}
use Rattle.octets.specs.Octets.{zeros}
use Rattle.octets.proofs.Octets.{turned_other, turned_put}
use Rattle.octets.proofs.reversed.Goals as goal

pub returns-then-src : goal.returns-then-src
returns-then-src g c = turned_put g.row.N _ c.put_reversed.ensures (length-replicate g.row.N 0) c.if-src.true

pub returns-else-src : goal.returns-else-src
unfolding zeros
returns-else-src g c = sym (turned_other g.row.N _ c.if-src.false)
