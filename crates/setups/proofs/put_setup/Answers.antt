-- `setups::put_setup` meets its contract. Assumes nothing.
use mathlib.Core.Path.{refl}
use borrow.Author.Tests.{le-leb, lt-leb}
use Rattle.setups.specs.Setup.{setup_octets}
use Rattle.fields.proofs.Parts.{nothing, wrote_as, all_placed}
use Rattle.setups.proofs.put_setup.Goals as goal

pub returns-then-call-gt512 : goal.returns-then-call-gt512
unfolding setup_octets
returns-then-call-gt512 c = rw (lt-leb _ _ c.if-call-gt512.true) (nothing _)

pub returns : goal.returns
unfolding setup_octets
returns c = rw (le-leb _ _ c.if-call-gt512.false) (wrote_as _ (all_placed c.place_setup.ensures refl) c.put.ensures)
