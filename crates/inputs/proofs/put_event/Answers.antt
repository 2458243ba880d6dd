-- `inputs::put_event` meets its contract. Assumes nothing.
use mathlib.Core.Path.{refl}
use borrow.Author.Tests.{le-leb, lt-leb}
use Rattle.inputs.specs.Input.{event_octets}
use Rattle.fields.proofs.Parts.{nothing, wrote_as, all_placed}
use Rattle.inputs.proofs.put_event.Goals as goal

pub returns-then-call-gt512 : goal.returns-then-call-gt512
unfolding event_octets
returns-then-call-gt512 c = rw (lt-leb _ _ c.if-call-gt512.true) (nothing _)

pub returns : goal.returns
unfolding event_octets
returns c = rw (le-leb _ _ c.if-call-gt512.false) (wrote_as _ (all_placed c.place_event.ensures refl) c.put.ensures)
