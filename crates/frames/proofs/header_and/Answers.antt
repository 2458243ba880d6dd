-- `frames::header_and` meets its contract. Assumes nothing.
use mathlib.Core.Path.{refl}
use Rattle.octets.proofs.Write.{then_store}
use Rattle.frames.specs.Packets.{channel, head}
use Rattle.frames.proofs.header_and.Goals as goal

pub returns : goal.returns
returns c = then_store (head channel _ _) _ 5 refl _ _ c.requires c.header.ensures
