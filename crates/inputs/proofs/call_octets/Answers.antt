-- `inputs::call_octets` meets its contract. Assumes nothing.
use mathlib.Core.Path.{refl}
use Rattle.fields.proofs.Parts.{all_placed}
use Rattle.inputs.proofs.call_octets.Goals as goal

pub returns : goal.returns
returns c = all_placed c.place_call.ensures refl
