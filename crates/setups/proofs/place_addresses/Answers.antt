-- `setups::place_addresses` meets its contract. Assumes nothing.
use Rattle.std.proofs.Common.{rules}
use mathlib.Core.Path.{refl}
use Rattle.fields.proofs.Parts.{first, more}
use Rattle.setups.proofs.place_addresses.Goals as goal

pub returns : goal.returns
returns c =
    let f = first 62 c.place_address.ensures (search rules) in
    let f = more f c.place_address-2.ensures refl in
    let f = more f c.place_address-3.ensures refl in
    f.placed
