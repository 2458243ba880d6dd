-- `setups::place_box` meets its contract. Assumes nothing.
use Rattle.std.proofs.Common.{rules}
use Rattle.setups.proofs.Rows.{box_rows_lem}
use mathlib.Core.Path.{refl}
use Rattle.fields.proofs.Parts.{first, more, as_rows}
use Rattle.setups.proofs.place_box.Goals as goal

pub returns : goal.returns
returns c =
    let f = first 142 c.place_array.ensures (search rules) in
    let f = more f c.place_array-2.ensures refl in
    let f = more f c.place_array-3.ensures refl in
    let f = more f c.place_addresses.ensures refl in
    let f = more f c.place_bond.ensures refl in
    as_rows _ f.placed (box_rows_lem c.args.call)
