-- `setups::place_bond` meets its contract. Assumes nothing.
use Rattle.std.proofs.Common.{rules}
use Rattle.setups.proofs.Rows.{bond_rows_lem}
use mathlib.Core.Path.{refl}
use Rattle.fields.proofs.Parts.{first, more, as_rows}
use Rattle.fields.proofs.Flags.{flag_byte}
use Rattle.setups.proofs.place_bond.Goals as goal

pub returns : goal.returns
returns c =
    let f = first 41 c.place_array.ensures (search rules) in
    let f = more f c.place_array-2.ensures refl in
    let f = more f c.place_array-3.ensures refl in
    let f = more f c.place_address.ensures refl in
    let f = more f c.place_array-4.ensures refl in
    as_rows _ f.placed (rw (c.from.ensures, flag_byte c.args.there, c.from-2.ensures) (bond_rows_lem c.args.there c.args.bond))
