-- `inputs::place_drawn` meets its contract. Assumes nothing.
use Rattle.std.proofs.Common.{rules}
use Rattle.inputs.proofs.Rows.{drawn_rows}
use mathlib.Core.Path.{refl, ap}
use Rattle.fields.specs.Fields.{little}
use lib.ListN.{length}
use Rattle.fields.proofs.Parts.{first, more, as_rows}
use Rattle.fields.proofs.Flags.{flag_byte}
use Rattle.inputs.proofs.place_drawn.Goals as goal

pub returns : goal.returns
unfolding little
returns c =
    let f = first 156 c.place_array.ensures (search rules) in
    let f = more f c.place_array-2.ensures refl in
    let f = more f c.place_array-3.ensures refl in
    let f = more f c.place_array-4.ensures refl in
    let f = more f c.place_array-5.ensures refl in
    as_rows _ f.placed (rw (c.bytes2.ensures, c.given_number.ensures, c.bytes4.ensures, c.from.ensures, flag_byte c.args.call.supplied.dhvalid) (drawn_rows c.args.call))
