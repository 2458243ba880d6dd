-- `inputs::place_call` meets its contract. Assumes nothing.
use Rattle.std.proofs.Common.{rules}
use Rattle.inputs.proofs.Rows.{call_rows_lem}
use mathlib.Core.Path.{refl, ap}
use Rattle.fields.specs.Fields.{little}
use lib.ListN.{length}
use Rattle.fields.proofs.Parts.{first, more, as_rows}
use Rattle.inputs.proofs.place_call.Goals as goal

pub returns : goal.returns
unfolding little
returns c =
    let f = first 156 c.place_drawn.ensures (search rules) in
    let f = more f c.place_array.ensures refl in
    let f = more f c.place_array-2.ensures refl in
    let f = more f c.place_array-3.ensures refl in
    let f = more f c.place_array-4.ensures refl in
    let f = more f c.place_checks.ensures refl in
    as_rows _ f.placed (rw c.bytes4.ensures (call_rows_lem c.args.call))
