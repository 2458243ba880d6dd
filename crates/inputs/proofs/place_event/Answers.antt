-- `inputs::place_event` meets its contract. Assumes nothing.
use Rattle.std.proofs.Common.{rules}
use Rattle.inputs.proofs.Rows.{event_rows_lem}
use mathlib.Core.Path.{refl, ap}
use Rattle.fields.specs.Fields.{little}
use lib.ListN.{length}
use Rattle.fields.proofs.Parts.{first, more, as_rows}
use Rattle.inputs.proofs.place_event.Goals as goal

pub returns : goal.returns
unfolding little
returns c =
    let f = first 209 c.place_array.ensures (search rules) in
    let f = more f c.place_array-2.ensures refl in
    let f = more f c.place_array-3.ensures refl in
    let f = more f c.place_array-4.ensures refl in
    let f = more f c.place_array-5.ensures refl in
    as_rows _ f.placed (rw (c.call_octets.ensures, c.event_head.ensures) (event_rows_lem c.args.call))
