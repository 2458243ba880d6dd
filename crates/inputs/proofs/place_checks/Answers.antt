-- `inputs::place_checks` meets its contract. Assumes nothing.
use Rattle.std.proofs.Common.{rules}
use mathlib.Core.Path.{refl}
use mathlib.Core.List.{append_assoc, append-nil}
use Rattle.fields.specs.Fields.{join}
use Rattle.fields.proofs.Parts.{first, more, as_rows}
use Rattle.inputs.proofs.place_checks.Goals as goal

pub returns : goal.returns
unfolding join
returns c =
    let f = first 64 c.place_array.ensures (search rules) in
    let f = more f c.place_array-2.ensures refl in
    let f = more f c.place_array-3.ensures refl in
    let f = more f c.place_array-4.ensures refl in
    as_rows _ f.placed (simp (append_assoc, append-nil))
