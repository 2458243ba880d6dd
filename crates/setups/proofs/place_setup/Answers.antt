-- `setups::place_setup` meets its contract. Assumes nothing.
use Rattle.std.proofs.Common.{rules}
use mathlib.Core.Path.{refl, ap}
use mathlib.Core.List.{append-nil}
use Rattle.fields.specs.Fields.{join, little}
use lib.ListN.{length}
use Rattle.fields.proofs.Parts.{first, more, as_rows}
use Rattle.setups.proofs.place_setup.Goals as goal

pub returns : goal.returns
unfolding join little
returns c =
    let f = first 153 c.place_array.ensures (search rules) in
    let f = more f c.place_box.ensures refl in
    as_rows _ f.placed (rw c.setup_head.ensures (simp append-nil))
